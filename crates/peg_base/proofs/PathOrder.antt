-- The order of paths ties equal paths alone.
use Rattle.std.proofs.Common.{◌≡◌, ◌∙◌, ap}
use Rattle.std.specs.Cmp.Lexicographic.{lists_ties, texts_ties}
use Rattle.std.specs.Ordering.{is_eq}
use Rattle.std.specs.declared.cmp.Ordering.TheVariants.{Equal}
use Rattle.peg_base.specs.Names.{Names, same_path}
use Rattle.peg_base.specs.Order.{name_cmp, path_cmp}
use Rattle.peg_base.proofs.Under.{same_path-true}

pub same_path-path_cmp : (p q : Names) → same_path p q ≡ is_eq (path_cmp p q)
same_path-path_cmp = lists_ties name_cmp texts_ties

pub path_cmp-Equal : (p q : Names) → path_cmp p q ≡ Equal → p ≡ q
path_cmp-Equal p q tied = same_path-true p q (same_path-path_cmp p q ∙ ap is_eq tied)
