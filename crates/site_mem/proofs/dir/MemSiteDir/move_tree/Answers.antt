-- What is lent by the directory is what the children that run have.
use Rattle.std.proofs.Common.{◌≡◌, List, sym, ap, ◌∙◌, subst}
use Rattle.dir_disk.specs.Children.{loans_of}
use Rattle.dir_disk.specs.Lent.{IsFree, Loan}
use Rattle.dir_mem.specs.Memory.{lent_of}
use Rattle.site_mem.specs.Memory.{Memory}
use Rattle.site_mem.proofs.dir.MemSiteDir.move_tree.Goals as goal

pub move_tree-requires-clause-lent_from : goal.move_tree-requires-clause-lent_from
move_tree-requires-clause-lent_from g c =
    let lent : loans_of c.args.self.now.seen.running ≡ lent_of c.self.inside.dir = ap (λ (m : Memory). loans_of m.seen.running) (sym c.self.view_is) ∙ sym c.self.invariant in
    subst (λ (loans : List Loan). IsFree loans c.args.from.now) lent c.requires.lent_from

pub move_tree-requires-clause-lent_to : goal.move_tree-requires-clause-lent_to
move_tree-requires-clause-lent_to g c =
    let lent : loans_of c.args.self.now.seen.running ≡ lent_of c.self.inside.dir = ap (λ (m : Memory). loans_of m.seen.running) (sym c.self.view_is) ∙ sym c.self.invariant in
    subst (λ (loans : List Loan). IsFree loans c.args.to.now) lent c.requires.lent_to
