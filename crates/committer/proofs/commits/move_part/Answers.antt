use Rattle.std.proofs.Common.{[], ◌∷◌, sym, subst}
use Rattle.peg_base.specs.Names.{Names}
use Rattle.peg_base.proofs.Under.{under-append, under-refl, under-trans}
use Rattle.dir_disk.specs.Lent.{IsFree}
use Rattle.dir_disk.proofs.Lendings.{free_below}
use Rattle.committer.specs.Paths.{temporary_name, part_name, part_of, temporary_of, task_part_of}
use Rattle.committer.proofs.MoveLemmas.{task_below}
use Rattle.committer.proofs.commits.move_part.Goals as goal

pub move_all-requires-clause-lent_from : goal.move_all-requires-clause-lent_from
move_all-requires-clause-lent_from g c =
    let folder = c.args.folder.now in
    let from = task_part_of folder c.args.part in
    let below = under-trans folder (temporary_of folder) from (under-append folder (temporary_name ∷ [])) (task_below folder c.args.part from (under-refl from)) in
    subst (λ (path : Names). IsFree (g.D.Dir.lent c.args.dir.now) path) (sym c.in_ok-from.ensures) (free_below (g.D.Dir.lent c.args.dir.now) folder from below c.requires.lent)

pub move_all-requires-clause-lent_to : goal.move_all-requires-clause-lent_to
move_all-requires-clause-lent_to g c =
    let folder = c.args.folder.now in
    subst (λ (path : Names). IsFree (g.D.Dir.lent c.args.dir.now) path) (sym c.in_ok-to.ensures) (free_below (g.D.Dir.lent c.args.dir.now) folder (part_of folder c.args.part) (under-append folder (part_name c.args.part ∷ [])) c.requires.lent)
