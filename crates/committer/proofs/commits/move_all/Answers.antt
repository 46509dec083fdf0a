use Rattle.dir_disk.specs.Calls.{Move}
use Rattle.dir_disk.specs.Moments.{Told, files}
use Rattle.dir_disk.proofs.Through.{keeps}
use Rattle.committer.specs.Commits.{StandsBeside}
use Rattle.committer.proofs.CommitLemmas.{beside_start, beside_move}
use Rattle.committer.proofs.commits.move_all.Goals as goal

pub returns-in_err-move_tree-clause-steps : goal.returns-in_err-move_tree-clause-steps
returns-in_err-move_tree-clause-steps g c =
    λ tells.
    let from = c.args.from.now in
    let to = c.args.to.now in
    let old : Told = g.D.Dir.told c.args.dir.now in
    keeps (StandsBeside from to (files old)) old (g.D.Dir.told c.move_tree.new.self) (Move from to) c.move_tree.result (beside_start from to (files old)) (c.move_tree.ensures.call tells) (λ q. g.met.D.Dir.now_allowed c.args.dir.now q tells) (λ t steps. beside_move from to (files old) t steps)
