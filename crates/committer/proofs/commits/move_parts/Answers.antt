use Rattle.std.proofs.Common.{arith, rules}
use Rattle.dir_disk.specs.Moments.{files}
use Rattle.committer.proofs.MoveLemmas.{can_move_part, moved_more}
use Rattle.committer.proofs.JobLemmas.{moves_on}
use Rattle.committer.proofs.commits.move_parts.Goals as goal

pub move_part-requires-clause-can : goal.move_part-requires-clause-can
move_part-requires-clause-can g c =
    λ tells.
    can_move_part c.args.folder.now c.args.reducers c.loop-part.part (files (g.D.Dir.told c.args.dir.now)) (files (g.D.Dir.told c.loop-part.dir)) c.requires.few (omega arith) (c.requires.can tells) (c.loop-part.invariant.moved tells)

pub returns-in_err-move_part-clause-steps : goal.returns-in_err-move_part-clause-steps
returns-in_err-move_part-clause-steps g c =
    λ tells.
    moves_on c.args.folder.now c.loop-part.part (g.D.Dir.told c.args.dir.now) (g.D.Dir.told c.loop-part.dir) (g.D.Dir.told c.move_part.new.dir) (c.loop-part.invariant.steps tells) (c.move_part.ensures.steps tells)

pub loop-part-preserved : goal.loop-part-preserved
loop-part-preserved g c =
    record {
      steps = λ tells. moves_on c.args.folder.now c.loop-part.part (g.D.Dir.told c.args.dir.now) (g.D.Dir.told c.loop-part.dir) (g.D.Dir.told c.move_part.new.dir) (c.loop-part.invariant.steps tells) (c.move_part.ensures.steps tells);
      moved = λ tells. moved_more c.args.folder.now c.args.reducers c.loop-part.part (files (g.D.Dir.told c.args.dir.now)) (files (g.D.Dir.told c.loop-part.dir)) (files (g.D.Dir.told c.move_part.new.dir)) c.requires.few (omega arith) (c.requires.can tells) (c.loop-part.invariant.moved tells) (c.in_ok-move_part.ensures.moved tells);
      lent = search rules;
      beside = search rules;
      later = search rules;
    }
