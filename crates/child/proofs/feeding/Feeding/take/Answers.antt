use Rattle.std.proofs.Common.{◌-◌, arith}
use Rattle.child.specs.Judging.{most_bytes}
use Rattle.child.specs.Feeding.{fed_of}
use Rattle.child.proofs.FeedingLemmas.{RefusesBytes-past, refuses_within}
use Rattle.child.proofs.feeding.Feeding.take.Goals as goal

pub returns-in-Ok-clause-err : goal.returns-in-Ok-clause-err
returns-in-Ok-clause-err g c =
    RefusesBytes-past (fed_of g.R.Role.standing c.args.self.now) _ c.args.piece.now _ _ c.requires.few (omega arith) c.in-Ok.ensures.ok

pub returns-in-Err-clause-err : goal.returns-in-Err-clause-err
returns-in-Err-clause-err g c =
    refuses_within (fed_of g.R.Role.standing c.args.self.now) c.args.piece.now (most_bytes - c.args.self.now.taken) c.in-Err.status c.in-Err.ensures.err
