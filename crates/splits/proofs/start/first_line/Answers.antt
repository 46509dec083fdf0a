use Rattle.std.proofs.Common.{take, arith}
use Rattle.dir_disk.specs.Moments.{files}
use Rattle.dir_disk.specs.State.{bytes_at}
use Rattle.splits.specs.Copying.{BeginsAt, IsLineEnd}
use Rattle.std.proofs.lemmas.Result.{IfOk-weaker}
use Rattle.splits.proofs.StartLemmas.{begins_at}
use Rattle.splits.proofs.start.first_line.Goals as goal

pub returns-clause-found : goal.returns-clause-found
returns-clause-found g c =
    λ tells.
    let bytes = bytes_at (files (g.D.Dir.told c.args.dir.now)) c.args.path.now in
    let split = c.args.split.now in
    IfOk-weaker c.line_end.result (λ found. IsLineEnd (take split.end bytes) split.start found) (λ found. BeginsAt bytes split found) (λ found (ends : IsLineEnd (take split.end bytes) split.start found). begins_at bytes split found (omega arith) ends) (c.line_end.ensures.found tells)
