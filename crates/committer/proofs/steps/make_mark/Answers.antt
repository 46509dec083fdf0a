use Rattle.std.proofs.Common.{[]}
use Rattle.dir_disk.specs.Calls.{Append, Settle}
use Rattle.dir_disk.specs.Moments.{Told, Through, Both, files}
use Rattle.dir_disk.proofs.Through.{goes_on, keeps, kept}
use Rattle.committer.specs.Folders.{More}
use Rattle.committer.proofs.FolderLemmas.{more_start, more_append, more_settle}
use Rattle.committer.proofs.steps.make_mark.Goals as goal

pub returns-in_err-settle-clause-steps : goal.returns-in_err-settle-clause-steps
returns-in_err-settle-clause-steps g c =
    λ tells.
    let mark = c.args.mark.now in
    let old : Told = g.D.Dir.told c.args.dir.now in
    let mid : Told = g.D.Dir.told c.append.new.self in
    let new : Told = g.D.Dir.told c.settle.new.self in
    let first : Through (Both (More mark (files old))) old mid = keeps (More mark (files old)) old mid (Append mark []) c.append.result (more_start mark (files old)) (c.append.ensures.call tells) (λ q. g.met.D.Dir.now_allowed c.args.dir.now q tells) (λ t steps. more_append mark [] (files old) (files old) t (more_start mark (files old)) steps) in
    let more : More mark (files old) (files mid) = kept (More mark (files old)) old mid first (more_start mark (files old)) in
    goes_on (Both (More mark (files old))) old mid new (Settle mark) c.settle.result first (c.settle.ensures.call tells) (λ q. g.met.D.Dir.now_allowed c.append.new.self q tells) (λ t steps. (more, more_settle mark (files old) (files mid) t more steps))

pub returns-clause-steps : goal.returns-clause-steps
returns-clause-steps g c =
    λ tells.
    let mark = c.args.mark.now in
    let old : Told = g.D.Dir.told c.args.dir.now in
    let mid : Told = g.D.Dir.told c.append.new.self in
    let new : Told = g.D.Dir.told c.settle.new.self in
    let first : Through (Both (More mark (files old))) old mid = keeps (More mark (files old)) old mid (Append mark []) c.append.result (more_start mark (files old)) (c.append.ensures.call tells) (λ q. g.met.D.Dir.now_allowed c.args.dir.now q tells) (λ t steps. more_append mark [] (files old) (files old) t (more_start mark (files old)) steps) in
    let more : More mark (files old) (files mid) = kept (More mark (files old)) old mid first (more_start mark (files old)) in
    goes_on (Both (More mark (files old))) old mid new (Settle mark) c.settle.result first (c.settle.ensures.call tells) (λ q. g.met.D.Dir.now_allowed c.append.new.self q tells) (λ t steps. (more, more_settle mark (files old) (files mid) t more steps))
