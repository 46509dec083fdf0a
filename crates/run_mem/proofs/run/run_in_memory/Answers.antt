use Rattle.std.proofs.Common.{◌≡◌, ◌∙◌, ap, [], Some, None}
use Rattle.dir_disk.specs.Moments.{files}
use Rattle.dir_disk.specs.State.{no_files}
use Rattle.dir_mem.specs.Memory.{told_of}
use Rattle.site_mem.specs.Memory.{Memory}
use Rattle.flow.proofs.Ends.{bundled_follow}
use Rattle.flow.specs.Children.{bundled}
use Rattle.flow.specs.Held.{HoldsIterates}
use Rattle.mining.specs.Flow.{mining_of, most_of}
use Rattle.run_mem.proofs.Empty.{answers_after, each_at_end, empty_begins, empty_is_kept, logs_after, written_after}
use Rattle.run_mem.proofs.run.run_in_memory.Goals as goal

pub returns-clause-iterates : goal.returns-clause-iterates
returns-clause-iterates g c =
    λ conf accepted asks image fits.
    let empty : files (told_of c.new-site.result.dir) ≡ no_files = ap (λ (m : Memory). files (told_of m.dir)) c.new-site.ensures.fresh ∙ c.new-dir.ensures.empty in
    each_at_end (HoldsIterates conf accepted) _ _ (c.run-outcome.ensures.iterates conf accepted asks c.new-site.ensures.tells bundled_follow (empty_is_kept (mining_of bundled conf accepted) _ empty)) image fits

pub returns-clause-written : goal.returns-clause-written
returns-clause-written g c =
    λ conf accepted asks is.
    let empty : files (told_of c.new-site.result.dir) ≡ no_files = ap (λ (m : Memory). files (told_of m.dir)) c.new-site.ensures.fresh ∙ c.new-dir.ensures.empty in
    let silent : Some c.new-site.result.voice.said ≡ Some [] = ap (λ (m : Memory). Some m.voice.said) c.new-site.ensures.fresh in
    written_after conf accepted None _ _ _ _ silent
    (c.run-outcome.ensures.written conf accepted None asks c.new-site.ensures.tells bundled_follow (empty_is_kept (mining_of bundled conf accepted) _ empty) (empty_begins (most_of conf conf.command) _ empty) is)

pub returns-clause-log : goal.returns-clause-log
returns-clause-log g c =
    λ conf mean. logs_after bundled conf _ _ _ _ _ _ _ _ (ap (λ (m : Memory). m.seen) c.new-site.ensures.fresh) (ap (λ (m : Memory). m.given) c.new-site.ensures.fresh) (c.run-outcome.ensures.log conf mean None tt)

pub returns-clause-answers : goal.returns-clause-answers
returns-clause-answers g c =
    answers_after _ _ _ (ap (λ (m : Memory). m.seen.log) c.new-site.ensures.fresh) c.run-outcome.ensures.answers

pub returns-clause-stored : goal.returns-clause-stored
returns-clause-stored g c =
    λ conf path line mean is. c.run-outcome.ensures.stored conf path line mean c.new-site.ensures.tells is

pub returns-clause-unblamed : goal.returns-clause-unblamed
returns-clause-unblamed g c =
    λ conf accepted path line asks.
    let empty : files (told_of c.new-site.result.dir) ≡ no_files = ap (λ (m : Memory). files (told_of m.dir)) c.new-site.ensures.fresh ∙ c.new-dir.ensures.empty in
    c.run-outcome.ensures.unblamed conf accepted path line asks c.new-site.ensures.tells bundled_follow (empty_is_kept (mining_of bundled conf accepted) _ empty)
