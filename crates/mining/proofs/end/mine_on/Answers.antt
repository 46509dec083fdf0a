use Rattle.mining.proofs.Failures.{answer_err, answer_then, stop_of_none}
use Rattle.mining.specs.declared.stop.Stop.TheVariants.{NoMemory}
use Rattle.job.specs.Failing.{gained}
use Rattle.mining.proofs.JobsAdded.{gain_within, behind_gain, behind_finish, if_done, steps_on}
use Rattle.mining.specs.Jobs.{FinishesWithin, rank_after, rank_of_end, rank_behind}
use Rattle.std.proofs.Common.{◌≡◌, ◌^◌, ◌<◌, ◌+◌, ◌-◌, ℕ, Some, refl, sym, subst, arith}
use Rattle.dir_disk.specs.Moments.{Told, EachImage, Through, files}
use Rattle.dir_disk.specs.Streams.{AddsPart, added}
use Rattle.dir_disk.proofs.Through.{then_goes}
use Rattle.mining.specs.declared.place.Place.TheVariants.{Vector, Results}
use Rattle.mining.specs.Flow.{Mining, last_of, mining_of}
use Rattle.mining.specs.Kept.{AllKept, Kept}
use Rattle.mining.specs.Between.{IsSure}
use Rattle.mining.specs.Iterations.{IsAt, IsDone, console_after, done_line_at, lines_after}
use Rattle.mining.proofs.EnsureLemmas.{kept_after, stays_after, stays_then, sure_kept}
use Rattle.mining.proofs.LastLemmas.{all_then, end_some, is_last, most_small, on_both, part_longer, part_then, same_last}
use Rattle.mining.specs.Stored.{IsNotAsMade}
use Rattle.mining.specs.declared.place.Place.{Place}
use Rattle.mining.proofs.StoredLemmas.{err_is, err_weaker, numbers_are}
use Rattle.mining.proofs.StoredKept.{none_bad}
use Rattle.mining.proofs.ReadLemmas.{has_read, vectors_stay}
use Rattle.mining.proofs.end.mine_on.Goals as goal

pub returns-in_err-last-clause-part : goal.returns-in_err-last-clause-part
returns-in_err-last-clause-part g c =
    λ edges l tells kept start form last.
    let mining : Mining = mining_of g.S.Site.gives c.args.conf.now edges in
    part_longer (g.S.Console.said c.args.site.now) (g.S.Console.said c.run_iterations.new.site) (lines_after mining c.args.from.k (l - c.args.from.k)) (done_line_at mining l) (c.run_iterations.ensures.part edges l tells kept start last)

pub returns-then-not-is_end-clause-part : goal.returns-then-not-is_end-clause-part
returns-then-not-is_end-clause-part g c =
    λ edges l tells kept start form last.
    let mining : Mining = mining_of g.S.Site.gives c.args.conf.now edges in
    part_longer (g.S.Console.said c.args.site.now) (g.S.Console.said c.run_iterations.new.site) (lines_after mining c.args.from.k (l - c.args.from.k)) (done_line_at mining l) (c.run_iterations.ensures.part edges l tells kept start last)

pub returns-clause-stays : goal.returns-clause-stays
returns-clause-stays g c =
    λ tells.
    stays_then (g.S.Dir.told c.args.site.now) (g.S.Dir.told c.run_iterations.new.site) (g.S.Dir.told c.finish.new.site) (c.run_iterations.ensures.stays tells) (c.finish.ensures.stays tells)

pub returns-clause-kept : goal.returns-clause-kept
returns-clause-kept g c =
    λ edges tells kept start form.
    let mining : Mining = mining_of g.S.Site.gives c.args.conf.now edges in
    let d : Told = g.S.Dir.told c.args.site.now in
    let e : Told = g.S.Dir.told c.run_iterations.new.site in
    let f : Told = g.S.Dir.told c.finish.new.site in
    let k = c.in_ok-last.last.k in
    let first : Through (EachImage (Kept mining)) d e = c.run_iterations.ensures.kept edges tells kept start in
    let kept_then : AllKept mining (files e) = kept_after mining d e kept first in
    let at : IsAt mining k c.in_ok-last.last.changed = c.in_ok-last.ensures.reached edges tells kept start in
    let sure : IsSure (Vector k) (files e) = c.in_ok-last.ensures.sure tells in
    let few : k < 10 ^ 10 = (let small = most_small c.args.conf.now c.requires.limits in let most = c.in_ok-last.ensures.few.1 in omega (arith, small, most)) in
    let end = sym c.if-not-is_end.ensures in
    let is : last_of mining ≡ Some k = is_last mining k c.in_ok-last.last.changed at.count (files e) (λ q. g.met.S.Dir.now_allowed c.run_iterations.new.site q tells) kept_then (end_some c.args.conf.now k (Some c.in_ok-last.last.changed) end) c.in_ok-last.ensures.few.1 few sure end in
    then_goes (EachImage (Kept mining)) d e f first (c.finish.ensures.kept edges tells kept_then is form sure)

pub returns-clause-done : goal.returns-clause-done
returns-clause-done g c =
    λ edges tells kept start form.
    let mining : Mining = mining_of g.S.Site.gives c.args.conf.now edges in
    let d : Told = g.S.Dir.told c.args.site.now in
    let e : Told = g.S.Dir.told c.run_iterations.new.site in
    let f : Told = g.S.Dir.told c.finish.new.site in
    let k = c.in_ok-last.last.k in
    let first : Through (EachImage (Kept mining)) d e = c.run_iterations.ensures.kept edges tells kept start in
    let kept_then : AllKept mining (files e) = kept_after mining d e kept first in
    let at : IsAt mining k c.in_ok-last.last.changed = c.in_ok-last.ensures.reached edges tells kept start in
    let sure : IsSure (Vector k) (files e) = c.in_ok-last.ensures.sure tells in
    let few : k < 10 ^ 10 = (let small = most_small c.args.conf.now c.requires.limits in let most = c.in_ok-last.ensures.few.1 in omega (arith, small, most)) in
    let end = sym c.if-not-is_end.ensures in
    let is : last_of mining ≡ Some k = is_last mining k c.in_ok-last.last.changed at.count (files e) (λ q. g.met.S.Dir.now_allowed c.run_iterations.new.site q tells) kept_then (end_some c.args.conf.now k (Some c.in_ok-last.last.changed) end) c.in_ok-last.ensures.few.1 few sure end in
    on_both (g.S.Console.said c.finish.new.site ≡ added (g.S.Console.said c.run_iterations.new.site) (done_line_at mining k)) (IsSure Results (files f)) (IsDone mining c.args.from.k (g.S.Console.said c.args.site.now) (g.S.Console.said c.finish.new.site) (files f)) c.finish.result (λ said result. record { last = k; is = is; said = all_then (g.S.Console.said c.args.site.now) (g.S.Console.said c.run_iterations.new.site) (g.S.Console.said c.finish.new.site) (lines_after mining c.args.from.k (k - c.args.from.k)) (done_line_at mining k) (c.in_ok-last.ensures.said edges tells kept start) said; vector = sure_kept (Vector k) (files e) (files f) few refl (stays_after e f (c.finish.ensures.stays tells)) sure; result = result }) (c.finish.ensures.ok edges tells kept_then is at form sure) (c.finish.ensures.sure tells)

pub returns-clause-part : goal.returns-clause-part
returns-clause-part g c =
    λ edges l tells kept start form last.
    let mining : Mining = mining_of g.S.Site.gives c.args.conf.now edges in
    let d : Told = g.S.Dir.told c.args.site.now in
    let e : Told = g.S.Dir.told c.run_iterations.new.site in
    let f : Told = g.S.Dir.told c.finish.new.site in
    let k = c.in_ok-last.last.k in
    let first : Through (EachImage (Kept mining)) d e = c.run_iterations.ensures.kept edges tells kept start in
    let kept_then : AllKept mining (files e) = kept_after mining d e kept first in
    let at : IsAt mining k c.in_ok-last.last.changed = c.in_ok-last.ensures.reached edges tells kept start in
    let sure : IsSure (Vector k) (files e) = c.in_ok-last.ensures.sure tells in
    let few : k < 10 ^ 10 = (let small = most_small c.args.conf.now c.requires.limits in let most = c.in_ok-last.ensures.few.1 in omega (arith, small, most)) in
    let end = sym c.if-not-is_end.ensures in
    let is : last_of mining ≡ Some k = is_last mining k c.in_ok-last.last.changed at.count (files e) (λ q. g.met.S.Dir.now_allowed c.run_iterations.new.site q tells) kept_then (end_some c.args.conf.now k (Some c.in_ok-last.last.changed) end) c.in_ok-last.ensures.few.1 few sure end in
    subst (λ (m : ℕ). AddsPart (g.S.Console.said c.args.site.now) (g.S.Console.said c.finish.new.site) (console_after mining c.args.from.k m)) (same_last mining k l is last) (part_then (g.S.Console.said c.args.site.now) (g.S.Console.said c.run_iterations.new.site) (g.S.Console.said c.finish.new.site) (lines_after mining c.args.from.k (k - c.args.from.k)) (done_line_at mining k) (c.in_ok-last.ensures.said edges tells kept start) (c.finish.ensures.part edges tells kept_then is at form sure))

pub returns-in_err-last-clause-log : goal.returns-in_err-last-clause-log
returns-in_err-last-clause-log g c =
    gain_within g.S.Dir.tells g.S.Site.gives c.args.conf.now (rank_after c.args.from.k) (rank_after c.args.from.k) rank_of_end rank_behind (g.S.Site.seen c.args.site.now) (g.S.Site.seen c.run_iterations.new.site) (g.S.Site.given c.args.site.now) (g.S.Site.given c.run_iterations.new.site) (g.S.Dir.told c.run_iterations.new.site) (omega arith) (omega arith) c.run_iterations.ensures.log

pub returns-then-not-is_end-clause-log : goal.returns-then-not-is_end-clause-log
returns-then-not-is_end-clause-log g c =
    gain_within g.S.Dir.tells g.S.Site.gives c.args.conf.now (rank_after c.args.from.k) (rank_after c.args.from.k) rank_of_end rank_behind (g.S.Site.seen c.args.site.now) (g.S.Site.seen c.run_iterations.new.site) (g.S.Site.given c.args.site.now) (g.S.Site.given c.run_iterations.new.site) (g.S.Dir.told c.run_iterations.new.site) (omega arith) (omega arith) c.run_iterations.ensures.log

pub returns-clause-log : goal.returns-clause-log
returns-clause-log g c =
    let small = most_small c.args.conf.now c.requires.limits in let most = c.in_ok-last.ensures.few.1 in behind_gain g.S.Dir.tells g.S.Site.gives c.args.conf.now (g.S.Site.seen c.args.site.now) (g.S.Site.seen c.run_iterations.new.site) (g.S.Site.seen c.finish.new.site) (g.S.Site.given c.args.site.now) (g.S.Site.given c.run_iterations.new.site) (g.S.Site.given c.finish.new.site) (g.S.Dir.told c.run_iterations.new.site) (g.S.Dir.told c.finish.new.site) (rank_after c.args.from.k) (rank_after c.args.from.k) (rank_after c.in_ok-last.last.k) rank_of_end rank_behind rank_behind (omega arith) (omega (arith, small, most)) (omega arith) (λ tells. steps_on (g.S.Dir.told c.run_iterations.new.site) (g.S.Dir.told c.finish.new.site) (c.finish.ensures.stays tells)) c.in_ok-last.ensures.logged c.finish.ensures.log

pub returns-clause-logged : goal.returns-clause-logged
returns-clause-logged g c =
    let small = most_small c.args.conf.now c.requires.limits in let most = c.in_ok-last.ensures.few.1 in if_done (FinishesWithin g.S.Dir.tells g.S.Site.gives c.args.conf.now rank_of_end rank_behind (g.S.Site.seen c.run_iterations.new.site) (g.S.Site.seen c.finish.new.site) (g.S.Site.given c.run_iterations.new.site) (g.S.Site.given c.finish.new.site) (g.S.Dir.told c.finish.new.site)) (FinishesWithin g.S.Dir.tells g.S.Site.gives c.args.conf.now (rank_after c.args.from.k) rank_behind (g.S.Site.seen c.args.site.now) (g.S.Site.seen c.finish.new.site) (g.S.Site.given c.args.site.now) (g.S.Site.given c.finish.new.site) (g.S.Dir.told c.finish.new.site)) c.finish.result (λ next. behind_finish g.S.Dir.tells g.S.Site.gives c.args.conf.now (g.S.Site.seen c.args.site.now) (g.S.Site.seen c.run_iterations.new.site) (g.S.Site.seen c.finish.new.site) (g.S.Site.given c.args.site.now) (g.S.Site.given c.run_iterations.new.site) (g.S.Site.given c.finish.new.site) (g.S.Dir.told c.run_iterations.new.site) (g.S.Dir.told c.finish.new.site) (rank_after c.args.from.k) (rank_after c.args.from.k) (rank_after c.in_ok-last.last.k) rank_of_end rank_behind rank_behind (omega arith) (omega (arith, small, most)) (omega arith) (λ tells. steps_on (g.S.Dir.told c.run_iterations.new.site) (g.S.Dir.told c.finish.new.site) (c.finish.ensures.stays tells)) c.in_ok-last.ensures.logged next) c.finish.ensures.logged

pub returns-in_err-last-clause-answers : goal.returns-in_err-last-clause-answers
returns-in_err-last-clause-answers g c =
    answer_err (Unit {0}) (gained (g.S.Site.seen c.args.site.now).log (g.S.Site.seen c.run_iterations.new.site).log) c.from_residual.result (c.in_err-last.field-0.0) c.from_residual.ensures.1 (c.in_err-last.ensures.answers)

pub returns-then-not-is_end-clause-answers : goal.returns-then-not-is_end-clause-answers
returns-then-not-is_end-clause-answers g c =
    stop_of_none (gained (g.S.Site.seen c.args.site.now).log (g.S.Site.seen c.run_iterations.new.site).log) NoMemory tt c.in_ok-last.ensures.answers

pub returns-clause-answers : goal.returns-clause-answers
returns-clause-answers g c =
    let small = most_small c.args.conf.now c.requires.limits in let most = c.in_ok-last.ensures.few.1 in answer_then g.S.Dir.tells g.S.Site.gives c.args.conf.now (g.S.Site.seen c.args.site.now) (g.S.Site.seen c.run_iterations.new.site) (g.S.Site.seen c.finish.new.site) (g.S.Site.given c.args.site.now) (g.S.Site.given c.run_iterations.new.site) (g.S.Site.given c.finish.new.site) (g.S.Dir.told c.run_iterations.new.site) (g.S.Dir.told c.finish.new.site) (Unit {0}) (rank_after c.args.from.k) (rank_after c.in_ok-last.last.k) rank_of_end rank_behind c.finish.result (omega (arith, small, most)) c.in_ok-last.ensures.logged c.finish.ensures.log c.in_ok-last.ensures.answers c.finish.ensures.answers

pub returns-in_err-last-clause-stored : goal.returns-in_err-last-clause-stored
returns-in_err-last-clause-stored g c =
    λ tells form matrix.
    err_is (IsNotAsMade c.args.conf.now (files (g.S.Dir.told c.run_iterations.new.site))) c.from_residual.result c.in_err-last.field-0.0 c.from_residual.ensures.1 (c.in_err-last.ensures.stored tells matrix)

pub returns-clause-stored : goal.returns-clause-stored
returns-clause-stored g c =
    λ tells form matrix.
    let e : Told = g.S.Dir.told c.run_iterations.new.site in
    c.finish.ensures.stored tells (subst (λ (p : Place). IsSure p (files e)) (sym (numbers_are c.args.conf.now.form c.in_ok-last.last.k form)) (c.in_ok-last.ensures.sure tells))

pub returns-in_err-last-clause-kept : goal.returns-in_err-last-clause-kept
returns-in_err-last-clause-kept g c = λ edges tells kept start form. c.run_iterations.ensures.kept edges tells kept start

pub returns-then-not-is_end-clause-kept : goal.returns-then-not-is_end-clause-kept
returns-then-not-is_end-clause-kept g c = λ edges tells kept start form. c.run_iterations.ensures.kept edges tells kept start

pub returns-in_err-last-clause-none_bad : goal.returns-in_err-last-clause-none_bad
returns-in_err-last-clause-none_bad g c =
    λ edges tells kept start form matrix readable.
    let mining : Mining = mining_of g.S.Site.gives c.args.conf.now edges in
    let d : Told = g.S.Dir.told c.args.site.now in
    let f : Told = g.S.Dir.told c.run_iterations.new.site in
    let kept_then : AllKept mining (files f) = kept_after mining d f kept (c.run_iterations.ensures.kept edges tells kept start) in
    err_weaker (IsNotAsMade c.args.conf.now (files f)) (λ path line. ⊥) c.from_residual.result (none_bad mining (files f) (λ q. g.met.S.Dir.now_allowed c.run_iterations.new.site q tells) kept_then readable.last readable.is_last readable.count readable.counts readable.total readable.totals) (returns-in_err-last-clause-stored g c tells form matrix)

pub returns-clause-none_bad : goal.returns-clause-none_bad
returns-clause-none_bad g c =
    λ edges tells kept start form matrix readable.
    let mining : Mining = mining_of g.S.Site.gives c.args.conf.now edges in
    let d : Told = g.S.Dir.told c.args.site.now in
    let f : Told = g.S.Dir.told c.finish.new.site in
    let kept_then : AllKept mining (files f) = kept_after mining d f kept (returns-clause-kept g c edges tells kept start form) in
    err_weaker (IsNotAsMade c.args.conf.now (files f)) (λ path line. ⊥) c.finish.result (none_bad mining (files f) (λ q. g.met.S.Dir.now_allowed c.finish.new.site q tells) kept_then readable.last readable.is_last readable.count readable.counts readable.total readable.totals) (returns-clause-stored g c tells form matrix)

pub returns-clause-read : goal.returns-clause-read
returns-clause-read g c =
    λ tells.
    let e : Told = g.S.Dir.told c.run_iterations.new.site in
    let f : Told = g.S.Dir.told c.finish.new.site in
    let conf = c.args.conf.now in
    let k = c.in_ok-last.last.k in
    let few : k < 10 ^ 10 = (let small = most_small conf c.requires.limits in let most = c.in_ok-last.ensures.few.1 in omega (arith, small, most)) in
    let vectors = vectors_stay conf (c.args.from.k + 1) k (files e) (files f) few (stays_after e f (c.finish.ensures.stays tells)) (c.in_ok-last.ensures.read tells) in
    has_read c.finish.result conf (c.args.from.k + 1) k (g.S.Console.said c.run_iterations.new.site) (g.S.Console.said c.finish.new.site) (files f) vectors (c.finish.ensures.read tells)
