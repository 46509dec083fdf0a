use Rattle.mining.specs.Between.{IsSure, KeepsWhole}
use Rattle.mining.proofs.Failures.{answer_err, stop_then, done_then, quiet_done}
use Rattle.mining.specs.declared.run.Reached.{Reached}
use Rattle.job.specs.Failing.{gained}
use Rattle.mining.proofs.JobsAdded.{behind_gain, behind_finish, gain_of, gain_within, none_finish, steps_on}
use Rattle.mining.specs.Jobs.{rank_after, rank_from, rank_of_end}
use Rattle.std.proofs.Common.{rules, ◌≡◌, ℕ, ◌+◌, ◌-◌, ◌^◌, ◌<◌, sym, subst, arith, refl}
use Rattle.dir_disk.specs.Moments.{Told, EachImage, Through, files, Both}
use Rattle.dir_disk.proofs.Through.{then_goes, started}
use Rattle.mining.specs.declared.place.Place.TheVariants.{Vector}
use Rattle.mining.specs.Flow.{Mining, mining_of}
use Rattle.mining.specs.Kept.{AllKept, Kept}
use Rattle.mining.specs.Iterations.{IsNext}
use Rattle.mining.proofs.EnsureLemmas.{kept_after, stays_after, stays_then, sure_kept}
use Rattle.mining.proofs.LastLemmas.{goes_on, most_small, next_up_to, part_of_all, part_of_next, said_more, said_none, up_to_last}
use Rattle.mining.specs.Stored.{IsNotAsMade}
use Rattle.mining.specs.Table.{matrix_for}
use Rattle.mining.proofs.StoredLemmas.{err_is, matrix_there}
use Rattle.mining.proofs.ReadLemmas.{one_more, vectors_stay}
use Rattle.mining.proofs.run.run_iterations.Goals as goal

pub returns-in_err-changed-clause-stays : goal.returns-in_err-changed-clause-stays
returns-in_err-changed-clause-stays g c =
    λ tells.
    stays_then (g.S.Dir.told c.args.site.now) (g.S.Dir.told c.loop-at.site) (g.S.Dir.told c.next_iteration.new.site) (c.loop-at.invariant.stays tells) (c.next_iteration.ensures.stays tells)

pub returns-in_err-changed-clause-kept : goal.returns-in_err-changed-clause-kept
returns-in_err-changed-clause-kept g c =
    λ edges tells kept start.
    let mining : Mining = mining_of g.S.Site.gives c.args.conf.now edges in
    let d : Told = g.S.Dir.told c.args.site.now in
    let e : Told = g.S.Dir.told c.loop-at.site in
    let f : Told = g.S.Dir.told c.next_iteration.new.site in
    let first : Through (EachImage (Kept mining)) d e = c.loop-at.invariant.kept edges tells kept start in
    let kept_then : AllKept mining (files e) = kept_after mining d e kept first in
    let few : c.loop-at.at.k + 1 < 10 ^ 10 = (let small = most_small c.args.conf.now c.requires.limits in let most = c.loop-at.invariant.most in let below = c.loop-at-test.true in omega (arith, small, most, below)) in
    let next : IsNext mining (c.loop-at.at.k + 1) (files e) = goes_on mining c.loop-at.at.k c.loop-at.at.changed (c.loop-at.invariant.reached edges tells kept start).count (files e) (λ q. g.met.S.Dir.now_allowed c.loop-at.site q tells) kept_then few (c.loop-at.invariant.sure tells) (sym c.if-not-is_end.ensures) in
    then_goes (EachImage (Kept mining)) d e f first (c.next_iteration.ensures.kept edges tells kept_then next)

pub loop-at-preserved : goal.loop-at-preserved
loop-at-preserved g c =
    record {
      answers = done_then g.S.Dir.tells g.S.Site.gives c.args.conf.now (g.S.Site.seen c.args.site.now) (g.S.Site.seen c.loop-at.site) (g.S.Site.seen c.next_iteration.new.site) (g.S.Site.given c.args.site.now) (g.S.Site.given c.loop-at.site) (g.S.Site.given c.next_iteration.new.site) (g.S.Dir.told c.loop-at.site) (g.S.Dir.told c.next_iteration.new.site) (rank_after c.args.from.k) (rank_after c.loop-at.at.k) (rank_from (c.loop-at.at.k + 1)) (rank_after (c.loop-at.at.k + 1)) (omega arith) c.loop-at.invariant.log c.next_iteration.ensures.log c.loop-at.invariant.answers c.in_ok-changed.ensures.answers;
      log = behind_finish g.S.Dir.tells g.S.Site.gives c.args.conf.now (g.S.Site.seen c.args.site.now) (g.S.Site.seen c.loop-at.site) (g.S.Site.seen c.next_iteration.new.site) (g.S.Site.given c.args.site.now) (g.S.Site.given c.loop-at.site) (g.S.Site.given c.next_iteration.new.site) (g.S.Dir.told c.loop-at.site) (g.S.Dir.told c.next_iteration.new.site) (rank_after c.args.from.k) (rank_after c.args.from.k) (rank_after c.loop-at.at.k) (rank_from (c.loop-at.at.k + 1)) (rank_after (c.loop-at.at.k + 1)) (rank_after (c.loop-at.at.k + 1)) (omega arith) (omega arith) (omega arith) (λ tells. steps_on (g.S.Dir.told c.loop-at.site) (g.S.Dir.told c.next_iteration.new.site) (c.next_iteration.ensures.stays tells)) c.loop-at.invariant.log c.in_ok-changed.ensures.logged;
      most = c.loop-at.invariant.most;
      from = (let from = c.loop-at.invariant.from in omega (arith, from));
      few = (let below = c.loop-at-test.true in omega (arith, below));
      faults = search rules;
      say_faults = search rules;
      none_running = c.next_iteration.ensures.none_running;
      firm = c.in_ok-changed.ensures.firm;
      sure = c.in_ok-changed.ensures.sure;
      read = λ tells. let small = most_small c.args.conf.now c.requires.limits in let most = c.loop-at.invariant.most in let few = c.loop-at.invariant.few in let e : Told = g.S.Dir.told c.loop-at.site in let f : Told = g.S.Dir.told c.next_iteration.new.site in one_more c.args.conf.now (c.args.from.k + 1) c.loop-at.at.k (files f) (vectors_stay c.args.conf.now (c.args.from.k + 1) c.loop-at.at.k (files e) (files f) (omega (arith, small, most, few)) (stays_after e f (c.next_iteration.ensures.stays tells)) (c.loop-at.invariant.read tells)) (c.in_ok-changed.ensures.read tells);
      stays = λ tells. stays_then (g.S.Dir.told c.args.site.now) (g.S.Dir.told c.loop-at.site) (g.S.Dir.told c.next_iteration.new.site) (c.loop-at.invariant.stays tells) (c.next_iteration.ensures.stays tells);
      kept = λ edges tells kept start. let mining : Mining = mining_of g.S.Site.gives c.args.conf.now edges in let d : Told = g.S.Dir.told c.args.site.now in let e : Told = g.S.Dir.told c.loop-at.site in let f : Told = g.S.Dir.told c.next_iteration.new.site in let first : Through (EachImage (Kept mining)) d e = c.loop-at.invariant.kept edges tells kept start in let kept_then : AllKept mining (files e) = kept_after mining d e kept first in let few : c.loop-at.at.k + 1 < 10 ^ 10 = (let small = most_small c.args.conf.now c.requires.limits in let most = c.loop-at.invariant.most in let below = c.loop-at-test.true in omega (arith, small, most, below)) in let next : IsNext mining (c.loop-at.at.k + 1) (files e) = goes_on mining c.loop-at.at.k c.loop-at.at.changed (c.loop-at.invariant.reached edges tells kept start).count (files e) (λ q. g.met.S.Dir.now_allowed c.loop-at.site q tells) kept_then few (c.loop-at.invariant.sure tells) (sym c.if-not-is_end.ensures) in then_goes (EachImage (Kept mining)) d e f first (c.next_iteration.ensures.kept edges tells kept_then next);
      reached = λ edges tells kept start. let mining : Mining = mining_of g.S.Site.gives c.args.conf.now edges in let d : Told = g.S.Dir.told c.args.site.now in let e : Told = g.S.Dir.told c.loop-at.site in let f : Told = g.S.Dir.told c.next_iteration.new.site in let first : Through (EachImage (Kept mining)) d e = c.loop-at.invariant.kept edges tells kept start in let kept_then : AllKept mining (files e) = kept_after mining d e kept first in let few : c.loop-at.at.k + 1 < 10 ^ 10 = (let small = most_small c.args.conf.now c.requires.limits in let most = c.loop-at.invariant.most in let below = c.loop-at-test.true in omega (arith, small, most, below)) in let next : IsNext mining (c.loop-at.at.k + 1) (files e) = goes_on mining c.loop-at.at.k c.loop-at.at.changed (c.loop-at.invariant.reached edges tells kept start).count (files e) (λ q. g.met.S.Dir.now_allowed c.loop-at.site q tells) kept_then few (c.loop-at.invariant.sure tells) (sym c.if-not-is_end.ensures) in record { count = λ _ _. c.in_ok-changed.ensures.count edges tells kept_then next };
      said = λ edges tells kept start. let mining : Mining = mining_of g.S.Site.gives c.args.conf.now edges in let d : Told = g.S.Dir.told c.args.site.now in let e : Told = g.S.Dir.told c.loop-at.site in let f : Told = g.S.Dir.told c.next_iteration.new.site in let first : Through (EachImage (Kept mining)) d e = c.loop-at.invariant.kept edges tells kept start in let kept_then : AllKept mining (files e) = kept_after mining d e kept first in let few : c.loop-at.at.k + 1 < 10 ^ 10 = (let small = most_small c.args.conf.now c.requires.limits in let most = c.loop-at.invariant.most in let below = c.loop-at-test.true in omega (arith, small, most, below)) in let next : IsNext mining (c.loop-at.at.k + 1) (files e) = goes_on mining c.loop-at.at.k c.loop-at.at.changed (c.loop-at.invariant.reached edges tells kept start).count (files e) (λ q. g.met.S.Dir.now_allowed c.loop-at.site q tells) kept_then few (c.loop-at.invariant.sure tells) (sym c.if-not-is_end.ensures) in said_more mining (g.S.Console.said c.args.site.now) (g.S.Console.said c.loop-at.site) (g.S.Console.said c.next_iteration.new.site) c.args.from.k c.loop-at.at.k c.in_ok-changed.changed c.loop-at.invariant.from (c.loop-at.invariant.said edges tells kept start) (c.in_ok-changed.ensures.count edges tells kept_then next) c.in_ok-changed.ensures.ok;
      acked = λ entry had tells acks. c.next_iteration.ensures.acked entry had tells (c.loop-at.invariant.acked entry had tells acks);
    }

pub returns-in_err-changed-clause-part : goal.returns-in_err-changed-clause-part
returns-in_err-changed-clause-part g c =
    λ edges l tells kept start last.
    let mining : Mining = mining_of g.S.Site.gives c.args.conf.now edges in
    let d : Told = g.S.Dir.told c.args.site.now in
    let e : Told = g.S.Dir.told c.loop-at.site in
    let f : Told = g.S.Dir.told c.next_iteration.new.site in
    let first : Through (EachImage (Kept mining)) d e = c.loop-at.invariant.kept edges tells kept start in
    let kept_then : AllKept mining (files e) = kept_after mining d e kept first in
    let few : c.loop-at.at.k + 1 < 10 ^ 10 = (let small = most_small c.args.conf.now c.requires.limits in let most = c.loop-at.invariant.most in let below = c.loop-at-test.true in omega (arith, small, most, below)) in
    let next : IsNext mining (c.loop-at.at.k + 1) (files e) = goes_on mining c.loop-at.at.k c.loop-at.at.changed (c.loop-at.invariant.reached edges tells kept start).count (files e) (λ q. g.met.S.Dir.now_allowed c.loop-at.site q tells) kept_then few (c.loop-at.invariant.sure tells) (sym c.if-not-is_end.ensures) in
    part_of_next mining (g.S.Console.said c.args.site.now) (g.S.Console.said c.loop-at.site) (g.S.Console.said c.next_iteration.new.site) c.args.from.k c.loop-at.at.k l c.loop-at.invariant.from (next_up_to mining (c.loop-at.at.k + 1) l (files e) next last) (c.loop-at.invariant.said edges tells kept start) (c.next_iteration.ensures.part edges tells kept_then next)

pub returns-clause-part : goal.returns-clause-part
returns-clause-part g c =
    λ edges l tells kept start last.
    let mining : Mining = mining_of g.S.Site.gives c.args.conf.now edges in
    let d : Told = g.S.Dir.told c.args.site.now in
    let e : Told = g.S.Dir.told c.loop-at.site in
    let first : Through (EachImage (Kept mining)) d e = c.loop-at.invariant.kept edges tells kept start in
    let kept_then : AllKept mining (files e) = kept_after mining d e kept first in
    let few : c.loop-at.at.k < 10 ^ 10 = (let small = most_small c.args.conf.now c.requires.limits in let most = c.loop-at.invariant.most in let below = c.loop-at.invariant.few in omega (arith, small, most, below)) in
    part_of_all mining (g.S.Console.said c.args.site.now) (g.S.Console.said c.loop-at.site) c.args.from.k c.loop-at.at.k l c.loop-at.invariant.from (up_to_last mining c.loop-at.at.k l (files e) (λ q. g.met.S.Dir.now_allowed c.loop-at.site q tells) kept_then few (c.loop-at.invariant.sure tells) last) (c.loop-at.invariant.said edges tells kept start)

pub returns-in_err-changed-clause-log : goal.returns-in_err-changed-clause-log
returns-in_err-changed-clause-log g c =
    let small = most_small c.args.conf.now c.requires.limits in let most = c.loop-at.invariant.most in let below = c.loop-at-test.true in behind_gain g.S.Dir.tells g.S.Site.gives c.args.conf.now (g.S.Site.seen c.args.site.now) (g.S.Site.seen c.loop-at.site) (g.S.Site.seen c.next_iteration.new.site) (g.S.Site.given c.args.site.now) (g.S.Site.given c.loop-at.site) (g.S.Site.given c.next_iteration.new.site) (g.S.Dir.told c.loop-at.site) (g.S.Dir.told c.next_iteration.new.site) (rank_after c.args.from.k) (rank_after c.args.from.k) (rank_after c.loop-at.at.k) (rank_from (c.loop-at.at.k + 1)) (rank_after (c.loop-at.at.k + 1)) rank_of_end (omega arith) (omega arith) (omega (arith, small, most, below)) (λ tells. steps_on (g.S.Dir.told c.loop-at.site) (g.S.Dir.told c.next_iteration.new.site) (c.next_iteration.ensures.stays tells)) c.loop-at.invariant.log c.next_iteration.ensures.log

pub returns-clause-log : goal.returns-clause-log
returns-clause-log g c =
    let small = most_small c.args.conf.now c.requires.limits in let most = c.loop-at.invariant.most in let few = c.loop-at.invariant.few in gain_within g.S.Dir.tells g.S.Site.gives c.args.conf.now (rank_after c.args.from.k) (rank_after c.args.from.k) (rank_after c.loop-at.at.k) rank_of_end (g.S.Site.seen c.args.site.now) (g.S.Site.seen c.loop-at.site) (g.S.Site.given c.args.site.now) (g.S.Site.given c.loop-at.site) (g.S.Dir.told c.loop-at.site) (omega arith) (omega (arith, small, most, few)) (gain_of g.S.Dir.tells g.S.Site.gives c.args.conf.now (rank_after c.args.from.k) (rank_after c.loop-at.at.k) (g.S.Site.seen c.args.site.now) (g.S.Site.seen c.loop-at.site) (g.S.Site.given c.args.site.now) (g.S.Site.given c.loop-at.site) (g.S.Dir.told c.loop-at.site) c.loop-at.invariant.log)

pub returns-in_err-changed-clause-answers : goal.returns-in_err-changed-clause-answers
returns-in_err-changed-clause-answers g c =
    answer_err Reached (gained (g.S.Site.seen c.args.site.now).log (g.S.Site.seen c.next_iteration.new.site).log) c.from_residual.result (c.in_err-changed.field-0.0) c.from_residual.ensures.1 (stop_then g.S.Dir.tells g.S.Site.gives c.args.conf.now (g.S.Site.seen c.args.site.now) (g.S.Site.seen c.loop-at.site) (g.S.Site.seen c.next_iteration.new.site) (g.S.Site.given c.args.site.now) (g.S.Site.given c.loop-at.site) (g.S.Site.given c.next_iteration.new.site) (g.S.Dir.told c.loop-at.site) (g.S.Dir.told c.next_iteration.new.site) (rank_after c.args.from.k) (rank_after c.loop-at.at.k) (rank_from (c.loop-at.at.k + 1)) (rank_after (c.loop-at.at.k + 1)) c.in_err-changed.field-0.0 (omega arith) c.loop-at.invariant.log c.next_iteration.ensures.log c.loop-at.invariant.answers c.in_err-changed.ensures.answers)

pub loop-at-init : goal.loop-at-init
loop-at-init g c =
    record {
      most = c.most_of-most.ensures;
      from = omega arith;
      few = let most = c.most_of-most.ensures in let from = c.requires.from in omega (arith, most, from);
      faults = refl;
      say_faults = refl;
      none_running = c.requires.none_running;
      answers = quiet_done (g.S.Site.seen c.args.site.now) (g.S.Site.seen c.args.site.now) refl;
      log = none_finish g.S.Dir.tells g.S.Site.gives c.args.conf.now (rank_after c.args.from.k) (rank_after c.args.from.k) (g.S.Site.seen c.args.site.now) (g.S.Site.seen c.args.site.now) (g.S.Site.given c.args.site.now) (g.S.Site.given c.args.site.now) (g.S.Dir.told c.args.site.now) (omega arith) refl (λ _. refl);
      firm = c.requires.firm;
      sure = c.requires.sure;
      read = λ tells k from up_to. absurd (omega (arith, from, up_to));
      stays = λ tells. started (Both (KeepsWhole (files (g.S.Dir.told c.args.site.now)))) (g.S.Dir.told c.args.site.now);
      kept = λ edges tells kept start. started (EachImage (Kept (mining_of g.S.Site.gives c.args.conf.now edges))) (g.S.Dir.told c.args.site.now);
      reached = λ edges tells kept start. start;
      said = λ edges tells kept start. said_none (mining_of g.S.Site.gives c.args.conf.now edges) (g.S.Console.said c.args.site.now) c.args.from.k;
      acked = λ entry had tells acks. acks;
    }

pub returns-in_err-changed-clause-stored : goal.returns-in_err-changed-clause-stored
returns-in_err-changed-clause-stored g c =
    λ tells matrix.
    let d : Told = g.S.Dir.told c.args.site.now in
    let e : Told = g.S.Dir.told c.loop-at.site in
    let conf = c.args.conf.now in
    let there = matrix_there conf.form in
    let before : c.loop-at.at.k ≡ c.loop-at.at.k + 1 - 1 = omega arith in
    err_is (IsNotAsMade conf (files (g.S.Dir.told c.next_iteration.new.site))) c.from_residual.result c.in_err-changed.field-0.0 c.from_residual.ensures.1 (c.in_err-changed.ensures.stored tells (sure_kept (matrix_for conf.form) (files d) (files e) there.0 there.1 (stays_after d e (c.loop-at.invariant.stays tells)) matrix) (subst (λ (j : ℕ). IsSure (Vector j) (files e)) before (c.loop-at.invariant.sure tells)))
