use Rattle.mining.proofs.Failures.{answer_err, stays_answer}
use Rattle.job.specs.Failing.{gained}
use Rattle.mining.proofs.JobsAdded.{gain_stays, finish_stays, done_so, stands_on}
use Rattle.mining.specs.Jobs.{FinishesWithin, rank_of_end, rank_behind}
use Rattle.std.proofs.Common.{◌≡◌, ℕ, List, sym, subst}
use Rattle.dir_disk.specs.Moments.{Told, EachImage, Through, Both, files}
use Rattle.dir_disk.specs.Streams.{AddsPart, added}
use Rattle.std.specs.Prelude.{◌==◌, OnOk}
use Rattle.report.specs.Lines.{done_text}
use Rattle.mining.specs.Flow.{Mining, mining_of}
use Rattle.mining.specs.Kept.{Kept}
use Rattle.mining.specs.Between.{KeepsWhole}
use Rattle.mining.proofs.LastLemmas.{done_is, last_some}
use Rattle.mining.proofs.AckLemmas.{acks_through}
use Rattle.mining.specs.Stored.{IsNotAsMade}
use Rattle.mining.proofs.StoredLemmas.{err_is, err_none}
use Rattle.mining.specs.Read.{IsResultRead}
use Rattle.mining.proofs.ReadLemmas.{ended}
use Rattle.mining.proofs.end.finish.Goals as goal

pub returns-in_err-total-clause-acked : goal.returns-in_err-total-clause-acked
returns-in_err-total-clause-acked g c =
    λ entry had tells acks.
    acks_through had entry (g.S.Dir.told c.args.site.now) (g.S.Dir.told c.result_total.new.site) (g.S.Console.says c.args.site.now) (g.S.Console.says c.result_total.new.site) c.result_total.ensures.says (c.result_total.ensures.stays tells) acks

pub returns-clause-acked : goal.returns-clause-acked
returns-clause-acked g c =
    λ entry had tells acks.
    c.say_done.ensures.acked entry had tells (c.in_ok-total.ensures.fresh tells) (acks_through had entry (g.S.Dir.told c.args.site.now) (g.S.Dir.told c.result_total.new.site) (g.S.Console.says c.args.site.now) (g.S.Console.says c.result_total.new.site) c.result_total.ensures.says (c.result_total.ensures.stays tells) acks)

pub returns-clause-stays : goal.returns-clause-stays
returns-clause-stays g c =
    λ tells.
    let d : Told = g.S.Dir.told c.args.site.now in
    subst (λ (t : Told). Through (Both (KeepsWhole (files d))) d t) (sym (c.say_done.ensures.told tells)) (c.result_total.ensures.stays tells)

pub returns-clause-kept : goal.returns-clause-kept
returns-clause-kept g c =
    λ edges tells kept last form sure.
    let mining : Mining = mining_of g.S.Site.gives c.args.conf.now edges in
    let d : Told = g.S.Dir.told c.args.site.now in
    subst (λ (t : Told). Through (EachImage (Kept mining)) d t) (sym (c.say_done.ensures.told tells)) (c.result_total.ensures.kept edges tells kept last form sure)

pub returns-clause-part : goal.returns-clause-part
returns-clause-part g c =
    λ edges tells kept last at form sure.
    let mining : Mining = mining_of g.S.Site.gives c.args.conf.now edges in
    let line = done_is mining c.args.last.k c.args.last.changed c.in_ok-total.total (last_some mining c.args.last.k last) at.count (c.in_ok-total.ensures.total edges tells kept last form sure) in
    subst (λ (text : List ℕ). AddsPart (g.S.Console.said c.args.site.now) (g.S.Console.said c.say_done.new.site) text) line (subst (λ o. AddsPart o (g.S.Console.said c.say_done.new.site) (done_text c.args.conf.now c.args.last.k (c.args.last.changed == 0) c.in_ok-total.total)) c.result_total.ensures.said c.say_done.ensures.part)

pub returns-clause-ok : goal.returns-clause-ok
returns-clause-ok g c =
    λ edges tells kept last at form sure.
    let mining : Mining = mining_of g.S.Site.gives c.args.conf.now edges in
    let line = done_is mining c.args.last.k c.args.last.changed c.in_ok-total.total (last_some mining c.args.last.k last) at.count (c.in_ok-total.ensures.total edges tells kept last form sure) in
    subst (λ (text : List ℕ). OnOk c.say_done.result (g.S.Console.said c.say_done.new.site ≡ added (g.S.Console.said c.args.site.now) text)) line (subst (λ o. OnOk c.say_done.result (g.S.Console.said c.say_done.new.site ≡ added o (done_text c.args.conf.now c.args.last.k (c.args.last.changed == 0) c.in_ok-total.total))) c.result_total.ensures.said c.say_done.ensures.ok)

pub returns-clause-log : goal.returns-clause-log
returns-clause-log g c =
    gain_stays g.S.Dir.tells g.S.Site.gives c.args.conf.now (g.S.Site.seen c.args.site.now) (g.S.Site.seen c.result_total.new.site) (g.S.Site.seen c.say_done.new.site) (g.S.Site.given c.args.site.now) (g.S.Site.given c.result_total.new.site) (g.S.Site.given c.say_done.new.site) (g.S.Dir.told c.result_total.new.site) (g.S.Dir.told c.say_done.new.site) rank_of_end rank_behind (λ tells. stands_on (g.S.Dir.told c.result_total.new.site) (g.S.Dir.told c.say_done.new.site) (c.say_done.ensures.told tells)) c.in_ok-total.ensures.logged c.say_done.ensures.seen c.say_done.ensures.given

pub returns-clause-logged : goal.returns-clause-logged
returns-clause-logged g c =
    done_so (FinishesWithin g.S.Dir.tells g.S.Site.gives c.args.conf.now rank_of_end rank_behind (g.S.Site.seen c.args.site.now) (g.S.Site.seen c.say_done.new.site) (g.S.Site.given c.args.site.now) (g.S.Site.given c.say_done.new.site) (g.S.Dir.told c.say_done.new.site)) c.say_done.result (finish_stays g.S.Dir.tells g.S.Site.gives c.args.conf.now (g.S.Site.seen c.args.site.now) (g.S.Site.seen c.result_total.new.site) (g.S.Site.seen c.say_done.new.site) (g.S.Site.given c.args.site.now) (g.S.Site.given c.result_total.new.site) (g.S.Site.given c.say_done.new.site) (g.S.Dir.told c.result_total.new.site) (g.S.Dir.told c.say_done.new.site) rank_of_end rank_behind (λ tells. stands_on (g.S.Dir.told c.result_total.new.site) (g.S.Dir.told c.say_done.new.site) (c.say_done.ensures.told tells)) c.in_ok-total.ensures.logged c.say_done.ensures.seen c.say_done.ensures.given)

pub returns-in_err-total-clause-answers : goal.returns-in_err-total-clause-answers
returns-in_err-total-clause-answers g c =
    answer_err (Unit {0}) (gained (g.S.Site.seen c.args.site.now).log (g.S.Site.seen c.result_total.new.site).log) c.from_residual.result (c.in_err-total.field-0.0) c.from_residual.ensures.1 (c.in_err-total.ensures.answers)

pub returns-clause-answers : goal.returns-clause-answers
returns-clause-answers g c =
    stays_answer (Unit {0}) (g.S.Site.seen c.args.site.now) (g.S.Site.seen c.result_total.new.site) (g.S.Site.seen c.say_done.new.site) c.say_done.result c.say_done.ensures.seen c.say_done.ensures.no_task c.in_ok-total.ensures.answers

pub returns-in_err-total-clause-stored : goal.returns-in_err-total-clause-stored
returns-in_err-total-clause-stored g c =
    λ tells numbers.
    err_is (IsNotAsMade c.args.conf.now (files (g.S.Dir.told c.result_total.new.site))) c.from_residual.result c.in_err-total.field-0.0 c.from_residual.ensures.1 (c.in_err-total.ensures.stored tells numbers)

pub returns-clause-stored : goal.returns-clause-stored
returns-clause-stored g c =
    λ tells numbers. err_none (IsNotAsMade c.args.conf.now (files (g.S.Dir.told c.say_done.new.site))) c.say_done.result c.say_done.ensures.no_store

pub returns-clause-read : goal.returns-clause-read
returns-clause-read g c =
    λ tells.
    let e : Told = g.S.Dir.told c.result_total.new.site in
    let f : Told = g.S.Dir.told c.say_done.new.site in
    let total = c.in_ok-total.total in
    let read : IsResultRead c.args.conf.now total (files f) = subst (λ (t : Told). IsResultRead c.args.conf.now total (files t)) (sym (c.say_done.ensures.told tells)) (c.in_ok-total.ensures.read tells) in
    ended c.say_done.result c.args.conf.now c.args.last.k (c.args.last.changed == 0) total (g.S.Console.said c.args.site.now) (g.S.Console.said c.result_total.new.site) (g.S.Console.said c.say_done.new.site) (files f) c.result_total.ensures.said read c.say_done.ensures.ok
