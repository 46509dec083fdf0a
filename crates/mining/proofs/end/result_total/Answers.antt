use Rattle.mining.proofs.Failures.{answer_err, stays_answer}
use Rattle.job.specs.Failing.{gained}
use Rattle.mining.proofs.JobsAdded.{gain_stays, finish_stays, done_so, steps_on}
use Rattle.mining.specs.Jobs.{FinishesWithin, rank_of_end, rank_behind}
use Rattle.std.proofs.Common.{◌≡◌, ◌∙◌, ℕ, Some, sym}
use Rattle.dir_disk.specs.State.{IsSound}
use Rattle.job.specs.Inputs.{bytes_at_each}
use Rattle.mining.specs.declared.place.Place.TheVariants.{Results}
use Rattle.mining.specs.Table.{part_paths}
use Rattle.mining.proofs.DueLemmas.{if_ok, total_is}
use Rattle.dir_disk.specs.Moments.{Told, EachImage, Through, files}
use Rattle.dir_disk.proofs.Through.{then_goes}
use Rattle.mining.specs.Flow.{Mining, flow, mining_of, total_in}
use Rattle.mining.specs.Kept.{Kept}
use Rattle.mining.proofs.EnsureLemmas.{kept_after, looks_keep, looks_stay, stays_then}
use Rattle.mining.specs.Stored.{IsNotAsMade}
use Rattle.mining.proofs.StoredLemmas.{err_is}
use Rattle.mining.proofs.end.result_total.Goals as goal

pub returns-clause-stays : goal.returns-clause-stays
returns-clause-stays g c =
    λ tells.
    let e : Told = g.S.Dir.told c.make_result.new.site in
    let f : Told = g.S.Dir.told c.read_total.new.site in
    stays_then (g.S.Dir.told c.args.site.now) e f (c.make_result.ensures.stays tells) (looks_stay e f (c.read_total.ensures.stands tells))

pub returns-clause-kept : goal.returns-clause-kept
returns-clause-kept g c =
    λ edges tells kept last form sure.
    let mining : Mining = mining_of g.S.Site.gives c.args.conf.now edges in
    let d : Told = g.S.Dir.told c.args.site.now in
    let e : Told = g.S.Dir.told c.make_result.new.site in
    let f : Told = g.S.Dir.told c.read_total.new.site in
    let first : Through (EachImage (Kept mining)) d e = c.make_result.ensures.kept edges tells kept last form sure in
    then_goes (EachImage (Kept mining)) d e f first (looks_keep mining e f (kept_after mining d e kept first) (c.read_total.ensures.stands tells))

pub returns-clause-total : goal.returns-clause-total
returns-clause-total g c =
    λ edges tells kept last form sure.
    let mining : Mining = mining_of g.S.Site.gives c.args.conf.now edges in
    let d : Told = g.S.Dir.told c.args.site.now in
    let e : Told = g.S.Dir.told c.make_result.new.site in
    let first : Through (EachImage (Kept mining)) d e = c.make_result.ensures.kept edges tells kept last form sure in
    let sound : IsSound (files e) = λ q. g.met.S.Dir.now_allowed c.make_result.new.site q tells in
    let is = total_is mining (files e) sound (kept_after mining d e kept first) (c.in_ok-make_result.ensures.sure tells) in
    if_ok (λ (total : ℕ). total_in c.args.conf.now.command (bytes_at_each (files e) (part_paths Results c.args.conf.now.reducers)) ≡ Some total) (λ (total : ℕ). total_in c.args.conf.now.command (flow mining Results) ≡ Some total) c.read_total.result (λ total counted. sym is ∙ counted) (c.read_total.ensures.total tells)

pub returns-clause-log : goal.returns-clause-log
returns-clause-log g c =
    gain_stays g.S.Dir.tells g.S.Site.gives c.args.conf.now (g.S.Site.seen c.args.site.now) (g.S.Site.seen c.make_result.new.site) (g.S.Site.seen c.read_total.new.site) (g.S.Site.given c.args.site.now) (g.S.Site.given c.make_result.new.site) (g.S.Site.given c.read_total.new.site) (g.S.Dir.told c.make_result.new.site) (g.S.Dir.told c.read_total.new.site) rank_of_end rank_behind (λ tells. steps_on (g.S.Dir.told c.make_result.new.site) (g.S.Dir.told c.read_total.new.site) (c.read_total.ensures.stands tells)) c.in_ok-make_result.ensures.logged c.read_total.ensures.seen c.read_total.ensures.given

pub returns-clause-logged : goal.returns-clause-logged
returns-clause-logged g c =
    done_so (FinishesWithin g.S.Dir.tells g.S.Site.gives c.args.conf.now rank_of_end rank_behind (g.S.Site.seen c.args.site.now) (g.S.Site.seen c.read_total.new.site) (g.S.Site.given c.args.site.now) (g.S.Site.given c.read_total.new.site) (g.S.Dir.told c.read_total.new.site)) c.read_total.result (finish_stays g.S.Dir.tells g.S.Site.gives c.args.conf.now (g.S.Site.seen c.args.site.now) (g.S.Site.seen c.make_result.new.site) (g.S.Site.seen c.read_total.new.site) (g.S.Site.given c.args.site.now) (g.S.Site.given c.make_result.new.site) (g.S.Site.given c.read_total.new.site) (g.S.Dir.told c.make_result.new.site) (g.S.Dir.told c.read_total.new.site) rank_of_end rank_behind (λ tells. steps_on (g.S.Dir.told c.make_result.new.site) (g.S.Dir.told c.read_total.new.site) (c.read_total.ensures.stands tells)) c.in_ok-make_result.ensures.logged c.read_total.ensures.seen c.read_total.ensures.given)

pub returns-in_err-make_result-clause-answers : goal.returns-in_err-make_result-clause-answers
returns-in_err-make_result-clause-answers g c =
    answer_err ℕ (gained (g.S.Site.seen c.args.site.now).log (g.S.Site.seen c.make_result.new.site).log) c.from_residual.result (c.in_err-make_result.field-0.0) c.from_residual.ensures.1 (c.in_err-make_result.ensures.answers)

pub returns-clause-answers : goal.returns-clause-answers
returns-clause-answers g c =
    stays_answer ℕ (g.S.Site.seen c.args.site.now) (g.S.Site.seen c.make_result.new.site) (g.S.Site.seen c.read_total.new.site) c.read_total.result c.read_total.ensures.seen c.read_total.ensures.no_task c.in_ok-make_result.ensures.answers

pub returns-in_err-make_result-clause-stored : goal.returns-in_err-make_result-clause-stored
returns-in_err-make_result-clause-stored g c =
    λ tells numbers.
    err_is (IsNotAsMade c.args.conf.now (files (g.S.Dir.told c.make_result.new.site))) c.from_residual.result c.in_err-make_result.field-0.0 c.from_residual.ensures.1 (c.in_err-make_result.ensures.stored tells numbers)

pub returns-clause-stored : goal.returns-clause-stored
returns-clause-stored g c =
    λ tells numbers. c.read_total.ensures.stored tells (c.in_ok-make_result.ensures.sure tells)
