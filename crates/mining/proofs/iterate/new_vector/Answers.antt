use Rattle.mining.proofs.Failures.{answer_err, stays_answer}
use Rattle.job.specs.Failing.{gained}
use Rattle.mining.proofs.JobsAdded.{gain_stays, finish_stays, done_so, steps_on}
use Rattle.mining.specs.Jobs.{FinishesWithin, rank_from, rank_after}
use Rattle.std.proofs.Common.{◌≡◌, ℕ, Some, sym, ◌∙◌}
use Rattle.dir_disk.specs.State.{IsSound}
use Rattle.dir_disk.specs.Moments.{Told, EachImage, Through, files}
use Rattle.dir_disk.proofs.Through.{then_goes}
use Rattle.job.specs.Inputs.{bytes_at_each}
use Rattle.mining.specs.declared.place.Place.TheVariants.{Vector}
use Rattle.mining.specs.Table.{part_paths}
use Rattle.mining.specs.Flow.{Mining, changes_in, count_of, mining_of}
use Rattle.mining.specs.Kept.{Kept}
use Rattle.mining.proofs.EnsureLemmas.{kept_after, looks_keep, looks_stay, stays_then}
use Rattle.mining.proofs.DueLemmas.{count_is, if_ok}
use Rattle.mining.specs.Stored.{IsNotAsMade}
use Rattle.mining.proofs.StoredLemmas.{err_is}
use Rattle.mining.proofs.iterate.new_vector.Goals as goal

pub returns-clause-stays : goal.returns-clause-stays
returns-clause-stays g c =
    λ tells.
    let e : Told = g.S.Dir.told c.make_vector.new.site in
    let f : Told = g.S.Dir.told c.count_changed.new.site in
    stays_then (g.S.Dir.told c.args.site.now) e f (c.make_vector.ensures.stays tells) (looks_stay e f (c.count_changed.ensures.stands tells))

pub returns-clause-kept : goal.returns-clause-kept
returns-clause-kept g c =
    λ edges tells kept next.
    let mining : Mining = mining_of g.S.Site.gives c.args.conf.now edges in
    let d : Told = g.S.Dir.told c.args.site.now in
    let e : Told = g.S.Dir.told c.make_vector.new.site in
    let f : Told = g.S.Dir.told c.count_changed.new.site in
    let first : Through (EachImage (Kept mining)) d e = c.make_vector.ensures.kept edges tells kept next in
    then_goes (EachImage (Kept mining)) d e f first (looks_keep mining e f (kept_after mining d e kept first) (c.count_changed.ensures.stands tells))

pub returns-clause-count : goal.returns-clause-count
returns-clause-count g c =
    λ edges tells kept next.
    let mining : Mining = mining_of g.S.Site.gives c.args.conf.now edges in
    let d : Told = g.S.Dir.told c.args.site.now in
    let e : Told = g.S.Dir.told c.make_vector.new.site in
    let first : Through (EachImage (Kept mining)) d e = c.make_vector.ensures.kept edges tells kept next in
    let sound : IsSound (files e) = λ q. g.met.S.Dir.now_allowed c.make_vector.new.site q tells in
    let is = count_is mining c.args.k (files e) sound (kept_after mining d e kept first) c.requires.few (c.in_ok-make_vector.ensures.sure tells) in
    if_ok (λ (changed : ℕ). changes_in (bytes_at_each (files e) (part_paths (Vector c.args.k) c.args.conf.now.reducers)) ≡ Some changed) (λ (changed : ℕ). count_of mining c.args.k ≡ Some changed) c.count_changed.result (λ changed counted. sym is ∙ counted) (c.count_changed.ensures.count tells)

pub returns-clause-log : goal.returns-clause-log
returns-clause-log g c =
    gain_stays g.S.Dir.tells g.S.Site.gives c.args.conf.now (g.S.Site.seen c.args.site.now) (g.S.Site.seen c.make_vector.new.site) (g.S.Site.seen c.count_changed.new.site) (g.S.Site.given c.args.site.now) (g.S.Site.given c.make_vector.new.site) (g.S.Site.given c.count_changed.new.site) (g.S.Dir.told c.make_vector.new.site) (g.S.Dir.told c.count_changed.new.site) (rank_from c.args.k) (rank_after c.args.k) (λ tells. steps_on (g.S.Dir.told c.make_vector.new.site) (g.S.Dir.told c.count_changed.new.site) (c.count_changed.ensures.stands tells)) c.in_ok-make_vector.ensures.logged c.count_changed.ensures.seen c.count_changed.ensures.given

pub returns-clause-logged : goal.returns-clause-logged
returns-clause-logged g c =
    done_so (FinishesWithin g.S.Dir.tells g.S.Site.gives c.args.conf.now (rank_from c.args.k) (rank_after c.args.k) (g.S.Site.seen c.args.site.now) (g.S.Site.seen c.count_changed.new.site) (g.S.Site.given c.args.site.now) (g.S.Site.given c.count_changed.new.site) (g.S.Dir.told c.count_changed.new.site)) c.count_changed.result (finish_stays g.S.Dir.tells g.S.Site.gives c.args.conf.now (g.S.Site.seen c.args.site.now) (g.S.Site.seen c.make_vector.new.site) (g.S.Site.seen c.count_changed.new.site) (g.S.Site.given c.args.site.now) (g.S.Site.given c.make_vector.new.site) (g.S.Site.given c.count_changed.new.site) (g.S.Dir.told c.make_vector.new.site) (g.S.Dir.told c.count_changed.new.site) (rank_from c.args.k) (rank_after c.args.k) (λ tells. steps_on (g.S.Dir.told c.make_vector.new.site) (g.S.Dir.told c.count_changed.new.site) (c.count_changed.ensures.stands tells)) c.in_ok-make_vector.ensures.logged c.count_changed.ensures.seen c.count_changed.ensures.given)

pub returns-in_err-make_vector-clause-answers : goal.returns-in_err-make_vector-clause-answers
returns-in_err-make_vector-clause-answers g c =
    answer_err ℕ (gained (g.S.Site.seen c.args.site.now).log (g.S.Site.seen c.make_vector.new.site).log) c.from_residual.result (c.in_err-make_vector.field-0.0) c.from_residual.ensures.1 (c.in_err-make_vector.ensures.answers)

pub returns-clause-answers : goal.returns-clause-answers
returns-clause-answers g c =
    stays_answer ℕ (g.S.Site.seen c.args.site.now) (g.S.Site.seen c.make_vector.new.site) (g.S.Site.seen c.count_changed.new.site) c.count_changed.result c.count_changed.ensures.seen c.count_changed.ensures.no_task c.in_ok-make_vector.ensures.answers

pub returns-in_err-make_vector-clause-stored : goal.returns-in_err-make_vector-clause-stored
returns-in_err-make_vector-clause-stored g c =
    λ tells matrix vector.
    err_is (IsNotAsMade c.args.conf.now (files (g.S.Dir.told c.make_vector.new.site))) c.from_residual.result c.in_err-make_vector.field-0.0 c.from_residual.ensures.1 (c.in_err-make_vector.ensures.stored tells matrix vector)

pub returns-clause-stored : goal.returns-clause-stored
returns-clause-stored g c =
    λ tells matrix vector. c.count_changed.ensures.stored tells c.requires.few (c.in_ok-make_vector.ensures.sure tells)

pub returns-clause-read : goal.returns-clause-read
returns-clause-read g c =
    λ tells. c.count_changed.ensures.read tells (c.in_ok-make_vector.ensures.sure tells)
