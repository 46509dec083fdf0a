use Rattle.mining.proofs.Failures.{answer_err, stays_stop, stays_done}
use Rattle.job.specs.Failing.{gained}
use Rattle.mining.proofs.JobsAdded.{gain_stays, finish_stays, steps_on}
use Rattle.mining.specs.Jobs.{rank_from, rank_after}
use Rattle.std.proofs.Common.{refl, ℕ}
use Rattle.dir_disk.specs.Moments.{Told, EachImage, Through, files}
use Rattle.dir_disk.proofs.Through.{then_goes}
use Rattle.mining.specs.declared.place.Place.TheVariants.{Vector}
use Rattle.mining.specs.Flow.{Mining, mining_of}
use Rattle.mining.specs.Kept.{Kept}
use Rattle.mining.proofs.AckLemmas.{acks_through}
use Rattle.mining.proofs.EnsureLemmas.{kept_after, stays_after, stays_then, sure_kept}
use Rattle.mining.proofs.DueLemmas.{next_kept}
use Rattle.mining.specs.Stored.{IsNotAsMade}
use Rattle.mining.proofs.StoredLemmas.{err_is, named_weaker}
use Rattle.mining.proofs.ReadLemmas.{vector_stays}
use Rattle.mining.proofs.iterate.next_iteration.Goals as goal

pub returns-in_err-changed-clause-acked : goal.returns-in_err-changed-clause-acked
returns-in_err-changed-clause-acked g c =
    λ entry had tells acks.
    acks_through had entry (g.S.Dir.told c.args.site.now) (g.S.Dir.told c.new_vector.new.site) (g.S.Console.says c.args.site.now) (g.S.Console.says c.new_vector.new.site) c.new_vector.ensures.says (c.new_vector.ensures.stays tells) acks

pub returns-in_err-announce-clause-acked : goal.returns-in_err-announce-clause-acked
returns-in_err-announce-clause-acked g c =
    λ entry had tells acks.
    c.announce.ensures.acked entry had tells (acks_through had entry (g.S.Dir.told c.args.site.now) (g.S.Dir.told c.new_vector.new.site) (g.S.Console.says c.args.site.now) (g.S.Console.says c.new_vector.new.site) c.new_vector.ensures.says (c.new_vector.ensures.stays tells) acks)

pub returns-clause-acked : goal.returns-clause-acked
returns-clause-acked g c =
    λ entry had tells acks.
    c.announce.ensures.acked entry had tells (acks_through had entry (g.S.Dir.told c.args.site.now) (g.S.Dir.told c.new_vector.new.site) (g.S.Console.says c.args.site.now) (g.S.Console.says c.new_vector.new.site) c.new_vector.ensures.says (c.new_vector.ensures.stays tells) acks)

pub returns-in_err-announce-clause-stays : goal.returns-in_err-announce-clause-stays
returns-in_err-announce-clause-stays g c =
    λ tells.
    stays_then (g.S.Dir.told c.args.site.now) (g.S.Dir.told c.new_vector.new.site) (g.S.Dir.told c.announce.new.site) (c.new_vector.ensures.stays tells) (c.announce.ensures.stays tells)

pub returns-clause-stays : goal.returns-clause-stays
returns-clause-stays g c =
    λ tells.
    stays_then (g.S.Dir.told c.args.site.now) (g.S.Dir.told c.new_vector.new.site) (g.S.Dir.told c.announce.new.site) (c.new_vector.ensures.stays tells) (c.announce.ensures.stays tells)

pub returns-clause-sure : goal.returns-clause-sure
returns-clause-sure g c =
    λ tells.
    let e : Told = g.S.Dir.told c.new_vector.new.site in
    let f : Told = g.S.Dir.told c.announce.new.site in
    sure_kept (Vector c.args.k) (files e) (files f) c.requires.few refl (stays_after e f (c.announce.ensures.stays tells)) (c.in_ok-changed.ensures.sure tells)

pub returns-in_err-announce-clause-kept : goal.returns-in_err-announce-clause-kept
returns-in_err-announce-clause-kept g c =
    λ edges tells kept next.
    let mining : Mining = mining_of g.S.Site.gives c.args.conf.now edges in
    let d : Told = g.S.Dir.told c.args.site.now in
    let e : Told = g.S.Dir.told c.new_vector.new.site in
    let f : Told = g.S.Dir.told c.announce.new.site in
    let first : Through (EachImage (Kept mining)) d e = c.new_vector.ensures.kept edges tells kept next in
    then_goes (EachImage (Kept mining)) d e f first (c.announce.ensures.kept mining tells (kept_after mining d e kept first) (next_kept mining c.args.k (files d) (files e) (stays_after d e (c.new_vector.ensures.stays tells)) next))

pub returns-clause-kept : goal.returns-clause-kept
returns-clause-kept g c =
    λ edges tells kept next.
    let mining : Mining = mining_of g.S.Site.gives c.args.conf.now edges in
    let d : Told = g.S.Dir.told c.args.site.now in
    let e : Told = g.S.Dir.told c.new_vector.new.site in
    let f : Told = g.S.Dir.told c.announce.new.site in
    let first : Through (EachImage (Kept mining)) d e = c.new_vector.ensures.kept edges tells kept next in
    then_goes (EachImage (Kept mining)) d e f first (c.announce.ensures.kept mining tells (kept_after mining d e kept first) (next_kept mining c.args.k (files d) (files e) (stays_after d e (c.new_vector.ensures.stays tells)) next))

pub returns-in_err-announce-clause-log : goal.returns-in_err-announce-clause-log
returns-in_err-announce-clause-log g c =
    gain_stays g.S.Dir.tells g.S.Site.gives c.args.conf.now (g.S.Site.seen c.args.site.now) (g.S.Site.seen c.new_vector.new.site) (g.S.Site.seen c.announce.new.site) (g.S.Site.given c.args.site.now) (g.S.Site.given c.new_vector.new.site) (g.S.Site.given c.announce.new.site) (g.S.Dir.told c.new_vector.new.site) (g.S.Dir.told c.announce.new.site) (rank_from c.args.k) (rank_after c.args.k) (λ tells. steps_on (g.S.Dir.told c.new_vector.new.site) (g.S.Dir.told c.announce.new.site) (c.announce.ensures.stays tells)) c.in_ok-changed.ensures.logged c.announce.ensures.seen c.announce.ensures.given

pub returns-clause-log : goal.returns-clause-log
returns-clause-log g c =
    gain_stays g.S.Dir.tells g.S.Site.gives c.args.conf.now (g.S.Site.seen c.args.site.now) (g.S.Site.seen c.new_vector.new.site) (g.S.Site.seen c.announce.new.site) (g.S.Site.given c.args.site.now) (g.S.Site.given c.new_vector.new.site) (g.S.Site.given c.announce.new.site) (g.S.Dir.told c.new_vector.new.site) (g.S.Dir.told c.announce.new.site) (rank_from c.args.k) (rank_after c.args.k) (λ tells. steps_on (g.S.Dir.told c.new_vector.new.site) (g.S.Dir.told c.announce.new.site) (c.announce.ensures.stays tells)) c.in_ok-changed.ensures.logged c.announce.ensures.seen c.announce.ensures.given

pub returns-clause-logged : goal.returns-clause-logged
returns-clause-logged g c =
    finish_stays g.S.Dir.tells g.S.Site.gives c.args.conf.now (g.S.Site.seen c.args.site.now) (g.S.Site.seen c.new_vector.new.site) (g.S.Site.seen c.announce.new.site) (g.S.Site.given c.args.site.now) (g.S.Site.given c.new_vector.new.site) (g.S.Site.given c.announce.new.site) (g.S.Dir.told c.new_vector.new.site) (g.S.Dir.told c.announce.new.site) (rank_from c.args.k) (rank_after c.args.k) (λ tells. steps_on (g.S.Dir.told c.new_vector.new.site) (g.S.Dir.told c.announce.new.site) (c.announce.ensures.stays tells)) c.in_ok-changed.ensures.logged c.announce.ensures.seen c.announce.ensures.given

pub returns-in_err-changed-clause-answers : goal.returns-in_err-changed-clause-answers
returns-in_err-changed-clause-answers g c =
    answer_err ℕ (gained (g.S.Site.seen c.args.site.now).log (g.S.Site.seen c.new_vector.new.site).log) c.from_residual.result (c.in_err-changed.field-0.0) c.from_residual.ensures.1 (c.in_err-changed.ensures.answers)

pub returns-in_err-announce-clause-answers : goal.returns-in_err-announce-clause-answers
returns-in_err-announce-clause-answers g c =
    answer_err ℕ (gained (g.S.Site.seen c.args.site.now).log (g.S.Site.seen c.announce.new.site).log) c.from_residual-in_err-announce.result (c.in_err-announce.field-0.0) c.from_residual-in_err-announce.ensures.1 (stays_stop (g.S.Site.seen c.args.site.now) (g.S.Site.seen c.new_vector.new.site) (g.S.Site.seen c.announce.new.site) c.in_err-announce.field-0.0 c.announce.ensures.seen c.in_err-announce.ensures.no_task c.in_ok-changed.ensures.answers)

pub returns-clause-answers : goal.returns-clause-answers
returns-clause-answers g c =
    stays_done (g.S.Site.seen c.args.site.now) (g.S.Site.seen c.new_vector.new.site) (g.S.Site.seen c.announce.new.site) c.announce.ensures.seen c.in_ok-changed.ensures.answers

pub returns-in_err-changed-clause-stored : goal.returns-in_err-changed-clause-stored
returns-in_err-changed-clause-stored g c =
    λ tells matrix vector.
    err_is (IsNotAsMade c.args.conf.now (files (g.S.Dir.told c.new_vector.new.site))) c.from_residual.result c.in_err-changed.field-0.0 c.from_residual.ensures.1 (c.in_err-changed.ensures.stored tells matrix vector)

pub returns-in_err-announce-clause-stored : goal.returns-in_err-announce-clause-stored
returns-in_err-announce-clause-stored g c =
    λ tells matrix vector.
    let made = IsNotAsMade c.args.conf.now (files (g.S.Dir.told c.announce.new.site)) in
    err_is made c.from_residual-in_err-announce.result c.in_err-announce.field-0.0 c.from_residual-in_err-announce.ensures.1 (named_weaker (λ path line. ⊥) made (λ path line none. absurd none) c.in_err-announce.field-0.0 c.in_err-announce.ensures.no_store)

pub returns-clause-read : goal.returns-clause-read
returns-clause-read g c =
    λ tells.
    let e : Told = g.S.Dir.told c.new_vector.new.site in
    let f : Told = g.S.Dir.told c.announce.new.site in
    vector_stays c.args.conf.now c.args.k (files e) (files f) c.requires.few (stays_after e f (c.announce.ensures.stays tells)) (c.in_ok-changed.ensures.read tells)
