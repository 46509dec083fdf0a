use Rattle.mining.proofs.Failures.{answer_err, answer_then}
use Rattle.job.specs.Failing.{gained}
use Rattle.mining.proofs.JobsAdded.{gain_within, behind_gain, behind_finish, if_done, steps_on, rank_messages, rank_vector}
use Rattle.mining.specs.Jobs.{FinishesWithin, rank_from, rank_after}
use Rattle.mining.specs.Places.{rank_of}
use Rattle.mining.specs.declared.place.Place.TheVariants.{Messages, Vector}
use Rattle.std.proofs.Common.{refl, arith, ◌+◌}
use Rattle.dir_disk.specs.State.{IsSound}
use Rattle.dir_disk.specs.Moments.{Told, EachImage, Through, files}
use Rattle.dir_disk.proofs.Through.{then_goes}
use Rattle.mining.specs.Flow.{Mining, mining_of}
use Rattle.mining.specs.Kept.{AllKept, Kept}
use Rattle.mining.specs.Iterations.{IsNext}
use Rattle.mining.proofs.EnsureLemmas.{kept_after, stays_after, stays_then}
use Rattle.mining.proofs.DueLemmas.{due_messages, due_vector, next_kept, read_messages, read_vector}
use Rattle.std.proofs.Common.{◌-◌}
use Rattle.mining.specs.Stored.{IsNotAsMade, LacksFile}
use Rattle.mining.specs.Table.{matrix_for, paths_read}
use Rattle.mining.proofs.EnsureLemmas.{sure_kept}
use Rattle.mining.proofs.StoredLemmas.{err_is, err_weaker, matrix_there, messages_lack, messages_stand, named_weaker, vector_lacks}
use Rattle.mining.proofs.iterate.make_vector.Goals as goal

pub returns-in_err-ensure_folder-clause-kept : goal.returns-in_err-ensure_folder-clause-kept
returns-in_err-ensure_folder-clause-kept g c =
    λ edges tells kept next.
    let mining : Mining = mining_of g.S.Site.gives c.args.conf.now edges in
    let d : Told = g.S.Dir.told c.args.site.now in
    let sound : IsSound (files d) = λ q. g.met.S.Dir.now_allowed c.args.site.now q tells in
    c.ensure_folder.ensures.kept edges tells kept (due_messages mining c.args.k (files d) sound kept next) (read_messages mining c.args.k (files d) sound kept next 0)

pub returns-clause-stays : goal.returns-clause-stays
returns-clause-stays g c =
    λ tells.
    stays_then (g.S.Dir.told c.args.site.now) (g.S.Dir.told c.ensure_folder.new.site) (g.S.Dir.told c.ensure_folder-2.new.site) (c.ensure_folder.ensures.stays tells) (c.ensure_folder-2.ensures.stays tells)

pub returns-clause-kept : goal.returns-clause-kept
returns-clause-kept g c =
    λ edges tells kept next.
    let mining : Mining = mining_of g.S.Site.gives c.args.conf.now edges in
    let d : Told = g.S.Dir.told c.args.site.now in
    let e : Told = g.S.Dir.told c.ensure_folder.new.site in
    let f : Told = g.S.Dir.told c.ensure_folder-2.new.site in
    let sound : IsSound (files d) = λ q. g.met.S.Dir.now_allowed c.args.site.now q tells in
    let sound_then : IsSound (files e) = λ q. g.met.S.Dir.now_allowed c.ensure_folder.new.site q tells in
    let first : Through (EachImage (Kept mining)) d e = c.ensure_folder.ensures.kept edges tells kept (due_messages mining c.args.k (files d) sound kept next) (read_messages mining c.args.k (files d) sound kept next 0) in
    let kept_then : AllKept mining (files e) = kept_after mining d e kept first in
    let next_then : IsNext mining c.args.k (files e) = next_kept mining c.args.k (files d) (files e) (stays_after d e (c.ensure_folder.ensures.stays tells)) next in
    then_goes (EachImage (Kept mining)) d e f first (c.ensure_folder-2.ensures.kept edges tells kept_then (due_vector mining c.args.k (files e) sound_then kept_then next_then) (read_vector mining c.args.k (files e) sound_then kept_then next_then 0 (c.in_ok-ensure_folder.ensures.sure tells)))

pub returns-in_err-ensure_folder-clause-log : goal.returns-in_err-ensure_folder-clause-log
returns-in_err-ensure_folder-clause-log g c =
    let m = rank_messages c.args.k in let v = rank_vector c.args.k in gain_within g.S.Dir.tells g.S.Site.gives c.args.conf.now (rank_from c.args.k) (rank_of (Messages c.args.k)) (rank_of (Messages c.args.k) + 1) (rank_after c.args.k) (g.S.Site.seen c.args.site.now) (g.S.Site.seen c.ensure_folder.new.site) (g.S.Site.given c.args.site.now) (g.S.Site.given c.ensure_folder.new.site) (g.S.Dir.told c.ensure_folder.new.site) (omega (arith, m)) (omega (arith, m)) (c.ensure_folder.ensures.log refl)

pub returns-clause-log : goal.returns-clause-log
returns-clause-log g c =
    let m = rank_messages c.args.k in let v = rank_vector c.args.k in behind_gain g.S.Dir.tells g.S.Site.gives c.args.conf.now (g.S.Site.seen c.args.site.now) (g.S.Site.seen c.ensure_folder.new.site) (g.S.Site.seen c.ensure_folder-2.new.site) (g.S.Site.given c.args.site.now) (g.S.Site.given c.ensure_folder.new.site) (g.S.Site.given c.ensure_folder-2.new.site) (g.S.Dir.told c.ensure_folder.new.site) (g.S.Dir.told c.ensure_folder-2.new.site) (rank_from c.args.k) (rank_of (Messages c.args.k)) (rank_of (Messages c.args.k) + 1) (rank_of (Vector c.args.k)) (rank_of (Vector c.args.k) + 1) (rank_after c.args.k) (omega (arith, m)) (omega (arith, m, v)) (omega (arith, v)) (λ tells. steps_on (g.S.Dir.told c.ensure_folder.new.site) (g.S.Dir.told c.ensure_folder-2.new.site) (c.ensure_folder-2.ensures.stays tells)) (c.in_ok-ensure_folder.ensures.logged refl) (c.ensure_folder-2.ensures.log refl)

pub returns-clause-logged : goal.returns-clause-logged
returns-clause-logged g c =
    if_done (FinishesWithin g.S.Dir.tells g.S.Site.gives c.args.conf.now (rank_of (Vector c.args.k)) (rank_of (Vector c.args.k) + 1) (g.S.Site.seen c.ensure_folder.new.site) (g.S.Site.seen c.ensure_folder-2.new.site) (g.S.Site.given c.ensure_folder.new.site) (g.S.Site.given c.ensure_folder-2.new.site) (g.S.Dir.told c.ensure_folder-2.new.site)) (FinishesWithin g.S.Dir.tells g.S.Site.gives c.args.conf.now (rank_from c.args.k) (rank_after c.args.k) (g.S.Site.seen c.args.site.now) (g.S.Site.seen c.ensure_folder-2.new.site) (g.S.Site.given c.args.site.now) (g.S.Site.given c.ensure_folder-2.new.site) (g.S.Dir.told c.ensure_folder-2.new.site)) c.ensure_folder-2.result (λ next. let m = rank_messages c.args.k in let v = rank_vector c.args.k in behind_finish g.S.Dir.tells g.S.Site.gives c.args.conf.now (g.S.Site.seen c.args.site.now) (g.S.Site.seen c.ensure_folder.new.site) (g.S.Site.seen c.ensure_folder-2.new.site) (g.S.Site.given c.args.site.now) (g.S.Site.given c.ensure_folder.new.site) (g.S.Site.given c.ensure_folder-2.new.site) (g.S.Dir.told c.ensure_folder.new.site) (g.S.Dir.told c.ensure_folder-2.new.site) (rank_from c.args.k) (rank_of (Messages c.args.k)) (rank_of (Messages c.args.k) + 1) (rank_of (Vector c.args.k)) (rank_of (Vector c.args.k) + 1) (rank_after c.args.k) (omega (arith, m)) (omega (arith, m, v)) (omega (arith, v)) (λ tells. steps_on (g.S.Dir.told c.ensure_folder.new.site) (g.S.Dir.told c.ensure_folder-2.new.site) (c.ensure_folder-2.ensures.stays tells)) (c.in_ok-ensure_folder.ensures.logged refl) next) (c.ensure_folder-2.ensures.logged refl)

pub returns-in_err-ensure_folder-clause-answers : goal.returns-in_err-ensure_folder-clause-answers
returns-in_err-ensure_folder-clause-answers g c =
    answer_err (Unit {0}) (gained (g.S.Site.seen c.args.site.now).log (g.S.Site.seen c.ensure_folder.new.site).log) c.from_residual.result (c.in_err-ensure_folder.field-0.0) c.from_residual.ensures.1 (c.in_err-ensure_folder.ensures.answers)

pub returns-clause-answers : goal.returns-clause-answers
returns-clause-answers g c =
    let m = rank_messages c.args.k in let v = rank_vector c.args.k in answer_then g.S.Dir.tells g.S.Site.gives c.args.conf.now (g.S.Site.seen c.args.site.now) (g.S.Site.seen c.ensure_folder.new.site) (g.S.Site.seen c.ensure_folder-2.new.site) (g.S.Site.given c.args.site.now) (g.S.Site.given c.ensure_folder.new.site) (g.S.Site.given c.ensure_folder-2.new.site) (g.S.Dir.told c.ensure_folder.new.site) (g.S.Dir.told c.ensure_folder-2.new.site) (Unit {0}) (rank_of (Messages c.args.k)) (rank_of (Messages c.args.k) + 1) (rank_of (Vector c.args.k)) (rank_of (Vector c.args.k) + 1) c.ensure_folder-2.result (omega (arith, m, v)) (c.in_ok-ensure_folder.ensures.logged refl) (c.ensure_folder-2.ensures.log refl) c.in_ok-ensure_folder.ensures.answers c.ensure_folder-2.ensures.answers

pub returns-in_err-ensure_folder-clause-stored : goal.returns-in_err-ensure_folder-clause-stored
returns-in_err-ensure_folder-clause-stored g c =
    λ tells matrix vector.
    let d : Told = g.S.Dir.told c.args.site.now in
    let e : Told = g.S.Dir.told c.ensure_folder.new.site in
    let conf = c.args.conf.now in
    let k = c.args.k in
    let stop = c.in_err-ensure_folder.field-0.0 in
    let keeps = stays_after d e (c.ensure_folder.ensures.stays tells) in
    let there = matrix_there conf.form in
    let some = c.requires.some in
    let few = c.requires.few in
    err_is (IsNotAsMade conf (files e)) c.from_residual.result stop c.from_residual.ensures.1 (named_weaker (LacksFile (paths_read conf 0 (Messages k)) (files e)) (IsNotAsMade conf (files e)) (messages_lack conf 0 k (files e) some few (sure_kept (matrix_for conf.form) (files d) (files e) there.0 there.1 keeps matrix) (sure_kept (Vector (k - 1)) (files d) (files e) (omega (arith, some, few)) refl keeps vector)) stop (c.in_err-ensure_folder.ensures.stored tells))

pub returns-clause-stored : goal.returns-clause-stored
returns-clause-stored g c =
    λ tells matrix vector.
    let e : Told = g.S.Dir.told c.ensure_folder.new.site in
    let f : Told = g.S.Dir.told c.ensure_folder-2.new.site in
    let conf = c.args.conf.now in
    let k = c.args.k in
    err_weaker (LacksFile (paths_read conf 0 (Vector k)) (files f)) (IsNotAsMade conf (files f)) c.ensure_folder-2.result (vector_lacks conf 0 k (files f) c.requires.some c.requires.few (messages_stand k (files e) (files f) c.requires.some c.requires.few (c.ensure_folder-2.ensures.outside tells) (c.in_ok-ensure_folder.ensures.sure tells))) (c.ensure_folder-2.ensures.stored tells)
