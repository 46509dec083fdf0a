use Rattle.driver.proofs.Logging.{run_behind, run_refused, run_stays}
use Rattle.mining.proofs.EnsureLemmas.{stays_after, sure_kept}
use Rattle.mining.proofs.Failures.{answer_err, answer_then}
use Rattle.mining.proofs.JobsAdded.{rank_vector, steps_on}
use Rattle.mining.specs.Jobs.{rank_after, rank_from, rank_of_base}
use Rattle.mining.specs.Places.{rank_of}
use Rattle.job.specs.Failing.{gained}
use Rattle.std.proofs.Common.{◌+◌}
use Rattle.std.proofs.Common.{arith, refl}
use Rattle.dir_disk.specs.Moments.{EachImage, Told, Through, files}
use Rattle.dir_disk.proofs.Through.{then_goes}
use Rattle.mining.specs.declared.place.Place.TheVariants.{Matrix, Vector}
use Rattle.mining.specs.Flow.{Mining, mining_of}
use Rattle.mining.specs.Kept.{AllKept, Kept}
use Rattle.mining.proofs.EnsureLemmas.{kept_after, stays_then}
use Rattle.driver.proofs.Due.{due_after, first_follows, first_may, read_first}
use Rattle.driver.proofs.Starting.{first_later, later_then}
use Rattle.dir_disk.specs.Moments.{files}
use Rattle.mining.specs.Stored.{IsNotAsMade}
use Rattle.mining.proofs.StoredLemmas.{err_is}
use Rattle.driver.proofs.Stored.{first_lacks}
use Rattle.mining.proofs.StoredLemmas.{err_weaker}
use Rattle.mining.specs.Between.{IsSure}
use Rattle.mining.specs.Stored.{LacksFile}
use Rattle.mining.specs.Table.{paths_read}
use Rattle.mining.specs.declared.place.Place.TheVariants.{Nodes}
use Rattle.driver.proofs.TakenUp.{ok_always}
use Rattle.driver.proofs.first.make_base.Goals as goal

pub returns-clause-stays : goal.returns-clause-stays
returns-clause-stays g c =
    λ tells. stays_then (g.S.Dir.told c.args.site.now) (g.S.Dir.told c.make_matrix.new.site) (g.S.Dir.told c.ensure_folder.new.site) (c.make_matrix.ensures.stays tells) (c.ensure_folder.ensures.stays tells)

pub returns-clause-kept : goal.returns-clause-kept
returns-clause-kept g c =
    λ edges tells kept sure form.
    let mining : Mining = mining_of g.S.Site.gives c.args.conf.now edges in
    let d : Told = g.S.Dir.told c.args.site.now in
    let e : Told = g.S.Dir.told c.make_matrix.new.site in
    let f : Told = g.S.Dir.told c.ensure_folder.new.site in
    let first : Through (EachImage (Kept mining)) d e = c.make_matrix.ensures.kept edges tells kept sure form in
    let then_kept : AllKept mining (files e) = kept_after mining d e kept first in
    let matrix = c.in_ok-make_matrix.ensures.sure tells in
    then_goes (EachImage (Kept mining)) d e f first (c.ensure_folder.ensures.kept edges tells then_kept (due_after mining Matrix (Vector 0) (files e) (λ q. g.met.S.Dir.now_allowed c.make_matrix.new.site q tells) then_kept tt refl (omega arith) refl (first_may mining) (first_follows mining form) matrix) (read_first mining 0 (files e) (λ q. g.met.S.Dir.now_allowed c.make_matrix.new.site q tells) then_kept matrix))

pub returns-clause-later : goal.returns-clause-later
returns-clause-later g c =
    λ tells. later_then (files (g.S.Dir.told c.args.site.now)) (files (g.S.Dir.told c.make_matrix.new.site)) (files (g.S.Dir.told c.ensure_folder.new.site)) (c.make_matrix.ensures.later tells) (first_later (files (g.S.Dir.told c.make_matrix.new.site)) (files (g.S.Dir.told c.ensure_folder.new.site)) (c.ensure_folder.ensures.outside tells))

pub returns-in_err-make_matrix-clause-jobs : goal.returns-in_err-make_matrix-clause-jobs
returns-in_err-make_matrix-clause-jobs g c =
    run_refused g.S.Dir.tells g.S.Site.gives c.args.conf.now rank_of_base (rank_from 0) (rank_after 0) (g.S.Site.seen c.args.site.now) (g.S.Site.seen c.make_matrix.new.site) (g.S.Site.given c.args.site.now) (g.S.Site.given c.make_matrix.new.site) (g.S.Dir.told c.make_matrix.new.site) c.from_residual.result c.in_err-make_matrix.field-0.0 (omega arith) c.from_residual.ensures.1 c.make_matrix.ensures.jobs.gains

pub returns-in_err-make_matrix-clause-early : goal.returns-in_err-make_matrix-clause-early
returns-in_err-make_matrix-clause-early g c =
    λ tells sure. run_refused g.S.Dir.tells g.S.Site.gives c.args.conf.now rank_of_base (rank_from 0) (rank_from 0) (g.S.Site.seen c.args.site.now) (g.S.Site.seen c.make_matrix.new.site) (g.S.Site.given c.args.site.now) (g.S.Site.given c.make_matrix.new.site) (g.S.Dir.told c.make_matrix.new.site) c.from_residual.result c.in_err-make_matrix.field-0.0 (omega arith) c.from_residual.ensures.1 c.make_matrix.ensures.jobs.gains

pub returns-in_err-make_matrix-clause-answers : goal.returns-in_err-make_matrix-clause-answers
returns-in_err-make_matrix-clause-answers g c =
    answer_err (Unit {0}) (gained (g.S.Site.seen c.args.site.now).log (g.S.Site.seen c.make_matrix.new.site).log) c.from_residual.result c.in_err-make_matrix.field-0.0 c.from_residual.ensures.1 c.in_err-make_matrix.ensures.answers

pub returns-clause-jobs : goal.returns-clause-jobs
returns-clause-jobs g c =
    let v = rank_vector 0 in run_behind g.S.Dir.tells g.S.Site.gives c.args.conf.now (g.S.Site.seen c.args.site.now) (g.S.Site.seen c.make_matrix.new.site) (g.S.Site.seen c.ensure_folder.new.site) (g.S.Site.given c.args.site.now) (g.S.Site.given c.make_matrix.new.site) (g.S.Site.given c.ensure_folder.new.site) (g.S.Dir.told c.make_matrix.new.site) (g.S.Dir.told c.ensure_folder.new.site) rank_of_base (rank_from 0) (rank_of (Vector 0)) (rank_of (Vector 0) + 1) (rank_after 0) c.ensure_folder.result (omega (arith, v)) (omega (arith, v)) (λ tells. steps_on (g.S.Dir.told c.make_matrix.new.site) (g.S.Dir.told c.ensure_folder.new.site) (c.ensure_folder.ensures.stays tells)) c.in_ok-make_matrix.ensures.jobs.done (c.ensure_folder.ensures.log refl) (c.ensure_folder.ensures.logged refl)

pub returns-clause-early : goal.returns-clause-early
returns-clause-early g c =
    λ tells sure.
    let there = sure_kept (Vector 0) (files (g.S.Dir.told c.args.site.now)) (files (g.S.Dir.told c.make_matrix.new.site)) (omega arith) refl (stays_after (g.S.Dir.told c.args.site.now) (g.S.Dir.told c.make_matrix.new.site) (c.make_matrix.ensures.stays tells)) sure in
    let idle = c.ensure_folder.ensures.idle tells there in
    run_stays g.S.Dir.tells g.S.Site.gives c.args.conf.now (g.S.Site.seen c.args.site.now) (g.S.Site.seen c.make_matrix.new.site) (g.S.Site.seen c.ensure_folder.new.site) (g.S.Site.given c.args.site.now) (g.S.Site.given c.make_matrix.new.site) (g.S.Site.given c.ensure_folder.new.site) (g.S.Dir.told c.make_matrix.new.site) (g.S.Dir.told c.ensure_folder.new.site) rank_of_base (rank_from 0) c.ensure_folder.result (λ tells. steps_on (g.S.Dir.told c.make_matrix.new.site) (g.S.Dir.told c.ensure_folder.new.site) (c.ensure_folder.ensures.stays tells)) c.in_ok-make_matrix.ensures.jobs.done idle.0 (λ told. idle.1)

pub returns-clause-answers : goal.returns-clause-answers
returns-clause-answers g c =
    let v = rank_vector 0 in answer_then g.S.Dir.tells g.S.Site.gives c.args.conf.now (g.S.Site.seen c.args.site.now) (g.S.Site.seen c.make_matrix.new.site) (g.S.Site.seen c.ensure_folder.new.site) (g.S.Site.given c.args.site.now) (g.S.Site.given c.make_matrix.new.site) (g.S.Site.given c.ensure_folder.new.site) (g.S.Dir.told c.make_matrix.new.site) (g.S.Dir.told c.ensure_folder.new.site) (Unit {0}) rank_of_base (rank_from 0) (rank_of (Vector 0)) (rank_of (Vector 0) + 1) c.ensure_folder.result (omega (arith, v)) c.in_ok-make_matrix.ensures.jobs.done (c.ensure_folder.ensures.log refl) c.in_ok-make_matrix.ensures.answers c.ensure_folder.ensures.answers

pub returns-clause-matrix : goal.returns-clause-matrix
returns-clause-matrix g c =
    λ tells.
    let e : Told = g.S.Dir.told c.make_matrix.new.site in
    let f : Told = g.S.Dir.told c.ensure_folder.new.site in
    ok_always (IsSure Matrix (files f)) c.ensure_folder.result (sure_kept Matrix (files e) (files f) tt refl (stays_after e f (c.ensure_folder.ensures.stays tells)) (c.in_ok-make_matrix.ensures.sure tells))

pub returns-in_err-make_matrix-clause-stored : goal.returns-in_err-make_matrix-clause-stored
returns-in_err-make_matrix-clause-stored g c =
    λ tells form sure. err_is (IsNotAsMade c.args.conf.now (files (g.S.Dir.told c.make_matrix.new.site))) c.from_residual.result c.in_err-make_matrix.field-0.0 c.from_residual.ensures.1 (c.in_err-make_matrix.ensures.stored tells form sure)

pub returns-clause-stored : goal.returns-clause-stored
returns-clause-stored g c =
    λ tells form sure.
    let e : Told = g.S.Dir.told c.make_matrix.new.site in
    let f : Told = g.S.Dir.told c.ensure_folder.new.site in
    let conf = c.args.conf.now in
    let nodes : IsSure Nodes (files f) = sure_kept Nodes (files e) (files f) tt refl (stays_after e f (c.ensure_folder.ensures.stays tells)) (c.in_ok-make_matrix.ensures.nodes tells) in
    err_weaker (LacksFile (paths_read conf 0 (Vector 0)) (files f)) (IsNotAsMade conf (files f)) c.ensure_folder.result (first_lacks conf 0 (files f) nodes) (c.ensure_folder.ensures.stored tells)
