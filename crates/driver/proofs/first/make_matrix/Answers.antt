use Rattle.driver.proofs.Logging.{none_run, quiet_answer, run_after, run_within}
use Rattle.mining.proofs.Failures.{begun_answer}
use Rattle.mining.proofs.JobsAdded.{rank_matrix}
use Rattle.mining.specs.Jobs.{rank_from, rank_of_base}
use Rattle.mining.specs.Places.{rank_of}
use Rattle.std.proofs.Common.{◌+◌, arith}
use Rattle.std.proofs.Common.{refl}
use Rattle.dir_disk.specs.Moments.{EachImage, Told, Through, files}
use Rattle.dir_disk.proofs.Through.{then_goes}
use Rattle.mining.specs.declared.place.Place.TheVariants.{Nodes, Matrix}
use Rattle.mining.specs.Flow.{Mining, mining_of}
use Rattle.mining.specs.Kept.{AllKept, Kept}
use Rattle.mining.proofs.EnsureLemmas.{kept_after, stays_then}
use Rattle.driver.proofs.Due.{due_after, matrix_follows, read_matrix}
use Rattle.driver.proofs.Starting.{later_then, matrix_later}
use Rattle.dir_disk.specs.Moments.{files}
use Rattle.mining.specs.Stored.{IsNotAsMade}
use Rattle.driver.proofs.Stored.{exits_none, matrix_lacks}
use Rattle.mining.proofs.StoredLemmas.{err_weaker}
use Rattle.mining.proofs.EnsureLemmas.{stays_after, sure_kept}
use Rattle.mining.specs.Between.{IsSure}
use Rattle.mining.specs.Stored.{LacksFile}
use Rattle.mining.specs.Table.{paths_read}
use Rattle.mining.specs.declared.place.Place.TheVariants.{Edges}
use Rattle.driver.proofs.TakenUp.{ok_always}
use Rattle.driver.proofs.first.make_matrix.Goals as goal

pub returns-clause-stays : goal.returns-clause-stays
returns-clause-stays g c =
    λ tells. stays_then (g.S.Dir.told c.args.site.now) (g.S.Dir.told c.make_nodes.new.site) (g.S.Dir.told c.ensure_folder.new.site) (c.make_nodes.ensures.stays tells) (c.ensure_folder.ensures.stays tells)

pub returns-in_err-make_nodes-clause-kept : goal.returns-in_err-make_nodes-clause-kept
returns-in_err-make_nodes-clause-kept g c =
    λ edges tells kept sure form. c.make_nodes.ensures.kept edges tells kept sure

pub returns-clause-kept : goal.returns-clause-kept
returns-clause-kept g c =
    λ edges tells kept sure form.
    let mining : Mining = mining_of g.S.Site.gives c.args.conf.now edges in
    let d : Told = g.S.Dir.told c.args.site.now in
    let e : Told = g.S.Dir.told c.make_nodes.new.site in
    let f : Told = g.S.Dir.told c.ensure_folder.new.site in
    let first : Through (EachImage (Kept mining)) d e = c.make_nodes.ensures.kept edges tells kept sure in
    let then_kept : AllKept mining (files e) = kept_after mining d e kept first in
    let nodes = c.in_ok-make_nodes.ensures.sure tells in
    then_goes (EachImage (Kept mining)) d e f first (c.ensure_folder.ensures.kept edges tells then_kept (due_after mining Nodes Matrix (files e) (λ q. g.met.S.Dir.now_allowed c.make_nodes.new.site q tells) then_kept tt refl tt refl tt (matrix_follows mining form) nodes) (read_matrix mining form 0 (files e) (λ q. g.met.S.Dir.now_allowed c.make_nodes.new.site q tells) then_kept nodes))

pub returns-clause-later : goal.returns-clause-later
returns-clause-later g c =
    λ tells. later_then (files (g.S.Dir.told c.args.site.now)) (files (g.S.Dir.told c.make_nodes.new.site)) (files (g.S.Dir.told c.ensure_folder.new.site)) (c.make_nodes.ensures.later tells) (matrix_later (files (g.S.Dir.told c.make_nodes.new.site)) (files (g.S.Dir.told c.ensure_folder.new.site)) (c.ensure_folder.ensures.outside tells))

pub returns-in_err-make_nodes-clause-jobs : goal.returns-in_err-make_nodes-clause-jobs
returns-in_err-make_nodes-clause-jobs g c =
    none_run g.S.Dir.tells g.S.Site.gives c.args.conf.now rank_of_base (rank_from 0) (g.S.Site.seen c.args.site.now) (g.S.Site.seen c.make_nodes.new.site) (g.S.Site.given c.args.site.now) (g.S.Site.given c.make_nodes.new.site) (g.S.Dir.told c.make_nodes.new.site) c.from_residual.result (omega arith) c.make_nodes.ensures.seen c.make_nodes.ensures.given

pub returns-in_err-make_nodes-clause-answers : goal.returns-in_err-make_nodes-clause-answers
returns-in_err-make_nodes-clause-answers g c =
    quiet_answer (g.S.Site.seen c.args.site.now) (g.S.Site.seen c.make_nodes.new.site) c.from_residual.result c.in_err-make_nodes.field-0.0 c.make_nodes.ensures.seen c.from_residual.ensures.1 c.in_err-make_nodes.ensures.no_task

pub returns-clause-jobs : goal.returns-clause-jobs
returns-clause-jobs g c =
    let m = rank_matrix in run_after g.S.Dir.tells g.S.Site.gives c.args.conf.now (g.S.Site.seen c.args.site.now) (g.S.Site.seen c.make_nodes.new.site) (g.S.Site.seen c.ensure_folder.new.site) (g.S.Site.given c.args.site.now) (g.S.Site.given c.make_nodes.new.site) (g.S.Site.given c.ensure_folder.new.site) rank_of_base (rank_from 0) (g.S.Dir.told c.ensure_folder.new.site) c.ensure_folder.result (omega arith) c.make_nodes.ensures.seen c.make_nodes.ensures.given (run_within g.S.Dir.tells g.S.Site.gives c.args.conf.now rank_of_base (rank_of Matrix) (rank_of Matrix + 1) (rank_from 0) (g.S.Site.seen c.make_nodes.new.site) (g.S.Site.seen c.ensure_folder.new.site) (g.S.Site.given c.make_nodes.new.site) (g.S.Site.given c.ensure_folder.new.site) (g.S.Dir.told c.ensure_folder.new.site) c.ensure_folder.result (omega (arith, m)) (omega (arith, m)) (c.ensure_folder.ensures.log refl) (c.ensure_folder.ensures.logged refl))

pub returns-clause-answers : goal.returns-clause-answers
returns-clause-answers g c =
    begun_answer (Unit {0}) (g.S.Site.seen c.args.site.now) (g.S.Site.seen c.make_nodes.new.site) (g.S.Site.seen c.ensure_folder.new.site) c.ensure_folder.result c.make_nodes.ensures.seen c.ensure_folder.ensures.answers

pub returns-clause-nodes : goal.returns-clause-nodes
returns-clause-nodes g c =
    λ tells.
    let e : Told = g.S.Dir.told c.make_nodes.new.site in
    let f : Told = g.S.Dir.told c.ensure_folder.new.site in
    ok_always (IsSure Nodes (files f)) c.ensure_folder.result (sure_kept Nodes (files e) (files f) tt refl (stays_after e f (c.ensure_folder.ensures.stays tells)) (c.in_ok-make_nodes.ensures.sure tells))

pub returns-in_err-make_nodes-clause-stored : goal.returns-in_err-make_nodes-clause-stored
returns-in_err-make_nodes-clause-stored g c =
    λ tells form sure. exits_none (IsNotAsMade c.args.conf.now (files (g.S.Dir.told c.make_nodes.new.site))) c.from_residual.result c.in_err-make_nodes.field-0.0 c.from_residual.ensures.1 c.in_err-make_nodes.ensures.no_store

pub returns-clause-stored : goal.returns-clause-stored
returns-clause-stored g c =
    λ tells form sure.
    let d : Told = g.S.Dir.told c.args.site.now in
    let f : Told = g.S.Dir.told c.ensure_folder.new.site in
    let conf = c.args.conf.now in
    let edges : IsSure Edges (files f) = sure_kept Edges (files d) (files f) tt refl (stays_after d f (returns-clause-stays g c tells)) sure in
    err_weaker (LacksFile (paths_read conf 0 Matrix) (files f)) (IsNotAsMade conf (files f)) c.ensure_folder.result (matrix_lacks conf 0 (files f) form edges) (c.ensure_folder.ensures.stored tells)
