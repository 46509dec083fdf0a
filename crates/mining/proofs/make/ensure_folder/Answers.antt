use Rattle.mining.specs.Stops.{no_memory, of_commit}
use Rattle.mining.proofs.Failures.{answer_err, quiet_stop, quiet_done, begun_answer, commit_no_task}
use Rattle.job.specs.Failing.{gained}
use Rattle.mining.proofs.JobsAdded.{none_gain, none_finish, after_none_gain, after_none_finish, if_done, sure_is_seen}
use Rattle.mining.specs.Jobs.{FinishesWithin}
use Rattle.std.proofs.Common.{refl, arith, ◌+◌}
use Rattle.dir_disk.specs.Moments.{Told, files}
use Rattle.mining.specs.Places.{folder_of, rank_of}
use Rattle.mining.specs.Flow.{mining_of}
use Rattle.mining.specs.Making.{parts_from}
use Rattle.mining.proofs.EnsureLemmas.{ensured_firm, ensured_kept, ensured_stays, looked_outside, made_outside}
use Rattle.mining.specs.Stored.{LacksFile}
use Rattle.mining.specs.Table.{paths_read}
use Rattle.mining.proofs.StoredLemmas.{commit_names_none, err_is}
use Rattle.mining.proofs.make.ensure_folder.Goals as goal

pub returns-clause-firm : goal.returns-clause-firm
returns-clause-firm g c =
    λ tells.
    let d : Told = g.S.Dir.told c.args.site.now in
    let e : Told = g.S.Dir.told c.is_whole.new.dir in
    let f : Told = g.S.Dir.told c.make_folder.new.site in
    ensured_firm c.args.place d e f (c.is_whole.ensures.stands tells) (c.requires.firm tells) c.requires.is_there c.in_ok-folder.folder c.in_ok-folder.ensures c.in_ok-is_whole.field-0 (c.in_ok-is_whole.ensures.whole tells) c.if-branch.false (parts_from g.S.Site.gives c.args.conf.now c.args.last c.args.place (files e)) c.make_folder.result (c.make_folder.ensures.steps tells) (c.make_folder.ensures.finished tells)

pub returns-clause-stays : goal.returns-clause-stays
returns-clause-stays g c =
    λ tells.
    let d : Told = g.S.Dir.told c.args.site.now in
    let e : Told = g.S.Dir.told c.is_whole.new.dir in
    let f : Told = g.S.Dir.told c.make_folder.new.site in
    ensured_stays c.args.place d e f (c.is_whole.ensures.stands tells) (c.requires.firm tells) c.requires.is_there c.in_ok-folder.folder c.in_ok-folder.ensures c.in_ok-is_whole.field-0 (c.in_ok-is_whole.ensures.whole tells) c.if-branch.false (parts_from g.S.Site.gives c.args.conf.now c.args.last c.args.place (files e)) (λ q. g.met.S.Dir.now_allowed c.is_whole.new.dir q tells) (c.make_folder.ensures.steps tells)

pub returns-clause-kept : goal.returns-clause-kept
returns-clause-kept g c =
    λ edges tells kept due can.
    let d : Told = g.S.Dir.told c.args.site.now in
    let e : Told = g.S.Dir.told c.is_whole.new.dir in
    let f : Told = g.S.Dir.told c.make_folder.new.site in
    ensured_kept c.args.place d e f (c.is_whole.ensures.stands tells) (c.requires.firm tells) c.requires.is_there c.in_ok-folder.folder c.in_ok-folder.ensures c.in_ok-is_whole.field-0 (c.in_ok-is_whole.ensures.whole tells) c.if-branch.false (mining_of g.S.Site.gives c.args.conf.now edges) c.args.last (λ q. g.met.S.Dir.now_allowed c.is_whole.new.dir q tells) c.requires.job kept due can (c.make_folder.ensures.steps tells)

pub returns-in_err-is_whole-clause-outside : goal.returns-in_err-is_whole-clause-outside
returns-in_err-is_whole-clause-outside g c =
    λ tells. looked_outside (folder_of c.args.place) (g.S.Dir.told c.args.site.now) (g.S.Dir.told c.is_whole.new.dir) (c.is_whole.ensures.stands tells)

pub returns-then-branch-clause-outside : goal.returns-then-branch-clause-outside
returns-then-branch-clause-outside g c =
    λ tells. looked_outside (folder_of c.args.place) (g.S.Dir.told c.args.site.now) (g.S.Dir.told c.is_whole.new.dir) (c.is_whole.ensures.stands tells)

pub returns-clause-outside : goal.returns-clause-outside
returns-clause-outside g c =
    λ tells.
    let e : Told = g.S.Dir.told c.is_whole.new.dir in
    made_outside (folder_of c.args.place) (parts_from g.S.Site.gives c.args.conf.now c.args.last c.args.place (files e)) (g.S.Dir.told c.args.site.now) e (g.S.Dir.told c.make_folder.new.site) (c.is_whole.ensures.stands tells) (c.make_folder.ensures.steps tells)

pub returns-in_err-folder-clause-log : goal.returns-in_err-folder-clause-log
returns-in_err-folder-clause-log g c =
    λ made. none_gain g.S.Dir.tells g.S.Site.gives c.args.conf.now (rank_of c.args.place) (rank_of c.args.place + 1) (g.S.Site.seen c.args.site.now) (g.S.Site.seen c.args.site.now) (g.S.Site.given c.args.site.now) (g.S.Site.given c.args.site.now) (g.S.Dir.told c.args.site.now) (omega arith) refl (λ _. refl)

pub returns-in_err-is_whole-clause-log : goal.returns-in_err-is_whole-clause-log
returns-in_err-is_whole-clause-log g c =
    λ made. let beside = (g.met.S.Site.beside_dir c.is_whole.new.dir c.args.site.now c.is_whole.ensures.beside) in none_gain g.S.Dir.tells g.S.Site.gives c.args.conf.now (rank_of c.args.place) (rank_of c.args.place + 1) (g.S.Site.seen c.args.site.now) (g.S.Site.seen c.is_whole.new.dir) (g.S.Site.given c.args.site.now) (g.S.Site.given c.is_whole.new.dir) (g.S.Dir.told c.is_whole.new.dir) (omega arith) beside.0 beside.1

pub returns-then-branch-clause-log : goal.returns-then-branch-clause-log
returns-then-branch-clause-log g c =
    λ made. let beside = (g.met.S.Site.beside_dir c.is_whole.new.dir c.args.site.now c.is_whole.ensures.beside) in none_gain g.S.Dir.tells g.S.Site.gives c.args.conf.now (rank_of c.args.place) (rank_of c.args.place + 1) (g.S.Site.seen c.args.site.now) (g.S.Site.seen c.is_whole.new.dir) (g.S.Site.given c.args.site.now) (g.S.Site.given c.is_whole.new.dir) (g.S.Dir.told c.is_whole.new.dir) (omega arith) beside.0 beside.1

pub returns-then-branch-clause-logged : goal.returns-then-branch-clause-logged
returns-then-branch-clause-logged g c =
    λ made. let beside = (g.met.S.Site.beside_dir c.is_whole.new.dir c.args.site.now c.is_whole.ensures.beside) in none_finish g.S.Dir.tells g.S.Site.gives c.args.conf.now (rank_of c.args.place) (rank_of c.args.place + 1) (g.S.Site.seen c.args.site.now) (g.S.Site.seen c.is_whole.new.dir) (g.S.Site.given c.args.site.now) (g.S.Site.given c.is_whole.new.dir) (g.S.Dir.told c.is_whole.new.dir) (omega arith) beside.0 beside.1

pub returns-clause-log : goal.returns-clause-log
returns-clause-log g c =
    λ made. let beside = (g.met.S.Site.beside_dir c.is_whole.new.dir c.args.site.now c.is_whole.ensures.beside) in after_none_gain g.S.Dir.tells g.S.Site.gives c.args.conf.now (g.S.Site.seen c.args.site.now) (g.S.Site.seen c.is_whole.new.dir) (g.S.Site.seen c.make_folder.new.site) (g.S.Site.given c.args.site.now) (g.S.Site.given c.is_whole.new.dir) (g.S.Site.given c.make_folder.new.site) (g.S.Dir.told c.make_folder.new.site) beside.0 beside.1 (rank_of c.args.place) (rank_of c.args.place + 1) (omega arith) (c.make_folder.ensures.log made)

pub returns-clause-logged : goal.returns-clause-logged
returns-clause-logged g c =
    λ made. let beside = (g.met.S.Site.beside_dir c.is_whole.new.dir c.args.site.now c.is_whole.ensures.beside) in if_done (FinishesWithin g.S.Dir.tells g.S.Site.gives c.args.conf.now (rank_of c.args.place) (rank_of c.args.place + 1) (g.S.Site.seen c.is_whole.new.dir) (g.S.Site.seen c.make_folder.new.site) (g.S.Site.given c.is_whole.new.dir) (g.S.Site.given c.make_folder.new.site) (g.S.Dir.told c.make_folder.new.site)) (FinishesWithin g.S.Dir.tells g.S.Site.gives c.args.conf.now (rank_of c.args.place) (rank_of c.args.place + 1) (g.S.Site.seen c.args.site.now) (g.S.Site.seen c.make_folder.new.site) (g.S.Site.given c.args.site.now) (g.S.Site.given c.make_folder.new.site) (g.S.Dir.told c.make_folder.new.site)) c.make_folder.result (λ next. after_none_finish g.S.Dir.tells g.S.Site.gives c.args.conf.now (g.S.Site.seen c.args.site.now) (g.S.Site.seen c.is_whole.new.dir) (g.S.Site.seen c.make_folder.new.site) (g.S.Site.given c.args.site.now) (g.S.Site.given c.is_whole.new.dir) (g.S.Site.given c.make_folder.new.site) (g.S.Dir.told c.make_folder.new.site) beside.0 beside.1 (rank_of c.args.place) (rank_of c.args.place + 1) (omega arith) next) (c.make_folder.ensures.logged made)

pub returns-clause-idle : goal.returns-clause-idle
returns-clause-idle g c =
    λ tells sure. absurd (sure_is_seen c.args.place c.in_ok-folder.folder (files (g.S.Dir.told c.args.site.now)) c.in_ok-is_whole.field-0 (λ q. g.met.S.Dir.now_allowed c.args.site.now q tells) c.in_ok-folder.ensures (c.in_ok-is_whole.ensures.whole tells) c.if-branch.false sure)

pub returns-in_err-folder-clause-answers : goal.returns-in_err-folder-clause-answers
returns-in_err-folder-clause-answers g c =
    answer_err (Unit {0}) (gained (g.S.Site.seen c.args.site.now).log (g.S.Site.seen c.args.site.now).log) c.from_residual.result (no_memory) c.from_residual.ensures.1 (quiet_stop (g.S.Site.seen c.args.site.now) (g.S.Site.seen c.args.site.now) no_memory refl tt)

pub returns-in_err-is_whole-clause-answers : goal.returns-in_err-is_whole-clause-answers
returns-in_err-is_whole-clause-answers g c =
    answer_err (Unit {0}) (gained (g.S.Site.seen c.args.site.now).log (g.S.Site.seen c.is_whole.new.dir).log) c.from_residual-in_err-is_whole.result (of_commit c.in_err-is_whole.field-0.0) c.from_residual-in_err-is_whole.ensures.1 (quiet_stop (g.S.Site.seen c.args.site.now) (g.S.Site.seen c.is_whole.new.dir) (of_commit c.in_err-is_whole.field-0.0) (g.met.S.Site.beside_dir c.is_whole.new.dir c.args.site.now c.is_whole.ensures.beside).0 (commit_no_task c.in_err-is_whole.field-0.0))

pub returns-then-branch-clause-answers : goal.returns-then-branch-clause-answers
returns-then-branch-clause-answers g c =
    quiet_done (g.S.Site.seen c.args.site.now) (g.S.Site.seen c.is_whole.new.dir) (g.met.S.Site.beside_dir c.is_whole.new.dir c.args.site.now c.is_whole.ensures.beside).0

pub returns-clause-answers : goal.returns-clause-answers
returns-clause-answers g c =
    begun_answer (Unit {0}) (g.S.Site.seen c.args.site.now) (g.S.Site.seen c.is_whole.new.dir) (g.S.Site.seen c.make_folder.new.site) c.make_folder.result (g.met.S.Site.beside_dir c.is_whole.new.dir c.args.site.now c.is_whole.ensures.beside).0 c.make_folder.ensures.answers

pub returns-in_err-is_whole-clause-stored : goal.returns-in_err-is_whole-clause-stored
returns-in_err-is_whole-clause-stored g c =
    λ tells.
    let lacks = LacksFile (paths_read c.args.conf.now c.args.last c.args.place) (files (g.S.Dir.told c.is_whole.new.dir)) in
    err_is lacks c.from_residual-in_err-is_whole.result (of_commit c.in_err-is_whole.field-0.0) c.from_residual-in_err-is_whole.ensures.1 (commit_names_none lacks c.in_err-is_whole.field-0.0)
