use Rattle.job.specs.Whole.{plan_of}
use Rattle.mining.specs.Stops.{no_memory, of_job}
use Rattle.mining.proofs.Failures.{answer_err, quiet_stop, begun_stop, begun_done, job_names, job_none, job_stop}
use Rattle.job.specs.Failing.{gained}
use Rattle.mining.proofs.JobsAdded.{none_gain, job_gains, job_finishes, steps_on}
use Rattle.std.proofs.Common.{[], List, subst, refl, arith, ◌+◌}
use Rattle.std.specs.List.{All}
use Rattle.peg_base.specs.Names.{Names}
use Rattle.dir_disk.specs.Calls.{HasFile}
use Rattle.dir_disk.specs.Moments.{Told, files}
use Rattle.mining.specs.Places.{folder_of, rank_of}
use Rattle.mining.specs.Jobs.{rule_of}
use Rattle.mining.specs.Making.{parts_from}
use Rattle.mining.proofs.Looks.{same_after}
use Rattle.mining.proofs.MakeLemmas.{in_limits, can_begin, looks_make, made_steps, made_finished}
use Rattle.std.proofs.Common.{◌∙◌}
use Rattle.mining.specs.Stored.{IfBadStore, LacksFile}
use Rattle.mining.specs.Table.{paths_read}
use Rattle.mining.proofs.StoredLemmas.{err_is, job_names_none}
use Rattle.mining.proofs.make.make_folder.Goals as goal

pub returns-in_err-check_parts-clause-steps : goal.returns-in_err-check_parts-clause-steps
returns-in_err-check_parts-clause-steps g c =
    λ tells.
    let d : Told = g.S.Dir.told c.args.site.now in
    looks_make (folder_of c.args.place) (parts_from g.S.Site.gives c.args.conf.now c.args.last c.args.place (files d)) d (g.S.Dir.told c.check_parts.new.dir) (c.requires.unmarked tells) (c.check_parts.ensures.stands tells)

pub run_by_settings-requires-clause-limits : goal.run_by_settings-requires-clause-limits
run_by_settings-requires-clause-limits g c =
    in_limits c.args.conf.now c.args.last c.args.place c.in_ok-spec.spec c.requires.limits c.requires.last c.requires.is_there c.in_ok-spec.ensures

pub run_by_settings-requires-clause-can : goal.run_by_settings-requires-clause-can
run_by_settings-requires-clause-can g c =
    λ tells.
    let d : Told = g.S.Dir.told c.args.site.now in
    let e : Told = g.S.Dir.told c.check_parts.new.dir in
    let there : All (HasFile (files d)) c.in_ok-spec.spec.inputs.items = subst (λ (paths : List Names). All (HasFile (files d)) paths) c.deref.ensures.value (c.in_ok-check_parts.ensures.there tells) in
    can_begin c.args.conf.now c.args.last c.args.place c.in_ok-spec.spec c.requires.limits c.requires.last c.requires.is_there c.in_ok-spec.ensures (files d) (files e) (same_after d e (c.check_parts.ensures.stands tells)) (g.met.S.Dir.top_is_no_file c.check_parts.new.dir (files e []).now tells (g.met.S.Dir.now_allowed c.check_parts.new.dir [] tells)) (c.requires.unmarked tells) there

pub returns-in_err-run_by_settings-clause-steps : goal.returns-in_err-run_by_settings-clause-steps
returns-in_err-run_by_settings-clause-steps g c =
    λ tells.
    let d : Told = g.S.Dir.told c.args.site.now in
    let e : Told = g.S.Dir.told c.check_parts.new.dir in
    let there : All (HasFile (files d)) c.in_ok-spec.spec.inputs.items = subst (λ (paths : List Names). All (HasFile (files d)) paths) c.deref.ensures.value (c.in_ok-check_parts.ensures.there tells) in
    made_steps c.args.conf.now c.args.last c.args.place c.in_ok-spec.spec c.requires.limits c.requires.last c.requires.is_there c.in_ok-spec.ensures g.S.Site.gives d e (g.S.Dir.told c.run_by_settings.new.site) (c.check_parts.ensures.stands tells) (c.requires.unmarked tells) there (c.run_by_settings.ensures.steps tells)

pub returns-clause-steps : goal.returns-clause-steps
returns-clause-steps g c =
    λ tells.
    let d : Told = g.S.Dir.told c.args.site.now in
    let e : Told = g.S.Dir.told c.check_parts.new.dir in
    let there : All (HasFile (files d)) c.in_ok-spec.spec.inputs.items = subst (λ (paths : List Names). All (HasFile (files d)) paths) c.deref.ensures.value (c.in_ok-check_parts.ensures.there tells) in
    made_steps c.args.conf.now c.args.last c.args.place c.in_ok-spec.spec c.requires.limits c.requires.last c.requires.is_there c.in_ok-spec.ensures g.S.Site.gives d e (g.S.Dir.told c.run_by_settings.new.site) (c.check_parts.ensures.stands tells) (c.requires.unmarked tells) there (c.run_by_settings.ensures.steps tells)

pub returns-clause-finished : goal.returns-clause-finished
returns-clause-finished g c =
    λ tells.
    let d : Told = g.S.Dir.told c.args.site.now in
    let e : Told = g.S.Dir.told c.check_parts.new.dir in
    let there : All (HasFile (files d)) c.in_ok-spec.spec.inputs.items = subst (λ (paths : List Names). All (HasFile (files d)) paths) c.deref.ensures.value (c.in_ok-check_parts.ensures.there tells) in
    made_finished c.args.conf.now c.args.last c.args.place c.in_ok-spec.spec c.requires.limits c.requires.last c.requires.is_there c.in_ok-spec.ensures g.S.Site.gives d e (g.S.Dir.told c.run_by_settings.new.site) (c.check_parts.ensures.stands tells) (c.requires.unmarked tells) there (c.in_ok-run_by_settings.ensures.finished tells)

pub returns-in_err-spec-clause-log : goal.returns-in_err-spec-clause-log
returns-in_err-spec-clause-log g c =
    λ made. none_gain g.S.Dir.tells g.S.Site.gives c.args.conf.now (rank_of c.args.place) (rank_of c.args.place + 1) (g.S.Site.seen c.args.site.now) (g.S.Site.seen c.args.site.now) (g.S.Site.given c.args.site.now) (g.S.Site.given c.args.site.now) (g.S.Dir.told c.args.site.now) (omega arith) refl (λ _. refl)

pub returns-in_err-check_parts-clause-log : goal.returns-in_err-check_parts-clause-log
returns-in_err-check_parts-clause-log g c =
    λ made. let beside = (g.met.S.Site.beside_dir c.check_parts.new.dir c.args.site.now c.check_parts.ensures.beside) in none_gain g.S.Dir.tells g.S.Site.gives c.args.conf.now (rank_of c.args.place) (rank_of c.args.place + 1) (g.S.Site.seen c.args.site.now) (g.S.Site.seen c.check_parts.new.dir) (g.S.Site.given c.args.site.now) (g.S.Site.given c.check_parts.new.dir) (g.S.Dir.told c.check_parts.new.dir) (omega arith) beside.0 beside.1

pub returns-in_err-run_by_settings-clause-log : goal.returns-in_err-run_by_settings-clause-log
returns-in_err-run_by_settings-clause-log g c =
    λ made. let beside = (g.met.S.Site.beside_dir c.check_parts.new.dir c.args.site.now c.check_parts.ensures.beside) in job_gains g.S.Dir.tells g.S.Site.gives c.args.conf.now c.args.last c.args.place c.in_ok-spec.spec c.in_ok-spec.ensures c.requires.is_there c.requires.job made (g.S.Site.seen c.args.site.now) (g.S.Site.seen c.check_parts.new.dir) (g.S.Site.seen c.run_by_settings.new.site) (g.S.Site.given c.args.site.now) (g.S.Site.given c.check_parts.new.dir) (g.S.Site.given c.run_by_settings.new.site) (g.S.Dir.told c.check_parts.new.dir) (g.S.Dir.told c.run_by_settings.new.site) (λ tells. steps_on (g.S.Dir.told c.check_parts.new.dir) (g.S.Dir.told c.run_by_settings.new.site) (c.run_by_settings.ensures.steps tells)) beside.0 beside.1 c.run_by_settings.result c.run_by_settings.ensures.log

pub returns-clause-log : goal.returns-clause-log
returns-clause-log g c =
    λ made. let beside = (g.met.S.Site.beside_dir c.check_parts.new.dir c.args.site.now c.check_parts.ensures.beside) in job_gains g.S.Dir.tells g.S.Site.gives c.args.conf.now c.args.last c.args.place c.in_ok-spec.spec c.in_ok-spec.ensures c.requires.is_there c.requires.job made (g.S.Site.seen c.args.site.now) (g.S.Site.seen c.check_parts.new.dir) (g.S.Site.seen c.run_by_settings.new.site) (g.S.Site.given c.args.site.now) (g.S.Site.given c.check_parts.new.dir) (g.S.Site.given c.run_by_settings.new.site) (g.S.Dir.told c.check_parts.new.dir) (g.S.Dir.told c.run_by_settings.new.site) (λ tells. steps_on (g.S.Dir.told c.check_parts.new.dir) (g.S.Dir.told c.run_by_settings.new.site) (c.run_by_settings.ensures.steps tells)) beside.0 beside.1 c.run_by_settings.result c.run_by_settings.ensures.log

pub returns-clause-logged : goal.returns-clause-logged
returns-clause-logged g c =
    λ made. let beside = (g.met.S.Site.beside_dir c.check_parts.new.dir c.args.site.now c.check_parts.ensures.beside) in job_finishes g.S.Dir.tells g.S.Site.gives c.args.conf.now c.args.last c.args.place c.in_ok-spec.spec c.in_ok-spec.ensures c.requires.is_there c.requires.job made (g.S.Site.seen c.args.site.now) (g.S.Site.seen c.check_parts.new.dir) (g.S.Site.seen c.run_by_settings.new.site) (g.S.Site.given c.args.site.now) (g.S.Site.given c.check_parts.new.dir) (g.S.Site.given c.run_by_settings.new.site) (g.S.Dir.told c.check_parts.new.dir) (g.S.Dir.told c.run_by_settings.new.site) (λ tells. steps_on (g.S.Dir.told c.check_parts.new.dir) (g.S.Dir.told c.run_by_settings.new.site) (c.run_by_settings.ensures.steps tells)) beside.0 beside.1 c.in_ok-run_by_settings.field-0 c.in_ok-run_by_settings.ensures.log

pub returns-in_err-spec-clause-answers : goal.returns-in_err-spec-clause-answers
returns-in_err-spec-clause-answers g c =
    answer_err (Unit {0}) (gained (g.S.Site.seen c.args.site.now).log (g.S.Site.seen c.args.site.now).log) c.from_residual.result (no_memory) c.from_residual.ensures.1 (quiet_stop (g.S.Site.seen c.args.site.now) (g.S.Site.seen c.args.site.now) no_memory refl tt)

pub returns-in_err-check_parts-clause-answers : goal.returns-in_err-check_parts-clause-answers
returns-in_err-check_parts-clause-answers g c =
    answer_err (Unit {0}) (gained (g.S.Site.seen c.args.site.now).log (g.S.Site.seen c.check_parts.new.dir).log) c.from_residual-in_err-check_parts.result (c.in_err-check_parts.field-0.0) c.from_residual-in_err-check_parts.ensures.1 (quiet_stop (g.S.Site.seen c.args.site.now) (g.S.Site.seen c.check_parts.new.dir) c.in_err-check_parts.field-0.0 (g.met.S.Site.beside_dir c.check_parts.new.dir c.args.site.now c.check_parts.ensures.beside).0 c.in_err-check_parts.ensures.no_task)

pub returns-in_err-run_by_settings-clause-answers : goal.returns-in_err-run_by_settings-clause-answers
returns-in_err-run_by_settings-clause-answers g c =
    answer_err (Unit {0}) (gained (g.S.Site.seen c.args.site.now).log (g.S.Site.seen c.run_by_settings.new.site).log) c.from_residual-in_err-run_by_settings.result (of_job c.in_err-run_by_settings.field-0.0) c.from_residual-in_err-run_by_settings.ensures.1 (begun_stop (g.S.Site.seen c.args.site.now) (g.S.Site.seen c.check_parts.new.dir) (g.S.Site.seen c.run_by_settings.new.site) (of_job c.in_err-run_by_settings.field-0.0) (g.met.S.Site.beside_dir c.check_parts.new.dir c.args.site.now c.check_parts.ensures.beside).0 (job_stop c.in_ok-spec.spec.folder (gained (g.S.Site.seen c.check_parts.new.dir).log (g.S.Site.seen c.run_by_settings.new.site).log) (job_names (rule_of c.args.conf.now) g.S.Dir.tells g.S.Site.gives c.in_ok-spec.spec.folder (plan_of c.in_ok-spec.spec (files (g.S.Dir.told c.check_parts.new.dir))) c.in_ok-spec.spec.slots (g.S.Site.seen c.check_parts.new.dir) (g.S.Site.seen c.run_by_settings.new.site) (g.S.Site.given c.check_parts.new.dir) (g.S.Site.given c.run_by_settings.new.site) (g.S.Dir.told c.run_by_settings.new.site) c.run_by_settings.result c.run_by_settings.ensures.log) c.in_err-run_by_settings.field-0.0 c.in_err-run_by_settings.ensures.tells))

pub returns-clause-answers : goal.returns-clause-answers
returns-clause-answers g c =
    begun_done (g.S.Site.seen c.args.site.now) (g.S.Site.seen c.check_parts.new.dir) (g.S.Site.seen c.run_by_settings.new.site) (g.met.S.Site.beside_dir c.check_parts.new.dir c.args.site.now c.check_parts.ensures.beside).0 (job_none c.in_ok-spec.spec.folder (gained (g.S.Site.seen c.check_parts.new.dir).log (g.S.Site.seen c.run_by_settings.new.site).log) (job_names (rule_of c.args.conf.now) g.S.Dir.tells g.S.Site.gives c.in_ok-spec.spec.folder (plan_of c.in_ok-spec.spec (files (g.S.Dir.told c.check_parts.new.dir))) c.in_ok-spec.spec.slots (g.S.Site.seen c.check_parts.new.dir) (g.S.Site.seen c.run_by_settings.new.site) (g.S.Site.given c.check_parts.new.dir) (g.S.Site.given c.run_by_settings.new.site) (g.S.Dir.told c.run_by_settings.new.site) c.run_by_settings.result c.run_by_settings.ensures.log) c.in_ok-run_by_settings.field-0 c.in_ok-run_by_settings.ensures.tells)

pub returns-in_err-check_parts-clause-stored : goal.returns-in_err-check_parts-clause-stored
returns-in_err-check_parts-clause-stored g c =
    λ tells.
    let e : Told = g.S.Dir.told c.check_parts.new.dir in
    let stop = c.in_err-check_parts.field-0.0 in
    err_is (LacksFile (paths_read c.args.conf.now c.args.last c.args.place) (files e)) c.from_residual-in_err-check_parts.result stop c.from_residual-in_err-check_parts.ensures.1 (subst (λ (paths : List Names). IfBadStore (LacksFile paths (files e)) stop) (c.deref.ensures.value ∙ c.in_ok-spec.ensures.inputs) (c.in_err-check_parts.ensures.stored tells))

pub returns-in_err-run_by_settings-clause-stored : goal.returns-in_err-run_by_settings-clause-stored
returns-in_err-run_by_settings-clause-stored g c =
    λ tells.
    let lacks = LacksFile (paths_read c.args.conf.now c.args.last c.args.place) (files (g.S.Dir.told c.run_by_settings.new.site)) in
    err_is lacks c.from_residual-in_err-run_by_settings.result (of_job c.in_err-run_by_settings.field-0.0) c.from_residual-in_err-run_by_settings.ensures.1 (job_names_none lacks c.in_err-run_by_settings.field-0.0)
