use Rattle.std.proofs.Common.{◌≡◌, ◌∙◌, ◌+◌, ◌++◌, List, length, Result, Ok, Err, inl, inr, refl, sym, ap, subst, arith}
use Rattle.peg_base.specs.declared.tasks.Phase.TheVariants.{Map, Reduce}
use Rattle.dir_disk.specs.State.{StandsOutside}
use Rattle.dir_disk.specs.declared.site.LogEntry.{LogEntry}
use Rattle.dir_disk.specs.Moments.{Told, Through, clock, files}
use Rattle.committer.specs.Commits.{Commits}
use Rattle.committer.specs.Folders.{Writes}
use Rattle.committer.specs.Paths.{shuffle_of}
use Rattle.task_core.specs.Board.{fresh}
use Rattle.job.specs.declared.fault.JobFault.{JobFault}
use Rattle.job.specs.declared.spec.JobReport.{JobReport}
use Rattle.job.specs.Chunks.{chunks_of}
use Rattle.job.specs.Failing.{gained, steps_of}
use Rattle.job.specs.Faults.{job_fault}
use Rattle.job.specs.Going.{commit_calls}
use Rattle.job.specs.Logged.{AreReduced, IsLeftBy, JobLog, MapLog, PhaseLog, TellsOfJob, of_phase}
use Rattle.job.specs.Output.{Plan, job_parts, map_inputs, map_outputs, pairs_among, reduce_inputs}
use Rattle.job.specs.Shuffled.{HasJustRuns}
use Rattle.job.specs.Whole.{IsMapped, IsReduced, Once, plan_of}
use Rattle.job.specs.Work.{TaskFolder, work_of}
use Rattle.job.proofs.Finishing.{can_commit, finished, makes_commits, makes_writes, unmarked_after}
use Rattle.job.proofs.Joined.{all_reduced, both_tell, calls_of_reduce, commit_tells, job_log, job_log_maps, joined_log, left_reduced, left_unmarked, maps_tell, phase_log_texts, reduces_tell, stops_at_commit, stops_in_reduces}
use Rattle.job.proofs.Logs.{err_is, gained_is, no_task_failed, of_committer, goes_on, goes_on_then, goes_on_none}
use Rattle.job.proofs.OutputLemmas.{length-job_parts}
use Rattle.job.proofs.Stages.{once_more, plan_stands, writes_outside, writes_rebase}
use Rattle.job.proofs.run.run_job_over.Goals as goal

pub reduce_stage-requires-clause-count : goal.reduce_stage-requires-clause-count
reduce_stage-requires-clause-count g c =
    λ tells.
    let spec = c.args.spec.now in
    let d : Told = g.S.Dir.told c.args.site.now in
    let e : Told = g.S.Dir.told c.map_stage.new.site in
    let plan = plan_of spec (files d) in
    let gives = g.S.Site.gives in
    let outside : StandsOutside spec.folder (files d) (files e) = writes_outside spec.folder d e (c.map_stage.ensures.steps tells) in
    let same : plan_of spec (files e) ≡ plan = plan_stands spec (files d) (files e) outside (c.requires.can tells).inputs in
    let log : MapLog g.P.Phases.may g.S.Dir.tells spec.folder plan spec.slots (g.S.Site.seen c.args.site.now) (g.S.Site.seen c.map_stage.new.site) (g.S.Site.given c.args.site.now) (g.S.Site.given c.map_stage.new.site) e (Ok c.in_ok-mapped.mapped) = c.in_ok-mapped.ensures.log in
    log.tasks ∙ log.counted tells ∙ ap (λ (p : Plan). length (map_inputs p)) (sym same)

pub reduce_stage-requires-clause-mapped : goal.reduce_stage-requires-clause-mapped
reduce_stage-requires-clause-mapped g c =
    λ tells.
    let spec = c.args.spec.now in
    let d : Told = g.S.Dir.told c.args.site.now in
    let e : Told = g.S.Dir.told c.map_stage.new.site in
    let plan = plan_of spec (files d) in
    let gives = g.S.Site.gives in
    let outside : StandsOutside spec.folder (files d) (files e) = writes_outside spec.folder d e (c.map_stage.ensures.steps tells) in
    let same : plan_of spec (files e) ≡ plan = plan_stands spec (files d) (files e) outside (c.requires.can tells).inputs in
    subst (λ (p : Plan). IsMapped spec.folder (map_outputs gives p) (files e)) (sym same) (c.in_ok-mapped.ensures.mapped tells)

pub returns-in_err-mapped-clause-steps : goal.returns-in_err-mapped-clause-steps
returns-in_err-mapped-clause-steps g c =
    λ tells.
    let spec = c.args.spec.now in
    let d : Told = g.S.Dir.told c.args.site.now in
    let e : Told = g.S.Dir.told c.map_stage.new.site in
    let plan = plan_of spec (files d) in
    let gives = g.S.Site.gives in
    makes_writes spec.folder (job_parts gives plan) d e (c.map_stage.ensures.steps tells)

pub returns-in_err-mapped-clause-left : goal.returns-in_err-mapped-clause-left
returns-in_err-mapped-clause-left g c =
    λ tells.
    let spec = c.args.spec.now in
    let d : Told = g.S.Dir.told c.args.site.now in
    let e : Told = g.S.Dir.told c.map_stage.new.site in
    let plan = plan_of spec (files d) in
    let gives = g.S.Site.gives in
    let fault = c.in_err-mapped.field-0.0 in
    let is : c.from_residual.result ≡ Err fault = err_is c.from_residual.result fault c.from_residual.ensures.1 in
    let entries = gained (g.S.Site.seen c.args.site.now).log (g.S.Site.seen c.map_stage.new.site).log in
    subst (λ (r : Result JobReport JobFault). IsLeftBy spec.folder spec.reducers entries (files e) r) (sym is) (left_unmarked spec.folder spec.reducers entries (files e) fault (unmarked_after spec.folder d e (λ q. g.met.S.Dir.now_allowed c.map_stage.new.site q tells) (c.requires.can tells).unmarked (c.map_stage.ensures.steps tells)))

pub returns-in_err-mapped-clause-log : goal.returns-in_err-mapped-clause-log
returns-in_err-mapped-clause-log g c =
    let spec = c.args.spec.now in
    let d : Told = g.S.Dir.told c.args.site.now in
    let e : Told = g.S.Dir.told c.map_stage.new.site in
    let plan = plan_of spec (files d) in
    let gives = g.S.Site.gives in
    let fault = c.in_err-mapped.field-0.0 in
    let is : c.from_residual.result ≡ Err fault = err_is c.from_residual.result fault c.from_residual.ensures.1 in
    subst (λ (r : Result JobReport JobFault). JobLog g.P.Phases.may g.S.Dir.tells gives spec.folder plan spec.slots (g.S.Site.seen c.args.site.now) (g.S.Site.seen c.map_stage.new.site) (g.S.Site.given c.args.site.now) (g.S.Site.given c.map_stage.new.site) e r) (sym is) (job_log_maps g.P.Phases.may g.S.Dir.tells gives spec.folder plan spec.slots (g.S.Site.seen c.args.site.now) (g.S.Site.seen c.map_stage.new.site) (g.S.Site.given c.args.site.now) (g.S.Site.given c.map_stage.new.site) e fault c.in_err-mapped.ensures.log)

pub returns-in_err-mapped-clause-tells : goal.returns-in_err-mapped-clause-tells
returns-in_err-mapped-clause-tells g c =
    let spec = c.args.spec.now in
    let d : Told = g.S.Dir.told c.args.site.now in
    let e : Told = g.S.Dir.told c.map_stage.new.site in
    let plan = plan_of spec (files d) in
    let gives = g.S.Site.gives in
    let fault = c.in_err-mapped.field-0.0 in
    let is : c.from_residual.result ≡ Err fault = err_is c.from_residual.result fault c.from_residual.ensures.1 in
    let log : MapLog g.P.Phases.may g.S.Dir.tells spec.folder plan spec.slots (g.S.Site.seen c.args.site.now) (g.S.Site.seen c.map_stage.new.site) (g.S.Site.given c.args.site.now) (g.S.Site.given c.map_stage.new.site) e (Err c.in_err-mapped.field-0.0) = c.in_err-mapped.ensures.log in
    let entries : gained (g.S.Site.seen c.args.site.now).log (g.S.Site.seen c.map_stage.new.site).log ≡ log.phase.entries = gained_is (g.S.Site.seen c.args.site.now) (g.S.Site.seen c.map_stage.new.site) log.phase.entries log.phase.log in
    subst (λ (r : Result JobReport JobFault). TellsOfJob spec.folder (gained (g.S.Site.seen c.args.site.now).log (g.S.Site.seen c.map_stage.new.site).log) r) (sym is) (subst (λ (xs : List LogEntry). TellsOfJob spec.folder xs (Err fault)) (sym entries) (maps_tell spec.folder (work_of spec.folder Map spec.map log.count) log.count log.phase.entries fault refl log.phase.of_work log.phase.told))

pub returns-in_err-reduced-clause-steps : goal.returns-in_err-reduced-clause-steps
returns-in_err-reduced-clause-steps g c =
    λ tells.
    let spec = c.args.spec.now in
    let d : Told = g.S.Dir.told c.args.site.now in
    let e : Told = g.S.Dir.told c.map_stage.new.site in
    let plan = plan_of spec (files d) in
    let gives = g.S.Site.gives in
    let f : Told = g.S.Dir.told c.reduce_stage.new.site in
    let outside : StandsOutside spec.folder (files d) (files e) = writes_outside spec.folder d e (c.map_stage.ensures.steps tells) in
    let writes : Through (Writes spec.folder (files d)) d f = writes_rebase spec.folder d e f (c.map_stage.ensures.steps tells) outside (c.reduce_stage.ensures.steps tells) in
    makes_writes spec.folder (job_parts gives plan) d f writes

pub returns-in_err-reduced-clause-left : goal.returns-in_err-reduced-clause-left
returns-in_err-reduced-clause-left g c =
    λ tells.
    let spec = c.args.spec.now in
    let d : Told = g.S.Dir.told c.args.site.now in
    let e : Told = g.S.Dir.told c.map_stage.new.site in
    let plan = plan_of spec (files d) in
    let gives = g.S.Site.gives in
    let f : Told = g.S.Dir.told c.reduce_stage.new.site in
    let fault = c.in_err-reduced.field-0.0 in
    let is : c.from_residual-in_err-reduced.result ≡ Err fault = err_is c.from_residual-in_err-reduced.result fault c.from_residual-in_err-reduced.ensures.1 in
    let outside : StandsOutside spec.folder (files d) (files e) = writes_outside spec.folder d e (c.map_stage.ensures.steps tells) in
    let writes : Through (Writes spec.folder (files d)) d f = writes_rebase spec.folder d e f (c.map_stage.ensures.steps tells) outside (c.reduce_stage.ensures.steps tells) in
    let entries = gained (g.S.Site.seen c.args.site.now).log (g.S.Site.seen c.reduce_stage.new.site).log in
    subst (λ (r : Result JobReport JobFault). IsLeftBy spec.folder spec.reducers entries (files f) r) (sym is) (left_unmarked spec.folder spec.reducers entries (files f) fault (unmarked_after spec.folder d f (λ q. g.met.S.Dir.now_allowed c.reduce_stage.new.site q tells) (c.requires.can tells).unmarked writes))

pub returns-in_err-reduced-clause-log : goal.returns-in_err-reduced-clause-log
returns-in_err-reduced-clause-log g c =
    let spec = c.args.spec.now in
    let d : Told = g.S.Dir.told c.args.site.now in
    let e : Told = g.S.Dir.told c.map_stage.new.site in
    let plan = plan_of spec (files d) in
    let gives = g.S.Site.gives in
    let f : Told = g.S.Dir.told c.reduce_stage.new.site in
    let same : g.S.Dir.tells → plan_of spec (files e) ≡ plan = λ tells. plan_stands spec (files d) (files e) (writes_outside spec.folder d e (c.map_stage.ensures.steps tells)) (c.requires.can tells).inputs in
    let a = g.S.Site.seen c.args.site.now in
    let b = g.S.Site.seen c.map_stage.new.site in
    let s = g.S.Site.seen c.reduce_stage.new.site in
    let had = g.S.Site.given c.args.site.now in
    let has = g.S.Site.given c.map_stage.new.site in
    let have = g.S.Site.given c.reduce_stage.new.site in
    let w = work_of spec.folder Reduce spec.reduce spec.reducers in
    let log : MapLog g.P.Phases.may g.S.Dir.tells spec.folder plan spec.slots a b had has e (Ok c.in_ok-mapped.mapped) = c.in_ok-mapped.ensures.log in
    let v = work_of spec.folder Map spec.map log.count in
    let reduces : PhaseLog g.P.Phases.may g.S.Dir.tells w spec.slots (reduce_inputs gives plan) b s has have f (Err c.in_err-reduced.field-0.0) = phase_log_texts g.P.Phases.may g.S.Dir.tells w spec.slots (reduce_inputs gives (plan_of spec (files e))) (reduce_inputs gives plan) b s has have f (Err c.in_err-reduced.field-0.0) (λ tells. ap (reduce_inputs gives) (same tells)) c.in_err-reduced.ensures.log in
    let fault = c.in_err-reduced.field-0.0 in
    let is : c.from_residual-in_err-reduced.result ≡ Err fault = err_is c.from_residual-in_err-reduced.result fault c.from_residual-in_err-reduced.ensures.1 in
    subst (λ (r : Result JobReport JobFault). JobLog g.P.Phases.may g.S.Dir.tells gives spec.folder plan spec.slots a s had have f r) (sym is) (job_log g.P.Phases.may g.S.Dir.tells gives spec.folder plan spec.slots log.count a b s s had has have have e f f (Ok c.in_ok-mapped.mapped.attempts) (Err fault) (Err fault) log.counted (λ tells. goes_on e f (c.reduce_stage.ensures.steps tells)) (λ _. goes_on_none f) log.phase reduces refl (λ tells. refl) (inr (inl (log.phase.answer.0, reduces.answer))) (λ tells. calls_of_reduce g.P.Phases.may w (fresh spec.reducers spec.slots) reduces.entries fault (clock f) (log.phase.began + commit_calls TaskFolder (fresh log.count spec.slots) (steps_of log.phase.entries)) (reduces.began + commit_calls TaskFolder (fresh spec.reducers spec.slots) (steps_of reduces.entries)) refl reduces.answer (reduces.calls tells)) (λ tells. stops_in_reduces g.P.Phases.may (fresh log.count spec.slots) (fresh spec.reducers spec.slots) log.phase.entries reduces.entries log.phase.began reduces.began (clock f) fault log.phase.answer.0 (reduces.stopped tells)))

pub returns-in_err-reduced-clause-tells : goal.returns-in_err-reduced-clause-tells
returns-in_err-reduced-clause-tells g c =
    let spec = c.args.spec.now in
    let d : Told = g.S.Dir.told c.args.site.now in
    let e : Told = g.S.Dir.told c.map_stage.new.site in
    let plan = plan_of spec (files d) in
    let gives = g.S.Site.gives in
    let f : Told = g.S.Dir.told c.reduce_stage.new.site in
    let same : g.S.Dir.tells → plan_of spec (files e) ≡ plan = λ tells. plan_stands spec (files d) (files e) (writes_outside spec.folder d e (c.map_stage.ensures.steps tells)) (c.requires.can tells).inputs in
    let a = g.S.Site.seen c.args.site.now in
    let b = g.S.Site.seen c.map_stage.new.site in
    let s = g.S.Site.seen c.reduce_stage.new.site in
    let had = g.S.Site.given c.args.site.now in
    let has = g.S.Site.given c.map_stage.new.site in
    let have = g.S.Site.given c.reduce_stage.new.site in
    let w = work_of spec.folder Reduce spec.reduce spec.reducers in
    let log : MapLog g.P.Phases.may g.S.Dir.tells spec.folder plan spec.slots a b had has e (Ok c.in_ok-mapped.mapped) = c.in_ok-mapped.ensures.log in
    let v = work_of spec.folder Map spec.map log.count in
    let reduces : PhaseLog g.P.Phases.may g.S.Dir.tells w spec.slots (reduce_inputs gives plan) b s has have f (Err c.in_err-reduced.field-0.0) = phase_log_texts g.P.Phases.may g.S.Dir.tells w spec.slots (reduce_inputs gives (plan_of spec (files e))) (reduce_inputs gives plan) b s has have f (Err c.in_err-reduced.field-0.0) (λ tells. ap (reduce_inputs gives) (same tells)) c.in_err-reduced.ensures.log in
    let fault = c.in_err-reduced.field-0.0 in
    let is : c.from_residual-in_err-reduced.result ≡ Err fault = err_is c.from_residual-in_err-reduced.result fault c.from_residual-in_err-reduced.ensures.1 in
    let entries : gained a.log s.log ≡ log.phase.entries ++ reduces.entries = gained_is a s (log.phase.entries ++ reduces.entries) (joined_log a b s s log.phase.entries reduces.entries log.phase.log reduces.log refl) in
    subst (λ (r : Result JobReport JobFault). TellsOfJob spec.folder (gained a.log s.log) r) (sym is) (subst (λ (xs : List LogEntry). TellsOfJob spec.folder xs (Err fault)) (sym entries) (reduces_tell spec.folder v w log.phase.entries refl refl log.phase.of_work reduces.entries log.count c.in_ok-mapped.mapped.attempts spec.reducers fault reduces.of_work log.phase.told reduces.told))

pub commit_job-requires-clause-can : goal.commit_job-requires-clause-can
commit_job-requires-clause-can g c =
    λ tells.
    let spec = c.args.spec.now in
    let d : Told = g.S.Dir.told c.args.site.now in
    let e : Told = g.S.Dir.told c.map_stage.new.site in
    let plan = plan_of spec (files d) in
    let gives = g.S.Site.gives in
    let f : Told = g.S.Dir.told c.reduce_stage.new.site in
    let parts = job_parts gives plan in
    let count : length parts ≡ spec.reducers = length-job_parts gives plan in
    let outside : StandsOutside spec.folder (files d) (files e) = writes_outside spec.folder d e (c.map_stage.ensures.steps tells) in
    let same : plan_of spec (files e) ≡ plan = plan_stands spec (files d) (files e) outside (c.requires.can tells).inputs in
    let reduced : IsReduced spec.folder parts (files f) = subst (λ (p : Plan). IsReduced spec.folder (job_parts gives p) (files f)) same (c.in_ok-reduced.ensures.reduced tells) in
    can_commit spec.folder parts spec.reducers (files f) c.requires.limits.few_names reduced count

pub returns-in_err-commit_job-clause-steps : goal.returns-in_err-commit_job-clause-steps
returns-in_err-commit_job-clause-steps g c =
    λ tells.
    let spec = c.args.spec.now in
    let d : Told = g.S.Dir.told c.args.site.now in
    let e : Told = g.S.Dir.told c.map_stage.new.site in
    let plan = plan_of spec (files d) in
    let gives = g.S.Site.gives in
    let f : Told = g.S.Dir.told c.reduce_stage.new.site in
    let h : Told = g.S.Dir.told c.commit_job.new.dir in
    let parts = job_parts gives plan in
    let count : length parts ≡ spec.reducers = length-job_parts gives plan in
    let outside : StandsOutside spec.folder (files d) (files e) = writes_outside spec.folder d e (c.map_stage.ensures.steps tells) in
    let same : plan_of spec (files e) ≡ plan = plan_stands spec (files d) (files e) outside (c.requires.can tells).inputs in
    let reduced : IsReduced spec.folder parts (files f) = subst (λ (p : Plan). IsReduced spec.folder (job_parts gives p) (files f)) same (c.in_ok-reduced.ensures.reduced tells) in
    let writes : Through (Writes spec.folder (files d)) d f = writes_rebase spec.folder d e f (c.map_stage.ensures.steps tells) outside (c.reduce_stage.ensures.steps tells) in
    makes_commits spec.folder parts spec.reducers d f h reduced count (writes_outside spec.folder d f writes) (makes_writes spec.folder parts d f writes) (c.commit_job.ensures.steps tells)

pub returns-clause-steps : goal.returns-clause-steps
returns-clause-steps g c =
    λ tells.
    let spec = c.args.spec.now in
    let d : Told = g.S.Dir.told c.args.site.now in
    let e : Told = g.S.Dir.told c.map_stage.new.site in
    let plan = plan_of spec (files d) in
    let gives = g.S.Site.gives in
    let f : Told = g.S.Dir.told c.reduce_stage.new.site in
    let h : Told = g.S.Dir.told c.commit_job.new.dir in
    let parts = job_parts gives plan in
    let count : length parts ≡ spec.reducers = length-job_parts gives plan in
    let outside : StandsOutside spec.folder (files d) (files e) = writes_outside spec.folder d e (c.map_stage.ensures.steps tells) in
    let same : plan_of spec (files e) ≡ plan = plan_stands spec (files d) (files e) outside (c.requires.can tells).inputs in
    let reduced : IsReduced spec.folder parts (files f) = subst (λ (p : Plan). IsReduced spec.folder (job_parts gives p) (files f)) same (c.in_ok-reduced.ensures.reduced tells) in
    let writes : Through (Writes spec.folder (files d)) d f = writes_rebase spec.folder d e f (c.map_stage.ensures.steps tells) outside (c.reduce_stage.ensures.steps tells) in
    makes_commits spec.folder parts spec.reducers d f h reduced count (writes_outside spec.folder d f writes) (makes_writes spec.folder parts d f writes) (c.commit_job.ensures.steps tells)

pub returns-clause-finished : goal.returns-clause-finished
returns-clause-finished g c =
    λ tells.
    let spec = c.args.spec.now in
    let d : Told = g.S.Dir.told c.args.site.now in
    let e : Told = g.S.Dir.told c.map_stage.new.site in
    let plan = plan_of spec (files d) in
    let gives = g.S.Site.gives in
    let f : Told = g.S.Dir.told c.reduce_stage.new.site in
    let h : Told = g.S.Dir.told c.commit_job.new.dir in
    let parts = job_parts gives plan in
    let count : length parts ≡ spec.reducers = length-job_parts gives plan in
    let outside : StandsOutside spec.folder (files d) (files e) = writes_outside spec.folder d e (c.map_stage.ensures.steps tells) in
    let same : plan_of spec (files e) ≡ plan = plan_stands spec (files d) (files e) outside (c.requires.can tells).inputs in
    let reduced : IsReduced spec.folder parts (files f) = subst (λ (p : Plan). IsReduced spec.folder (job_parts gives p) (files f)) same (c.in_ok-reduced.ensures.reduced tells) in
    finished spec.folder parts (files f) reduced spec.reducers (files h) count (c.in_ok-commit_job.ensures.committed tells)

pub returns-in_err-commit_job-clause-left : goal.returns-in_err-commit_job-clause-left
returns-in_err-commit_job-clause-left g c =
    λ tells.
    let spec = c.args.spec.now in
    let d : Told = g.S.Dir.told c.args.site.now in
    let e : Told = g.S.Dir.told c.map_stage.new.site in
    let plan = plan_of spec (files d) in
    let gives = g.S.Site.gives in
    let f : Told = g.S.Dir.told c.reduce_stage.new.site in
    let same : g.S.Dir.tells → plan_of spec (files e) ≡ plan = λ tells. plan_stands spec (files d) (files e) (writes_outside spec.folder d e (c.map_stage.ensures.steps tells)) (c.requires.can tells).inputs in
    let a = g.S.Site.seen c.args.site.now in
    let b = g.S.Site.seen c.map_stage.new.site in
    let s = g.S.Site.seen c.reduce_stage.new.site in
    let had = g.S.Site.given c.args.site.now in
    let has = g.S.Site.given c.map_stage.new.site in
    let have = g.S.Site.given c.reduce_stage.new.site in
    let w = work_of spec.folder Reduce spec.reduce spec.reducers in
    let log : MapLog g.P.Phases.may g.S.Dir.tells spec.folder plan spec.slots a b had has e (Ok c.in_ok-mapped.mapped) = c.in_ok-mapped.ensures.log in
    let v = work_of spec.folder Map spec.map log.count in
    let reduces : PhaseLog g.P.Phases.may g.S.Dir.tells w spec.slots (reduce_inputs gives plan) b s has have f (Ok c.in_ok-reduced.reduced.attempts) = phase_log_texts g.P.Phases.may g.S.Dir.tells w spec.slots (reduce_inputs gives (plan_of spec (files e))) (reduce_inputs gives plan) b s has have f (Ok c.in_ok-reduced.reduced.attempts) (λ tells. ap (reduce_inputs gives) (same tells)) c.in_ok-reduced.ensures.log in
    let z = g.S.Site.seen c.commit_job.new.dir in
    let beside = g.met.S.Site.beside_dir c.commit_job.new.dir c.reduce_stage.new.site c.commit_job.ensures.beside in
    let h : Told = g.S.Dir.told c.commit_job.new.dir in
    let entries : gained a.log z.log ≡ log.phase.entries ++ reduces.entries = gained_is a z (log.phase.entries ++ reduces.entries) (joined_log a b s z log.phase.entries reduces.entries log.phase.log reduces.log beside.0) in
    let fault = job_fault c.in_err-commit_job.field-0.0 in
    let is : c.from_residual-in_err-commit_job.result ≡ Err fault = err_is c.from_residual-in_err-commit_job.result fault c.from_residual-in_err-commit_job.ensures.1 in
    let all : AreReduced spec.folder spec.reducers (gained a.log z.log) = subst (λ (xs : List LogEntry). AreReduced spec.folder spec.reducers xs) (sym entries) (all_reduced spec.folder v w log.phase.entries refl refl log.phase.of_work reduces.entries spec.reducers c.in_ok-reduced.reduced.attempts reduces.told) in
    subst (λ (r : Result JobReport JobFault). IsLeftBy spec.folder spec.reducers (gained a.log z.log) (files h) r) (sym is) (left_reduced spec.folder spec.reducers (gained a.log z.log) (files h) fault (of_committer c.in_err-commit_job.field-0.0) all)

pub returns-clause-left : goal.returns-clause-left
returns-clause-left g c =
    λ tells.
    let spec = c.args.spec.now in
    let d : Told = g.S.Dir.told c.args.site.now in
    let e : Told = g.S.Dir.told c.map_stage.new.site in
    let plan = plan_of spec (files d) in
    let gives = g.S.Site.gives in
    let f : Told = g.S.Dir.told c.reduce_stage.new.site in
    let same : g.S.Dir.tells → plan_of spec (files e) ≡ plan = λ tells. plan_stands spec (files d) (files e) (writes_outside spec.folder d e (c.map_stage.ensures.steps tells)) (c.requires.can tells).inputs in
    let a = g.S.Site.seen c.args.site.now in
    let b = g.S.Site.seen c.map_stage.new.site in
    let s = g.S.Site.seen c.reduce_stage.new.site in
    let had = g.S.Site.given c.args.site.now in
    let has = g.S.Site.given c.map_stage.new.site in
    let have = g.S.Site.given c.reduce_stage.new.site in
    let w = work_of spec.folder Reduce spec.reduce spec.reducers in
    let log : MapLog g.P.Phases.may g.S.Dir.tells spec.folder plan spec.slots a b had has e (Ok c.in_ok-mapped.mapped) = c.in_ok-mapped.ensures.log in
    let v = work_of spec.folder Map spec.map log.count in
    let reduces : PhaseLog g.P.Phases.may g.S.Dir.tells w spec.slots (reduce_inputs gives plan) b s has have f (Ok c.in_ok-reduced.reduced.attempts) = phase_log_texts g.P.Phases.may g.S.Dir.tells w spec.slots (reduce_inputs gives (plan_of spec (files e))) (reduce_inputs gives plan) b s has have f (Ok c.in_ok-reduced.reduced.attempts) (λ tells. ap (reduce_inputs gives) (same tells)) c.in_ok-reduced.ensures.log in
    let z = g.S.Site.seen c.commit_job.new.dir in
    let beside = g.met.S.Site.beside_dir c.commit_job.new.dir c.reduce_stage.new.site c.commit_job.ensures.beside in
    let entries : gained a.log z.log ≡ log.phase.entries ++ reduces.entries = gained_is a z (log.phase.entries ++ reduces.entries) (joined_log a b s z log.phase.entries reduces.entries log.phase.log reduces.log beside.0) in
    let all : AreReduced spec.folder spec.reducers (gained a.log z.log) = subst (λ (xs : List LogEntry). AreReduced spec.folder spec.reducers xs) (sym entries) (all_reduced spec.folder v w log.phase.entries refl refl log.phase.of_work reduces.entries spec.reducers c.in_ok-reduced.reduced.attempts reduces.told) in
    all

pub returns-in_err-commit_job-clause-log : goal.returns-in_err-commit_job-clause-log
returns-in_err-commit_job-clause-log g c =
    let spec = c.args.spec.now in
    let d : Told = g.S.Dir.told c.args.site.now in
    let e : Told = g.S.Dir.told c.map_stage.new.site in
    let plan = plan_of spec (files d) in
    let gives = g.S.Site.gives in
    let f : Told = g.S.Dir.told c.reduce_stage.new.site in
    let same : g.S.Dir.tells → plan_of spec (files e) ≡ plan = λ tells. plan_stands spec (files d) (files e) (writes_outside spec.folder d e (c.map_stage.ensures.steps tells)) (c.requires.can tells).inputs in
    let a = g.S.Site.seen c.args.site.now in
    let b = g.S.Site.seen c.map_stage.new.site in
    let s = g.S.Site.seen c.reduce_stage.new.site in
    let had = g.S.Site.given c.args.site.now in
    let has = g.S.Site.given c.map_stage.new.site in
    let have = g.S.Site.given c.reduce_stage.new.site in
    let w = work_of spec.folder Reduce spec.reduce spec.reducers in
    let log : MapLog g.P.Phases.may g.S.Dir.tells spec.folder plan spec.slots a b had has e (Ok c.in_ok-mapped.mapped) = c.in_ok-mapped.ensures.log in
    let v = work_of spec.folder Map spec.map log.count in
    let reduces : PhaseLog g.P.Phases.may g.S.Dir.tells w spec.slots (reduce_inputs gives plan) b s has have f (Ok c.in_ok-reduced.reduced.attempts) = phase_log_texts g.P.Phases.may g.S.Dir.tells w spec.slots (reduce_inputs gives (plan_of spec (files e))) (reduce_inputs gives plan) b s has have f (Ok c.in_ok-reduced.reduced.attempts) (λ tells. ap (reduce_inputs gives) (same tells)) c.in_ok-reduced.ensures.log in
    let h : Told = g.S.Dir.told c.commit_job.new.dir in
    let z = g.S.Site.seen c.commit_job.new.dir in
    let beside = g.met.S.Site.beside_dir c.commit_job.new.dir c.reduce_stage.new.site c.commit_job.ensures.beside in
    let fault = job_fault c.in_err-commit_job.field-0.0 in
    let is : c.from_residual-in_err-commit_job.result ≡ Err fault = err_is c.from_residual-in_err-commit_job.result fault c.from_residual-in_err-commit_job.ensures.1 in
    subst (λ (r : Result JobReport JobFault). JobLog g.P.Phases.may g.S.Dir.tells gives spec.folder plan spec.slots a z had (g.S.Site.given c.commit_job.new.dir) h r) (sym is) (job_log g.P.Phases.may g.S.Dir.tells gives spec.folder plan spec.slots log.count a b s z had has have (g.S.Site.given c.commit_job.new.dir) e f h (Ok c.in_ok-mapped.mapped.attempts) (Ok c.in_ok-reduced.reduced.attempts) (Err fault) log.counted (λ tells. goes_on_then e f h (goes_on e f (c.reduce_stage.ensures.steps tells)) (goes_on f h (c.commit_job.ensures.steps tells))) (λ tells. goes_on f h (c.commit_job.ensures.steps tells)) log.phase reduces beside.0 beside.1 (inr (inr (of_committer c.in_err-commit_job.field-0.0, log.phase.answer.0, reduces.answer.0))) (λ _. no_task_failed JobReport fault (λ id. clock h ≡ of_phase id.phase (log.phase.began + commit_calls TaskFolder (fresh log.count spec.slots) (steps_of log.phase.entries)) (reduces.began + commit_calls TaskFolder (fresh spec.reducers spec.slots) (steps_of reduces.entries))) (of_committer c.in_err-commit_job.field-0.0)) (λ _. stops_at_commit g.P.Phases.may (fresh log.count spec.slots) (fresh spec.reducers spec.slots) log.phase.entries reduces.entries log.phase.began reduces.began (clock h) fault log.phase.answer.0 reduces.answer.0))

pub returns-in_err-commit_job-clause-tells : goal.returns-in_err-commit_job-clause-tells
returns-in_err-commit_job-clause-tells g c =
    let spec = c.args.spec.now in
    let d : Told = g.S.Dir.told c.args.site.now in
    let e : Told = g.S.Dir.told c.map_stage.new.site in
    let plan = plan_of spec (files d) in
    let gives = g.S.Site.gives in
    let f : Told = g.S.Dir.told c.reduce_stage.new.site in
    let same : g.S.Dir.tells → plan_of spec (files e) ≡ plan = λ tells. plan_stands spec (files d) (files e) (writes_outside spec.folder d e (c.map_stage.ensures.steps tells)) (c.requires.can tells).inputs in
    let a = g.S.Site.seen c.args.site.now in
    let b = g.S.Site.seen c.map_stage.new.site in
    let s = g.S.Site.seen c.reduce_stage.new.site in
    let had = g.S.Site.given c.args.site.now in
    let has = g.S.Site.given c.map_stage.new.site in
    let have = g.S.Site.given c.reduce_stage.new.site in
    let w = work_of spec.folder Reduce spec.reduce spec.reducers in
    let log : MapLog g.P.Phases.may g.S.Dir.tells spec.folder plan spec.slots a b had has e (Ok c.in_ok-mapped.mapped) = c.in_ok-mapped.ensures.log in
    let v = work_of spec.folder Map spec.map log.count in
    let reduces : PhaseLog g.P.Phases.may g.S.Dir.tells w spec.slots (reduce_inputs gives plan) b s has have f (Ok c.in_ok-reduced.reduced.attempts) = phase_log_texts g.P.Phases.may g.S.Dir.tells w spec.slots (reduce_inputs gives (plan_of spec (files e))) (reduce_inputs gives plan) b s has have f (Ok c.in_ok-reduced.reduced.attempts) (λ tells. ap (reduce_inputs gives) (same tells)) c.in_ok-reduced.ensures.log in
    let z = g.S.Site.seen c.commit_job.new.dir in
    let beside = g.met.S.Site.beside_dir c.commit_job.new.dir c.reduce_stage.new.site c.commit_job.ensures.beside in
    let fault = job_fault c.in_err-commit_job.field-0.0 in
    let is : c.from_residual-in_err-commit_job.result ≡ Err fault = err_is c.from_residual-in_err-commit_job.result fault c.from_residual-in_err-commit_job.ensures.1 in
    let entries : gained a.log z.log ≡ log.phase.entries ++ reduces.entries = gained_is a z (log.phase.entries ++ reduces.entries) (joined_log a b s z log.phase.entries reduces.entries log.phase.log reduces.log beside.0) in
    subst (λ (r : Result JobReport JobFault). TellsOfJob spec.folder (gained a.log z.log) r) (sym is) (subst (λ (xs : List LogEntry). TellsOfJob spec.folder xs (Err fault)) (sym entries) (commit_tells spec.folder v w log.phase.entries refl refl log.phase.of_work reduces.entries log.count spec.reducers c.in_ok-mapped.mapped.attempts c.in_ok-reduced.reduced.attempts fault (of_committer c.in_err-commit_job.field-0.0) reduces.of_work log.phase.told reduces.told))

pub returns-clause-log : goal.returns-clause-log
returns-clause-log g c =
    let spec = c.args.spec.now in
    let d : Told = g.S.Dir.told c.args.site.now in
    let e : Told = g.S.Dir.told c.map_stage.new.site in
    let plan = plan_of spec (files d) in
    let gives = g.S.Site.gives in
    let f : Told = g.S.Dir.told c.reduce_stage.new.site in
    let same : g.S.Dir.tells → plan_of spec (files e) ≡ plan = λ tells. plan_stands spec (files d) (files e) (writes_outside spec.folder d e (c.map_stage.ensures.steps tells)) (c.requires.can tells).inputs in
    let a = g.S.Site.seen c.args.site.now in
    let b = g.S.Site.seen c.map_stage.new.site in
    let s = g.S.Site.seen c.reduce_stage.new.site in
    let had = g.S.Site.given c.args.site.now in
    let has = g.S.Site.given c.map_stage.new.site in
    let have = g.S.Site.given c.reduce_stage.new.site in
    let w = work_of spec.folder Reduce spec.reduce spec.reducers in
    let log : MapLog g.P.Phases.may g.S.Dir.tells spec.folder plan spec.slots a b had has e (Ok c.in_ok-mapped.mapped) = c.in_ok-mapped.ensures.log in
    let v = work_of spec.folder Map spec.map log.count in
    let reduces : PhaseLog g.P.Phases.may g.S.Dir.tells w spec.slots (reduce_inputs gives plan) b s has have f (Ok c.in_ok-reduced.reduced.attempts) = phase_log_texts g.P.Phases.may g.S.Dir.tells w spec.slots (reduce_inputs gives (plan_of spec (files e))) (reduce_inputs gives plan) b s has have f (Ok c.in_ok-reduced.reduced.attempts) (λ tells. ap (reduce_inputs gives) (same tells)) c.in_ok-reduced.ensures.log in
    let h : Told = g.S.Dir.told c.commit_job.new.dir in
    let z = g.S.Site.seen c.commit_job.new.dir in
    let beside = g.met.S.Site.beside_dir c.commit_job.new.dir c.reduce_stage.new.site c.commit_job.ensures.beside in
    let report : JobReport = record { maps = c.in_ok-mapped.mapped.tasks; reduces = spec.reducers; attempts = c.in_ok-mapped.mapped.attempts + c.in_ok-reduced.reduced.attempts; pairs = c.in_ok-reduced.reduced.pairs } in
    let made_maps = log.phase.answer.1 in
    let made_reduces = reduces.answer.1 in
    job_log g.P.Phases.may g.S.Dir.tells gives spec.folder plan spec.slots log.count a b s z had has have (g.S.Site.given c.commit_job.new.dir) e f h (Ok c.in_ok-mapped.mapped.attempts) (Ok c.in_ok-reduced.reduced.attempts) (Ok report) log.counted (λ tells. goes_on_then e f h (goes_on e f (c.reduce_stage.ensures.steps tells)) (goes_on f h (c.commit_job.ensures.steps tells))) (λ tells. goes_on f h (c.commit_job.ensures.steps tells)) log.phase reduces beside.0 beside.1 (log.phase.answer.0, reduces.answer.0, log.tasks, refl, omega (arith, made_maps, made_reduces)) (λ _. tt) (λ _. tt)

pub returns-clause-tells : goal.returns-clause-tells
returns-clause-tells g c =
    let spec = c.args.spec.now in
    let d : Told = g.S.Dir.told c.args.site.now in
    let e : Told = g.S.Dir.told c.map_stage.new.site in
    let plan = plan_of spec (files d) in
    let gives = g.S.Site.gives in
    let f : Told = g.S.Dir.told c.reduce_stage.new.site in
    let same : g.S.Dir.tells → plan_of spec (files e) ≡ plan = λ tells. plan_stands spec (files d) (files e) (writes_outside spec.folder d e (c.map_stage.ensures.steps tells)) (c.requires.can tells).inputs in
    let a = g.S.Site.seen c.args.site.now in
    let b = g.S.Site.seen c.map_stage.new.site in
    let s = g.S.Site.seen c.reduce_stage.new.site in
    let had = g.S.Site.given c.args.site.now in
    let has = g.S.Site.given c.map_stage.new.site in
    let have = g.S.Site.given c.reduce_stage.new.site in
    let w = work_of spec.folder Reduce spec.reduce spec.reducers in
    let log : MapLog g.P.Phases.may g.S.Dir.tells spec.folder plan spec.slots a b had has e (Ok c.in_ok-mapped.mapped) = c.in_ok-mapped.ensures.log in
    let v = work_of spec.folder Map spec.map log.count in
    let reduces : PhaseLog g.P.Phases.may g.S.Dir.tells w spec.slots (reduce_inputs gives plan) b s has have f (Ok c.in_ok-reduced.reduced.attempts) = phase_log_texts g.P.Phases.may g.S.Dir.tells w spec.slots (reduce_inputs gives (plan_of spec (files e))) (reduce_inputs gives plan) b s has have f (Ok c.in_ok-reduced.reduced.attempts) (λ tells. ap (reduce_inputs gives) (same tells)) c.in_ok-reduced.ensures.log in
    let z = g.S.Site.seen c.commit_job.new.dir in
    let beside = g.met.S.Site.beside_dir c.commit_job.new.dir c.reduce_stage.new.site c.commit_job.ensures.beside in
    let entries : gained a.log z.log ≡ log.phase.entries ++ reduces.entries = gained_is a z (log.phase.entries ++ reduces.entries) (joined_log a b s z log.phase.entries reduces.entries log.phase.log reduces.log beside.0) in
    let report : JobReport = record { maps = c.in_ok-mapped.mapped.tasks; reduces = spec.reducers; attempts = c.in_ok-mapped.mapped.attempts + c.in_ok-reduced.reduced.attempts; pairs = c.in_ok-reduced.reduced.pairs } in
    subst (λ (xs : List LogEntry). TellsOfJob spec.folder xs (Ok report)) (sym entries) (both_tell spec.folder v w log.phase.entries refl refl log.phase.of_work reduces.entries log.count spec.reducers c.in_ok-mapped.mapped.attempts c.in_ok-reduced.reduced.attempts report reduces.of_work log.phase.told reduces.told refl)

pub returns-clause-merged : goal.returns-clause-merged
returns-clause-merged g c =
    λ tells.
    let spec = c.args.spec.now in
    let d : Told = g.S.Dir.told c.args.site.now in
    let e : Told = g.S.Dir.told c.map_stage.new.site in
    let plan = plan_of spec (files d) in
    let gives = g.S.Site.gives in
    let f : Told = g.S.Dir.told c.reduce_stage.new.site in
    let h : Told = g.S.Dir.told c.commit_job.new.dir in
    let outside : StandsOutside spec.folder (files d) (files e) = writes_outside spec.folder d e (c.map_stage.ensures.steps tells) in
    let same : plan_of spec (files e) ≡ plan = plan_stands spec (files d) (files e) outside (c.requires.can tells).inputs in
    let runs : Plan → Type 0 = λ (p : Plan). Once (HasJustRuns (shuffle_of spec.folder) spec.reducers (chunks_of spec.spill (pairs_among (map_outputs gives p)))) e f in
    let merged : runs plan = subst runs same (c.in_ok-reduced.ensures.merged tells) in
    once_more (HasJustRuns (shuffle_of spec.folder) spec.reducers (chunks_of spec.spill (pairs_among (map_outputs gives plan)))) (Commits spec.folder spec.reducers (files f)) d e f h (c.map_stage.ensures.steps tells).later merged (c.commit_job.ensures.steps tells)

pub returns-clause-pairs : goal.returns-clause-pairs
returns-clause-pairs g c =
    λ tells.
    let spec = c.args.spec.now in
    let d : Told = g.S.Dir.told c.args.site.now in
    let e : Told = g.S.Dir.told c.map_stage.new.site in
    let plan = plan_of spec (files d) in
    let gives = g.S.Site.gives in
    let outside : StandsOutside spec.folder (files d) (files e) = writes_outside spec.folder d e (c.map_stage.ensures.steps tells) in
    let same : plan_of spec (files e) ≡ plan = plan_stands spec (files d) (files e) outside (c.requires.can tells).inputs in
    c.in_ok-reduced.ensures.pairs tells ∙ ap (λ (p : Plan). length (pairs_among (map_outputs gives p))) same

pub returns-clause-maps : goal.returns-clause-maps
returns-clause-maps g c =
    λ tells.
    let spec = c.args.spec.now in
    let d : Told = g.S.Dir.told c.args.site.now in
    let e : Told = g.S.Dir.told c.map_stage.new.site in
    let plan = plan_of spec (files d) in
    let gives = g.S.Site.gives in
    let log : MapLog g.P.Phases.may g.S.Dir.tells spec.folder plan spec.slots (g.S.Site.seen c.args.site.now) (g.S.Site.seen c.map_stage.new.site) (g.S.Site.given c.args.site.now) (g.S.Site.given c.map_stage.new.site) e (Ok c.in_ok-mapped.mapped) = c.in_ok-mapped.ensures.log in
    log.tasks ∙ log.counted tells
