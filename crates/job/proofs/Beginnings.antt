-- When the phases of a job began.
use Rattle.std.proofs.Common.{◌≡◌, ℕ, ◌+◌, cond, ⊎_elim, List, [], ◌∷◌, ◌++◌, length, get_or, refl, sym, ap, ◌∙◌, subst, arith, length-append, append_assoc}
use Rattle.std.proofs.lemmas.Bool.{false≢true}
use Rattle.task_core.proofs.TriedLemmas.{fresh_at}
use Rattle.std.proofs.lemmas.List.{append-nil}
use Rattle.std.proofs.lemmas.List.Sums.{sum_by-cons}
use Rattle.peg_base.specs.declared.tasks.Phase.{Phase}
use Rattle.peg_base.specs.declared.tasks.Phase.TheVariants.{Map, Reduce}
use Rattle.peg_base.specs.declared.tasks.TaskId.{TaskId}
use Rattle.dir_disk.specs.Children.{Given}
use Rattle.dir_disk.specs.declared.site.LogEntry.{LogEntry}
use Rattle.dir_disk.specs.declared.site.LogEntry.TheVariants.{Started, StartFailed, Ended}
use Rattle.task_core.specs.Board.{Board, Rule, Runs, has, running_in, fresh, after, IsRun, Step, Start, Refuse, End}
use Rattle.job.specs.Failing.{is_made, made_in, steps_of}
use Rattle.job.specs.Going.{commit_calls, givens_of}
use Rattle.job.specs.Logged.{IsDoomed, of_phase}
use Rattle.job.specs.LogLaws.{IsMomentOf, DeadTaskTellsWhenItsPhaseBegan}
use Rattle.job.specs.Output.{map_inputs, reduce_inputs}
use Rattle.job.specs.Work.{Work, work_of}
use Rattle.job.proofs.Logs.{none_dead}

-- as much was given as attempts were made
givens_made : (w : Work) (inputs : ℕ → List ℕ) (calls : ℕ) (m : Board) (entries : List LogEntry) → length (givens_of w inputs calls m (steps_of entries)) ≡ made_in entries
givens_made w inputs calls m [] = refl
givens_made w inputs calls m (Started attempt ∷ entries) =
    omega (arith, sum_by-cons (λ (y : LogEntry). cond (is_made y) 1 0) (Started attempt) entries, givens_made w inputs calls (after m (Start attempt.task.task attempt.number)) entries)
givens_made w inputs calls m (StartFailed attempt ∷ entries) =
    omega (arith, sum_by-cons (λ (y : LogEntry). cond (is_made y) 1 0) (StartFailed attempt) entries, givens_made w inputs calls (after m (Refuse attempt.task.task attempt.number)) entries)
givens_made w inputs calls m (Ended attempt status ∷ entries) =
    let here : Step = End attempt.task.task attempt.number status in
    omega (arith, sum_by-cons (λ (y : LogEntry). cond (is_made y) 1 0) (Ended attempt status) entries, givens_made w inputs (calls + commit_calls w.home m (here ∷ [])) (after m here) entries)

-- nothing runs in the beginning
none_runs : (n slots t a : ℕ) → Runs (fresh n slots).tasks t a → ⊥
none_runs n slots t a is =
    ⊎_elim (λ here. false≢true (sym (ap (λ v. has a (running_in v)) here) ∙ is)) (λ here. false≢true (sym (ap (λ v. has a (running_in v)) here) ∙ is)) (fresh_at n t)

-- the first start of a phase with a dead task
first_start : (S : Rule) (v w : Work) (n slots : ℕ) (inputs : ℕ → List ℕ) (calls : ℕ) (before after_them given : List Given) (entries : List LogEntry) (id : TaskId) → IsRun S (fresh n slots) (steps_of entries) → IsDoomed S v (fresh n slots) entries id → given ≡ before ++ (givens_of w inputs calls (fresh n slots) (steps_of entries) ++ after_them) → IsMomentOf given (length before) calls
first_start S v w n slots inputs calls before after_them given [] id run doomed parts =
    absurd (false≢true (sym (none_dead n slots id.task) ∙ doomed.least_dead.dead))
first_start S v w n slots inputs calls before after_them given (Started attempt ∷ entries) id run doomed parts =
    record { before = before; start = _; after = _; parts = parts; number = refl; moment = refl }
first_start S v w n slots inputs calls before after_them given (StartFailed attempt ∷ entries) id run doomed parts =
    record { before = before; start = _; after = _; parts = parts; number = refl; moment = refl }
first_start S v w n slots inputs calls before after_them given (Ended attempt status ∷ entries) id run doomed parts =
    absurd (none_runs n slots attempt.task.task attempt.number run.0.0)

pub dead_task_tells_when_its_phase_began : (S : Rule) → DeadTaskTellsWhenItsPhaseBegan S
dead_task_tells_when_its_phase_began S gives folder plan slots old new had has e id log =
    ⊎_elim (λ in_maps. of_map in_maps.0) (λ later. ⊎_elim (λ in_reduces. of_reduce in_reduces.1) (λ commit. absurd commit.0) later) log.answer
  where
    v : Work
    v = work_of folder Map plan.map_words log.count

    w : Work
    w = work_of folder Reduce plan.reduce_words plan.reducers

    first : List Given
    first = givens_of v (λ t. get_or (map_inputs plan) t []) log.map_began (fresh log.count slots) (steps_of log.maps)

    second : List Given
    second = givens_of w (λ t. get_or (reduce_inputs gives plan) t []) log.reduce_began (fresh plan.reducers slots) (steps_of log.reduces)

    of_map : IsDoomed S v (fresh log.count slots) log.maps id → IsMomentOf has (length had + of_phase id.phase 0 (made_in log.maps)) (of_phase id.phase log.map_began log.reduce_began)
    of_map doomed =
        let phase : id.phase ≡ Map = ap (λ (i : TaskId). i.phase) doomed.named in
        let number : length had ≡ length had + 0 = omega arith in
        let here : IsMomentOf has (length had + 0) log.map_began = subst (λ (k : ℕ). IsMomentOf has k log.map_began) number (first_start S v v log.count slots (λ t. get_or (map_inputs plan) t []) log.map_began had second has log.maps id log.map_run doomed (log.givens tt)) in
        subst (λ (p : Phase). IsMomentOf has (length had + of_phase p 0 (made_in log.maps)) (of_phase p log.map_began log.reduce_began)) (sym phase) here

    of_reduce : IsDoomed S w (fresh plan.reducers slots) log.reduces id → IsMomentOf has (length had + of_phase id.phase 0 (made_in log.maps)) (of_phase id.phase log.map_began log.reduce_began)
    of_reduce doomed =
        let phase : id.phase ≡ Reduce = ap (λ (i : TaskId). i.phase) doomed.named in
        let made = givens_made v (λ t. get_or (map_inputs plan) t []) log.map_began (fresh log.count slots) log.maps in
        let number : length (had ++ first) ≡ length had + made_in log.maps = length-append had first ∙ ap (λ (k : ℕ). length had + k) made in
        let parts : has ≡ (had ++ first) ++ (second ++ []) = log.givens tt ∙ sym (append_assoc had first second) ∙ ap (λ (gs : List Given). (had ++ first) ++ gs) (sym (append-nil second)) in
        let here : IsMomentOf has (length had + made_in log.maps) log.reduce_began = subst (λ (k : ℕ). IsMomentOf has k log.reduce_began) number (first_start S w w plan.reducers slots (λ t. get_or (reduce_inputs gives plan) t []) log.reduce_began (had ++ first) [] has log.reduces id log.reduce_run doomed parts) in
        subst (λ (p : Phase). IsMomentOf has (length had + of_phase p 0 (made_in log.maps)) (of_phase p log.map_began log.reduce_began)) (sym phase) here
