-- What the entries of a log tell of a task is what the steps of the machine tell.
use Rattle.std.proofs.Common.{◌≡◌, ℕ, ◌+◌, ◌<◌, ◌≤◌, Bool, true, false, cond, eqb, ◌&&◌, not, List, [], ◌∷◌, ◌++◌, length, drop, Result, Ok, Err, refl, sym, ap, ◌∙◌, subst, arith}
use Rattle.std.specs.List.{AllByRecursion}
use Rattle.std.proofs.lemmas.Bool.{false≢true}
use Rattle.std.proofs.lemmas.List.{append-nil, map-append}
use Rattle.std.proofs.lemmas.List.Sums.{sum_by-cons}
use Rattle.std.proofs.Math.Seq.{drop-append_seam}
use Rattle.peg_base.specs.Names.{Names, same_path}
use Rattle.peg_base.proofs.Under.{same_path-refl}
use Rattle.peg_base.specs.declared.tasks.Phase.{Phase}
use Rattle.peg_base.specs.declared.tasks.Phase.TheVariants.{Map, Combine, Reduce}
use Rattle.peg_base.specs.declared.tasks.Attempt.{Attempt}
use Rattle.dir_disk.specs.Moments.{Told}
use Rattle.dir_disk.specs.Children.{Given, Seen}
use Rattle.dir_disk.specs.declared.site.LogEntry.{LogEntry}
use Rattle.dir_disk.specs.declared.site.LogEntry.TheVariants.{Started, StartFailed as Refused, Ended as Left}
use Rattle.task_core.specs.Board.{is_success, Step, MayStart, IsRun, AtAnyTime, Rule, IsRule, Tried, Open, Finished, tried_at, fresh, after_all, is_dead, is_done, IsBusy, IsBusyRun, NoneDead}
use Rattle.task_core.specs.Log.{is_failure_of, is_success_of, failures_of, successes_of}
use Rattle.task_core.proofs.OneAtOnce.{at_most_one}
use Rattle.task_core.proofs.TriedLemmas.{IsRunWhere-append}
use Rattle.task_core.proofs.History.{IsRun-from_where, tells_run, dead_counts as dead_of, alive_counts, done_counts as done_of_counts}
use Rattle.job.specs.declared.fault.JobFault.{JobFault}
use Rattle.job.specs.declared.fault.JobFault.TheVariants.{TaskFailed, Disk, NoMemory}
use Rattle.job.specs.Work.{Work, task_id}
use Rattle.peg_base.specs.Tasks.{same_phase}
use Rattle.job.specs.Failing.{gained, IsEntryOf, step_of, steps_of, is_of, is_failed_of, is_done_of, failed_of, done_of, made_in}
use Rattle.job.specs.Ran.{Answers, Ran, StopsEarly, TellsOf}

same_phase-refl : (phase : Phase) → same_phase phase phase ≡ true
same_phase-refl Map = refl
same_phase-refl Combine = refl
same_phase-refl Reduce = refl

-- an attempt of this work is one of task t where its number is t
is_of_task : (w : Work) (attempt : Attempt) (t : ℕ) → attempt.task.job ≡ w.folder → attempt.task.phase ≡ w.phase → is_of (task_id w.folder w.phase t) attempt ≡ eqb attempt.task.task t
is_of_task w attempt t job phase =
    let path : same_path attempt.task.job w.folder ≡ true = ap (λ (p : Names). same_path p w.folder) job ∙ same_path-refl w.folder in
    let kind : same_phase attempt.task.phase w.phase ≡ true = ap (λ (p : Phase). same_phase p w.phase) phase ∙ same_phase-refl w.phase in
    rw (path, kind) refl

entry_failed : (w : Work) (x : LogEntry) (t : ℕ) → IsEntryOf w x → is_failed_of (task_id w.folder w.phase t) x ≡ is_failure_of t (step_of x)
entry_failed w (Started attempt) t is = refl
entry_failed w (Refused attempt) t is = is_of_task w attempt t is.job is.phase
entry_failed w (Left attempt status) t is =
    ap (λ (b : Bool). b && not (is_success status)) (is_of_task w attempt t is.job is.phase)

entry_done : (w : Work) (x : LogEntry) (t : ℕ) → IsEntryOf w x → is_done_of (task_id w.folder w.phase t) x ≡ is_success_of t (step_of x)
entry_done w (Started attempt) t is = refl
entry_done w (Refused attempt) t is = refl
entry_done w (Left attempt status) t is =
    ap (λ (b : Bool). b && is_success status) (is_of_task w attempt t is.job is.phase)

pub failed_counts : (w : Work) (xs : List LogEntry) (t : ℕ) → AllByRecursion (IsEntryOf w) xs → failed_of (task_id w.folder w.phase t) xs ≡ failures_of t (steps_of xs)
failed_counts w [] t each = refl
failed_counts w (x ∷ xs) t each =
    sum_by-cons (λ y. cond (is_failed_of (task_id w.folder w.phase t) y) 1 0) x xs ∙ ap (λ (b : Bool). cond b 1 0 + failed_of (task_id w.folder w.phase t) xs) (entry_failed w x t each.0) ∙ ap (λ (k : ℕ). cond (is_failure_of t (step_of x)) 1 0 + k) (failed_counts w xs t each.1) ∙ sym (sum_by-cons (λ y. cond (is_failure_of t y) 1 0) (step_of x) (steps_of xs))

pub done_counts : (w : Work) (xs : List LogEntry) (t : ℕ) → AllByRecursion (IsEntryOf w) xs → done_of (task_id w.folder w.phase t) xs ≡ successes_of t (steps_of xs)
done_counts w [] t each = refl
done_counts w (x ∷ xs) t each =
    sum_by-cons (λ y. cond (is_done_of (task_id w.folder w.phase t) y) 1 0) x xs ∙ ap (λ (b : Bool). cond b 1 0 + done_of (task_id w.folder w.phase t) xs) (entry_done w x t each.0) ∙ ap (λ (k : ℕ). cond (is_success_of t (step_of x)) 1 0 + k) (done_counts w xs t each.1) ∙ sym (sum_by-cons (λ y. cond (is_success_of t y) 1 0) (step_of x) (steps_of xs))

-- ---- the state after a busy run, told by its entries

dead_tells : (S : Rule) → IsRule S → (w : Work) (slots : ℕ) (xs : List LogEntry) (t : ℕ) → AllByRecursion (IsEntryOf w) xs → IsBusyRun S (fresh w.count slots) (steps_of xs) → is_dead (tried_at (after_all (fresh w.count slots) (steps_of xs)).tasks t) ≡ true → (failed_of (task_id w.folder w.phase t) xs ≡ 4) × (t < w.count)
dead_tells S rule w slots xs t each run dead =
    let is = dead_of w.count t (tried_at (after_all (fresh w.count slots) (steps_of xs)).tasks t) _ (failures_of t (steps_of xs)) _ dead (tells_run S rule (IsBusy S) w.count slots t (steps_of xs) run) in
    (failed_counts w xs t each ∙ is.0, is.1)

alive_tells : (S : Rule) → IsRule S → (w : Work) (slots : ℕ) (xs : List LogEntry) (t : ℕ) → AllByRecursion (IsEntryOf w) xs → IsBusyRun S (fresh w.count slots) (steps_of xs) → is_dead (tried_at (after_all (fresh w.count slots) (steps_of xs)).tasks t) ≡ false → failed_of (task_id w.folder w.phase t) xs < 4
alive_tells S rule w slots xs t each run alive =
    let few = alive_counts w.count t (tried_at (after_all (fresh w.count slots) (steps_of xs)).tasks t) _ (failures_of t (steps_of xs)) _ alive (tells_run S rule (IsBusy S) w.count slots t (steps_of xs) run) in
    omega (arith, few, failed_counts w xs t each)

done_tells : (S : Rule) → IsRule S → (w : Work) (slots : ℕ) (xs : List LogEntry) (t : ℕ) → AllByRecursion (IsEntryOf w) xs → IsBusyRun S (fresh w.count slots) (steps_of xs) → t < w.count → is_done (tried_at (after_all (fresh w.count slots) (steps_of xs)).tasks t) ≡ true → 1 ≤ done_of (task_id w.folder w.phase t) xs
done_tells S rule w slots xs t each run below done =
    let some = done_of_counts w.count t (tried_at (after_all (fresh w.count slots) (steps_of xs)).tasks t) _ _ (successes_of t (steps_of xs)) done below (tells_run S rule (IsBusy S) w.count slots t (steps_of xs) run) in
    omega (arith, some, done_counts w xs t each)

not_done_dead : (v : Tried) → is_done v ≡ true → is_dead v ≡ false
not_done_dead (Open n rs) done = absurd (false≢true done)
not_done_dead (Finished rs) done = refl

each_front : (w : Work) (front ends : List LogEntry) → AllByRecursion (IsEntryOf w) (front ++ ends) → AllByRecursion (IsEntryOf w) front
each_front w [] ends each = tt
each_front w (x ∷ front) ends each = (each.0, each_front w front ends each.1)

stops_early : (S : Rule) → IsRule S → (w : Work) (slots : ℕ) (front ends : List LogEntry) → AllByRecursion (IsEntryOf w) (front ++ ends) → IsBusyRun S (fresh w.count slots) (steps_of front) → made_in ends ≡ 0 → NoneDead (after_all (fresh w.count slots) (steps_of front)).tasks → StopsEarly w.folder w.phase (front ++ ends)
stops_early S rule w slots front ends each run made none =
    record {
      front = front;
      ends = ends;
      parts = refl;
      few = λ t. alive_tells S rule w slots front t (each_front w front ends each) run (none t);
      none_made = made;
    }

answer_tells : (S : Rule) → IsRule S → (w : Work) (slots : ℕ) (front ends : List LogEntry) (r : Result ℕ JobFault) → AllByRecursion (IsEntryOf w) (front ++ ends) → IsBusyRun S (fresh w.count slots) (steps_of front) → made_in ends ≡ 0 → Answers w (after_all (fresh w.count slots) (steps_of front)) front ends r → TellsOf w.folder w.phase w.count (front ++ ends) r
answer_tells S rule w slots front ends (Ok made) each run none answer =
    let whole : front ++ ends ≡ front = ap (λ (l : List LogEntry). front ++ l) answer.2 ∙ append-nil front in
    let here = each_front w front ends each in
    subst (λ (l : List LogEntry). TellsOf w.folder w.phase w.count l (Ok made)) (sym whole) (answer.1, (λ t. alive_tells S rule w slots front t here run (not_done_dead (tried_at (after_all (fresh w.count slots) (steps_of front)).tasks t) (answer.0 t))), (λ t below. done_tells S rule w slots front t here run below (answer.0 t)))
answer_tells S rule w slots front ends (Err (TaskFailed id)) each run none answer =
    let whole : front ++ ends ≡ front = ap (λ (l : List LogEntry). front ++ l) answer.2 ∙ append-nil front in
    let here = each_front w front ends each in
    let four : failed_of (task_id w.folder w.phase id.task) front ≡ 4 = (dead_tells S rule w slots front id.task here run answer.1.dead).0 in
    let four_is : failed_of id front ≡ 4 = subst (λ i. failed_of i front ≡ 4) (sym answer.0) four in
    subst (λ (l : List LogEntry). TellsOf w.folder w.phase w.count l (Err (TaskFailed id))) (sym whole) (answer.0, (dead_tells S rule w slots front id.task here run answer.1.dead).1, four_is, (λ t less. alive_tells S rule w slots front t here run (answer.1.least t less)))
answer_tells S rule w slots front ends (Err Disk) each run none answer = stops_early S rule w slots front ends each run none answer
answer_tells S rule w slots front ends (Err NoMemory) each run none answer = stops_early S rule w slots front ends each run none answer

pub ran_tells : (S : Rule) → IsRule S → (tells : Type 0) (w : Work) (slots : ℕ) (inputs : ℕ → List ℕ) (old new : Seen) (had has : List Given) (d e : Told) (r : Result ℕ JobFault) → Ran S tells w (fresh w.count slots) inputs old new had has d e r → TellsOf w.folder w.phase w.count (gained old.log new.log) r
ran_tells S rule tells w slots inputs old new had has d e r ran =
    let gains : gained old.log new.log ≡ ran.front ++ ran.ends = ap (λ (l : List LogEntry). drop (length old.log) l) ran.log ∙ drop-append_seam old.log (ran.front ++ ran.ends) in
    subst (λ (l : List LogEntry). TellsOf w.folder w.phase w.count l r) (sym gains) (answer_tells S rule w slots ran.front ran.ends r ran.of_work ran.busy ran.none_made ran.answer)

-- ---- where at most one attempt of a task runs at once

-- no task succeeds twice
pub once_tells : (w : Work) (slots : ℕ) (xs : List LogEntry) (t : ℕ) → AllByRecursion (IsEntryOf w) xs → IsRun MayStart (fresh w.count slots) (steps_of xs) → done_of (task_id w.folder w.phase t) xs ≤ 1
once_tells w slots xs t each run =
    let few = at_most_one w.count slots t (steps_of xs) run in omega (arith, few, done_counts w xs t each)

pub ran_once : (tells : Type 0) (w : Work) (slots : ℕ) (inputs : ℕ → List ℕ) (old new : Seen) (had has : List Given) (d e : Told) (r : Result ℕ JobFault) → Ran MayStart tells w (fresh w.count slots) inputs old new had has d e r → (t : ℕ) → done_of (task_id w.folder w.phase t) (gained old.log new.log) ≤ 1
ran_once tells w slots inputs old new had has d e r ran t =
    let m = fresh w.count slots in
    let entries = ran.front ++ ran.ends in
    let gains : gained old.log new.log ≡ entries = ap (λ (l : List LogEntry). drop (length old.log) l) ran.log ∙ drop-append_seam old.log entries in
    let steps : steps_of entries ≡ steps_of ran.front ++ steps_of ran.ends = map-append step_of ran.front ran.ends in
    let whole : IsRun MayStart m (steps_of ran.front ++ steps_of ran.ends) = IsRunWhere-append MayStart AtAnyTime m (steps_of ran.front) (steps_of ran.ends) (IsRun-from_where MayStart (IsBusy MayStart) m (steps_of ran.front) ran.busy) ran.waited in
    let run : IsRun MayStart m (steps_of entries) = subst (λ (xs : List Step). IsRun MayStart m xs) (sym steps) whole in
    subst (λ (l : List LogEntry). done_of (task_id w.folder w.phase t) l ≤ 1) (sym gains) (once_tells w slots entries t ran.of_work run)
