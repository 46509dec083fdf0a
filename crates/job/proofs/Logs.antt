-- The log of a job's phases.
use Rattle.std.proofs.Common.{◌≡◌, ℕ, true, ◌+◌, ◌*◌, ◌<◌, ◌≤◌, List, [], ◌∷◌, ◌++◌, length, get_or, drop, cond, Result, Ok, Err, inl, inr, refl, sym, ◌∙◌, ap, subst, arith}
use Rattle.std.specs.Prelude.{◌==◌}
use Rattle.std.specs.List.{All}
use Rattle.std.specs.Result.{IsErrAnd}
use Rattle.std.proofs.Math.Seq.{drop-append_seam}
use Rattle.std.proofs.lemmas.Bool.{eqb-true, false≢true}
use Rattle.std.proofs.lemmas.List.{append-nil, map-append}
use Rattle.std.proofs.lemmas.List.Elements.{All-tail}
use Rattle.std.proofs.lemmas.List.Sums.{sum_by-cons}
use Rattle.dir_disk.specs.Children.{Given, Seen}
use Rattle.dir_disk.specs.State.{State}
use Rattle.dir_disk.specs.Moments.{Moment, Told, Through, clock, files}
use Rattle.dir_disk.specs.declared.site.LogEntry.{LogEntry}
use Rattle.dir_disk.specs.declared.site.LogEntry.TheVariants.{Started, StartFailed, Ended}
use Rattle.task_core.specs.Log.{IsNumbered, NamesTask, attempts_in, is_attempt}
use Rattle.task_core.specs.Board.{Board, Rule, IsRule, NoneDead, fresh, after, after_all, IsRun, IsBusy, IsBusyRun, AtAnyTime, Step, Start, Refuse, End}
use Rattle.task_core.proofs.History.{names_all, few_attempts, IsRun-from_where}
use Rattle.task_core.proofs.TriedLemmas.{IsRunWhere-append}
use Rattle.job.proofs.PhaseLemmas.{fresh_none_dead}
use Rattle.peg_base.specs.Names.{Names}
use Rattle.peg_base.specs.declared.tasks.Phase.TheVariants.{Map}
use Rattle.peg_base.specs.declared.tasks.TaskId.{TaskId}
use Rattle.committer.specs.declared.fault.CommitFault.{CommitFault}
use Rattle.committer.specs.declared.fault.CommitFault.TheVariants.{Disk as CommitDisk, NoMemory as CommitMemory}
use Rattle.splits.specs.declared.fault.SplitFault.{SplitFault}
use Rattle.splits.specs.declared.fault.SplitFault.TheVariants.{Disk as SplitDisk, NoMemory as SplitMemory}
use Rattle.job.specs.declared.shuffling.fault.ShuffleFault.{ShuffleFault}
use Rattle.job.specs.declared.shuffling.fault.ShuffleFault.TheVariants.{Disk as ShuffleDisk, NoMemory as ShuffleMemory}
use Rattle.job.specs.declared.run.Mapped.{Mapped}
use Rattle.job.specs.declared.run.Reduced.{Reduced}
use Rattle.job.specs.declared.fault.JobFault.{JobFault}
use Rattle.job.specs.declared.fault.JobFault.TheVariants.{TaskFailed, Disk, NoMemory}
use Rattle.job.specs.Failing.{gained, is_made, made_in, step_of, steps_of}
use Rattle.job.specs.Going.{AreAsMany, commit_calls, givens_of}
use Rattle.job.specs.Logged.{GoesOn, HadTexts, ReadTexts, IsGivenUp, IsDone, IsDoomed, IfGivenUp, IfTaskFailed, NamesNoTask, PhaseAnswers, PhaseLog, MapLog, StopsIn, reduced_attempts}
use Rattle.job.specs.Ran.{Answers, IsExactFor, Ran, TellsOf}
use Rattle.job.proofs.Goings.{givens-append}
use Rattle.job.specs.Faults.{job_fault}
use Rattle.job.specs.StageFaults.{of_split, of_shuffle}
use Rattle.job.specs.Output.{Plan, map_inputs}
use Rattle.job.specs.Work.{Home, Work, calls_at, text_at, work_of}

pub none_dead : (tasks slots : ℕ) → NoneDead (fresh tasks slots).tasks
none_dead tasks slots = fresh_none_dead tasks slots

-- ---- a phase that was not begun

given_up : (S : Rule) (m : Board) → NoneDead m.tasks → IsGivenUp S m []
given_up S m none =
    record { front = []; ends = []; parts = refl; busy = tt; none_dead = none; none_made = refl }

not_begun : (S : Rule) (w : Work) (slots : ℕ) (fault : JobFault) → NamesNoTask fault → PhaseAnswers S w (fresh w.count slots) [] (Err fault)
not_begun S w slots (TaskFailed id) never = absurd never
not_begun S w slots Disk is = given_up S (fresh w.count slots) (none_dead w.count slots)
not_begun S w slots NoMemory is = given_up S (fresh w.count slots) (none_dead w.count slots)

told_nothing : (w : Work) (fault : JobFault) → NamesNoTask fault → TellsOf w.folder w.phase w.count [] (Err fault)
told_nothing w (TaskFailed id) never = absurd never
told_nothing w Disk is =
    record { front = []; ends = []; parts = refl; few = λ t. omega arith; none_made = refl }
told_nothing w NoMemory is =
    record { front = []; ends = []; parts = refl; few = λ t. omega arith; none_made = refl }

-- a fault that names no task
pub no_task_failed : (T : Type 0) (fault : JobFault) (P : TaskId → Type 0) → NamesNoTask fault → (let result : Result T JobFault = Err fault in IfTaskFailed result P)
no_task_failed T (TaskFailed id) P never = absurd never
no_task_failed T Disk P is = tt
no_task_failed T NoMemory P is = tt

stops_at_once : (S : Rule) (home : Home) (m : Board) (began calls : ℕ) (fault : JobFault) → (let result : Result ℕ JobFault = Err fault in IfGivenUp result (λ exact. StopsIn S exact home m [] began calls))
stops_at_once S home m began calls (TaskFailed id) = tt
stops_at_once S home m began calls Disk = inl refl
stops_at_once S home m began calls NoMemory = inl refl

pub log_none : (S : Rule) (tells : Type 0) (w : Work) (slots : ℕ) (texts : List (List ℕ)) (old new : Seen) (had has : List Given) (e : Told) (fault : JobFault) → new ≡ old → (tells → has ≡ had) → NamesNoTask fault → PhaseLog S tells w slots texts old new had has e (Err fault)
log_none S tells w slots texts old new had has e fault same given is =
    record {
      entries = [];
      log = ap (λ (s : Seen). s.log) same ∙ sym (append-nil old.log);
      of_work = tt;
      run = tt;
      began = 0;
      givens = λ told. given told ∙ sym (append-nil had);
      read = λ _. inl refl;
      calls = λ _. no_task_failed ℕ fault (λ id. clock e ≡ 0 + commit_calls w.home (fresh w.count slots) []) is;
      stopped = λ _. stops_at_once S w.home (fresh w.count slots) 0 (clock e) fault;
      start_faults = let e : new.start_faults ≡ old.start_faults = ap (λ (s : Seen). s.start_faults) same in omega (arith, e);
      answer = not_begun S w slots fault is;
      told = told_nothing w fault is;
    }

-- ---- a phase that was run

givens_within : (w : Work) (inputs more : ℕ → List ℕ) (n calls : ℕ) (m : Board) (steps : List Step) → All (NamesTask n) steps → ((t : ℕ) → t < n → inputs t ≡ more t) → givens_of w inputs calls m steps ≡ givens_of w more calls m steps
givens_within w inputs more n calls m [] named same = refl
givens_within w inputs more n calls m (Start t a ∷ steps) named same =
    let first : IsNumbered n t a = named 0 (Start t a) (omega arith) in
    ap (λ (text : List ℕ). record { words = w.words; input = text; moment = calls } ∷ givens_of w inputs calls (after m (Start t a)) steps) (same t first.task) ∙ ap (λ rest. record { words = w.words; input = more t; moment = calls } ∷ rest) (givens_within w inputs more n calls (after m (Start t a)) steps (All-tail (NamesTask n) (Start t a) steps named) same)
givens_within w inputs more n calls m (Refuse t a ∷ steps) named same =
    let first : IsNumbered n t a = named 0 (Refuse t a) (omega arith) in
    ap (λ (text : List ℕ). record { words = w.words; input = text; moment = calls } ∷ givens_of w inputs calls (after m (Refuse t a)) steps) (same t first.task) ∙ ap (λ rest. record { words = w.words; input = more t; moment = calls } ∷ rest) (givens_within w inputs more n calls (after m (Refuse t a)) steps (All-tail (NamesTask n) (Refuse t a) steps named) same)
givens_within w inputs more n calls m (End t a status ∷ steps) named same =
    givens_within w inputs more n (calls + commit_calls w.home m (End t a status ∷ [])) (after m (End t a status)) steps (All-tail (NamesTask n) (End t a status) steps named) same

-- where no attempt was made nothing was given
none_given : (w : Work) (inputs : ℕ → List ℕ) (calls : ℕ) (m : Board) (ends : List LogEntry) → made_in ends ≡ 0 → givens_of w inputs calls m (steps_of ends) ≡ []
none_given w inputs calls m [] none = refl
none_given w inputs calls m (Started attempt ∷ ends) none =
    absurd (omega (arith, sum_by-cons (λ (y : LogEntry). cond (is_made y) 1 0) (Started attempt) ends, none))
none_given w inputs calls m (StartFailed attempt ∷ ends) none =
    absurd (omega (arith, sum_by-cons (λ (y : LogEntry). cond (is_made y) 1 0) (StartFailed attempt) ends, none))
none_given w inputs calls m (Ended attempt status ∷ ends) none =
    let here : Step = End attempt.task.task attempt.number status in
    none_given w inputs (calls + commit_calls w.home m (here ∷ [])) (after m here) ends (omega (arith, sum_by-cons (λ (y : LogEntry). cond (is_made y) 1 0) (Ended attempt status) ends, none))

-- what was given before a refusal is all that was given
all_given : (w : Work) (inputs : ℕ → List ℕ) (calls : ℕ) (m : Board) (front ends : List LogEntry) → made_in ends ≡ 0 → givens_of w inputs calls m (steps_of front) ≡ givens_of w inputs calls m (steps_of (front ++ ends))
all_given w inputs calls m front ends none =
    let late = calls + commit_calls w.home m (steps_of front) in
    let reached = after_all m (steps_of front) in
    let before = givens_of w inputs calls m (steps_of front) in
    sym (ap (λ (xs : List Step). givens_of w inputs calls m xs) (map-append step_of front ends) ∙ givens-append w inputs calls m (steps_of front) (steps_of ends) ∙ ap (λ (gs : List Given). before ++ gs) (none_given w inputs late reached ends none) ∙ append-nil before)

-- a phase with a dead task made the calls of each commit
calls_told : (w : Work) (m k : Board) (front ends : List LogEntry) (d e : Told) (result : Result ℕ JobFault) → Answers w k front ends result → AreAsMany (IsExactFor w.home result) (clock e) (clock d + commit_calls w.home m (steps_of front)) → IfTaskFailed result (λ id. clock e ≡ clock d + commit_calls w.home m (steps_of (front ++ ends)))
calls_told w m k front ends d e (Ok made) answer calls = tt
calls_told w m k front ends d e (Err (TaskFailed id)) (named, least, nothing) calls =
    let same : front ≡ front ++ ends = sym (ap (λ (xs : List LogEntry). front ++ xs) nothing ∙ append-nil front) in
    let exact : clock e ≡ clock d + commit_calls w.home m (steps_of front) = calls.exact tt in
    subst (λ (xs : List LogEntry). clock e ≡ clock d + commit_calls w.home m (steps_of xs)) same exact
calls_told w m k front ends d e (Err Disk) answer calls = tt
calls_told w m k front ends d e (Err NoMemory) answer calls = tt

-- a phase that was given up made the calls of each commit before that
stops_told : (S : Rule) (w : Work) (m : Board) (front ends : List LogEntry) (d e : Told) (result : Result ℕ JobFault) → IsBusyRun S m (steps_of front) → made_in ends ≡ 0 → Answers w (after_all m (steps_of front)) front ends result → AreAsMany (IsExactFor w.home result) (clock e) (clock d + commit_calls w.home m (steps_of front)) → IfGivenUp result (λ exact. StopsIn S exact w.home m (front ++ ends) (clock d) (clock e))
stops_told S w m front ends d e (Ok made) busy none answer calls = tt
stops_told S w m front ends d e (Err (TaskFailed id)) busy none answer calls = tt
stops_told S w m front ends d e (Err Disk) busy none alive calls =
    let given_up : IsGivenUp S m (front ++ ends) = record { front = front; ends = ends; parts = refl; busy = busy; none_dead = alive; none_made = none } in
    inr (record { given_up = given_up; spent = record { most = calls.most; exact = λ is. calls.exact (one_call w.home is) } })
  where
    one_call : (home : Home) → (calls_at home == 1) ≡ true → calls_at home ≡ 1
    one_call home is = eqb-true (calls_at home) 1 is
stops_told S w m front ends d e (Err NoMemory) busy none alive calls =
    let given_up : IsGivenUp S m (front ++ ends) = record { front = front; ends = ends; parts = refl; busy = busy; none_dead = alive; none_made = none } in
    inr (record { given_up = given_up; spent = record { most = calls.most; exact = λ is. absurd (false≢true is) } })

pub made_is : (entries : List LogEntry) → made_in entries ≡ attempts_in (steps_of entries)
made_is [] = refl
made_is (x ∷ entries) =
    made_more x (sum_by-cons (λ (y : LogEntry). cond (is_made y) 1 0) x entries) (sum_by-cons (λ (y : Step). cond (is_attempt y) 1 0) (step_of x) (steps_of entries)) (made_is entries)
  where
    made_more : (x : LogEntry) → made_in (x ∷ entries) ≡ cond (is_made x) 1 0 + made_in entries → attempts_in (step_of x ∷ steps_of entries) ≡ cond (is_attempt (step_of x)) 1 0 + attempts_in (steps_of entries) → made_in entries ≡ attempts_in (steps_of entries) → made_in (x ∷ entries) ≡ attempts_in (steps_of (x ∷ entries))
    made_more (Started attempt) one other rest = omega (arith, one, other, rest)
    made_more (StartFailed attempt) one other rest = omega (arith, one, other, rest)
    made_more (Ended attempt status) one other rest = omega (arith, one, other, rest)

-- the entries of a run that was answered S so
answered : (S : Rule) (w : Work) (m : Board) (front ends : List LogEntry) (result : Result ℕ JobFault) → IsBusyRun S m (steps_of front) → made_in ends ≡ 0 → Answers w (after_all m (steps_of front)) front ends result → PhaseAnswers S w m (front ++ ends) result
answered S w m front ends (Ok made) busy none (all, is, nothing) =
    let same : front ++ ends ≡ front = ap (λ (xs : List LogEntry). front ++ xs) nothing ∙ append-nil front in
    subst (λ (xs : List LogEntry). IsDone S m xs × (made ≡ made_in xs)) (sym same) (record { busy = busy; all_done = all }, is)
answered S w m front ends (Err (TaskFailed id)) busy none (named, least, nothing) =
    let same : front ++ ends ≡ front = ap (λ (xs : List LogEntry). front ++ xs) nothing ∙ append-nil front in
    subst (λ (xs : List LogEntry). IsDoomed S w m xs id) (sym same) (record { busy = busy; named = named; least_dead = least })
answered S w m front ends (Err Disk) busy none alive =
    record { front = front; ends = ends; parts = refl; busy = busy; none_dead = alive; none_made = none }
answered S w m front ends (Err NoMemory) busy none alive =
    record { front = front; ends = ends; parts = refl; busy = busy; none_dead = alive; none_made = none }

pub gained_is : (old new : Seen) (entries : List LogEntry) → new.log ≡ old.log ++ entries → gained old.log new.log ≡ entries
gained_is old new entries log =
    ap (λ (xs : List LogEntry). drop (length old.log) xs) log ∙ drop-append_seam old.log entries

pub goes_on : {Step : State → State → Type 0} (d e : Told) → Through Step d e → GoesOn d e
goes_on d e steps = record { later = steps.later; past = steps.past }

pub goes_on_then : (d e f : Told) → GoesOn d e → GoesOn e f → GoesOn d f
goes_on_then d e f one other =
    record {
      later = omega (arith, one.later, other.later);
      past = λ moment before. other.past moment (omega (arith, before, one.later)) ∙ one.past moment before;
    }

pub goes_on_none : (d : Told) → GoesOn d d
goes_on_none d = record { later = omega arith; past = λ moment before. refl }

had_texts : (w : Work) (inputs : ℕ → List ℕ) (texts : List (List ℕ)) (d e : Told) → inputs ≡ text_at w (files d) → GoesOn d e → ((t : ℕ) → t < w.count → inputs t ≡ get_or texts t []) → HadTexts w texts (clock d) e
had_texts w inputs texts d e inputs_are on texts_are =
    let same : e.at d.count ≡ d.at d.count = on.past d.count (omega arith) in
    record {
      moment = d.count;
      past = on.later;
      calls = ap (λ (m : Moment). m.calls) same;
      each = λ t below. ap (λ (m : Moment). text_at w m.state t) same ∙ sym (ap (λ (F : ℕ → List ℕ). F t) inputs_are) ∙ texts_are t below;
    }

pub read_later : (w : Work) (texts : List (List ℕ)) (began : ℕ) (entries : List LogEntry) (d e : Told) → GoesOn d e → ReadTexts w texts began entries d → ReadTexts w texts began entries e
read_later w texts began entries d e on (inl none) = inl none
read_later w texts began entries d e on (inr had) =
    let same : e.at had.moment ≡ d.at had.moment = on.past had.moment had.past in
    inr (record {
      moment = had.moment;
      past = omega (arith, had.past, on.later);
      calls = ap (λ (m : Moment). m.calls) same ∙ had.calls;
      each = λ t below. ap (λ (m : Moment). text_at w m.state t) same ∙ had.each t below;
    })

-- the phase began where `seen` was as at entry
pub log_ran : (S : Rule) → IsRule S → (tells : Type 0) (w : Work) (slots : ℕ) (inputs : ℕ → List ℕ) (texts : List (List ℕ)) (a b c : Seen) (had has have : List Given) (d e : Told) (result : Result ℕ JobFault) → b ≡ a → (tells → has ≡ had) → (tells → GoesOn d e) → (inputs ≡ text_at w (files d)) → (tells → (t : ℕ) → t < w.count → inputs t ≡ get_or texts t []) → Ran S tells w (fresh w.count slots) inputs b c has have d e result → TellsOf w.folder w.phase w.count (gained b.log c.log) result → PhaseLog S tells w slots texts a c had have e result
log_ran S rule tells w slots inputs texts a b c had has have d e result same given on inputs_are texts_are ran told =
    let entries = ran.front ++ ran.ends in
    let steps : steps_of entries ≡ steps_of ran.front ++ steps_of ran.ends = map-append step_of ran.front ran.ends in
    let run : IsRun S (fresh w.count slots) (steps_of entries) = subst (λ (xs : List Step). IsRun S (fresh w.count slots) xs) (sym steps) (IsRunWhere-append S AtAnyTime (fresh w.count slots) (steps_of ran.front) (steps_of ran.ends) (IsRun-from_where S (IsBusy S) (fresh w.count slots) (steps_of ran.front) ran.busy) ran.waited) in
    let named : All (NamesTask w.count) (steps_of entries) = names_all S rule AtAnyTime w.count slots (steps_of entries) run in
    record {
      entries = entries;
      log = ran.log ∙ ap (λ (s : Seen). s.log ++ entries) same;
      of_work = ran.of_work;
      run = run;
      began = clock d;
      givens = λ tell. ran.givens tell ∙ ap (λ (gs : List Given). gs ++ givens_of w inputs (clock d) (fresh w.count slots) (steps_of ran.front)) (given tell) ∙ ap (λ (gs : List Given). had ++ gs) (all_given w inputs (clock d) (fresh w.count slots) ran.front ran.ends ran.none_made ∙ givens_within w inputs (λ t. get_or texts t []) w.count (clock d) (fresh w.count slots) (steps_of entries) named (texts_are tell));
      read = λ tell. inr (had_texts w inputs texts d e inputs_are (on tell) (texts_are tell));
      calls = λ tell. calls_told w (fresh w.count slots) (after_all (fresh w.count slots) (steps_of ran.front)) ran.front ran.ends d e result ran.answer (ran.calls tell);
      stopped = λ tell. stops_told S w (fresh w.count slots) ran.front ran.ends d e result ran.busy ran.none_made ran.answer (ran.calls tell);
      start_faults = let e : b.start_faults ≡ a.start_faults = ap (λ (s : Seen). s.start_faults) same in omega (arith, e, ran.start_faults);
      answer = answered S w (fresh w.count slots) ran.front ran.ends result ran.busy ran.none_made ran.answer;
      told = subst (λ (xs : List LogEntry). TellsOf w.folder w.phase w.count xs result) (gained_is b c entries ran.log) told;
    }

-- a phase makes at most four attempts of each task
pub few_made : (S : Rule) → IsRule S → (tells : Type 0) (w : Work) (slots : ℕ) (inputs : ℕ → List ℕ) (old new : Seen) (had has : List Given) (d e : Told) (made : ℕ) → Ran S tells w (fresh w.count slots) inputs old new had has d e (Ok made) → made ≤ 4 * w.count
few_made S rule tells w slots inputs old new had has d e made ran =
    let few = few_attempts S rule (IsBusy S) w.count slots (steps_of ran.front) ran.busy in
    let is : made ≡ made_in ran.front = ran.answer.1 in
    omega (arith, few, is, made_is ran.front)

-- ---- the map stage

-- it was refused before its phase
pub map_log_none : (S : Rule) (tells : Type 0) (folder : Names) (plan : Plan) (slots : ℕ) (old new : Seen) (had has : List Given) (e : Told) (fault : JobFault) (result : Result Mapped JobFault) → result ≡ Err fault → NamesNoTask fault → new ≡ old → (tells → has ≡ had) → MapLog S tells folder plan slots old new had has e result
map_log_none S tells folder plan slots old new had has e fault result is of_commit same given =
    let none : MapLog S tells folder plan slots old new had has e (Err fault) = record { count = length (map_inputs plan); counted = λ told. refl; tasks = tt; phase = log_none S tells (work_of folder Map plan.map_words (length (map_inputs plan))) slots (map_inputs plan) old new had has e fault same given of_commit } in
    subst (λ (r : Result Mapped JobFault). MapLog S tells folder plan slots old new had has e r) (sym is) none

-- it was refused in its phase
pub map_log_failed : (S : Rule) (tells : Type 0) (folder : Names) (plan : Plan) (slots count : ℕ) (old new : Seen) (had has : List Given) (e : Told) (fault : JobFault) (result : Result Mapped JobFault) → result ≡ Err fault → (tells → count ≡ length (map_inputs plan)) → PhaseLog S tells (work_of folder Map plan.map_words count) slots (map_inputs plan) old new had has e (Err fault) → MapLog S tells folder plan slots old new had has e result
map_log_failed S tells folder plan slots count old new had has e fault result is counted phase =
    let failed : MapLog S tells folder plan slots old new had has e (Err fault) = record { count = count; counted = counted; tasks = tt; phase = phase } in
    subst (λ (r : Result Mapped JobFault). MapLog S tells folder plan slots old new had has e r) (sym is) failed

pub of_committer : (fault : CommitFault) → NamesNoTask (job_fault fault)
of_committer CommitDisk = tt
of_committer CommitMemory = tt

pub of_splits : (fault : SplitFault) → NamesNoTask (of_split fault)
of_splits SplitDisk = tt
of_splits SplitMemory = tt

pub of_shuffles : (fault : ShuffleFault) → NamesNoTask (of_shuffle fault)
of_shuffles ShuffleDisk = tt
of_shuffles ShuffleMemory = tt

-- a result of which an error is known
pub err_is : {T E : Type 0} (result : Result T E) (fault : E) → IsErrAnd result (λ e. e ≡ fault) → result ≡ Err fault
err_is (Ok value) fault is = absurd is
err_is (Err e) fault is = ap Err is

-- ---- the reduce stage

-- it was refused, before its phase or in it
pub reduce_log_failed : (S : Rule) (tells : Type 0) (w : Work) (slots : ℕ) (texts : List (List ℕ)) (old new : Seen) (had has : List Given) (e : Told) (fault : JobFault) (result : Result Reduced JobFault) → result ≡ Err fault → PhaseLog S tells w slots texts old new had has e (Err fault) → PhaseLog S tells w slots texts old new had has e (reduced_attempts result)
reduce_log_failed S tells w slots texts old new had has e fault result is phase =
    subst (λ (r : Result Reduced JobFault). PhaseLog S tells w slots texts old new had has e (reduced_attempts r)) (sym is) phase
