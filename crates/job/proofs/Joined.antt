-- The logs of both phases as the log of a job.
use Rattle.std.proofs.Common.{◌≡◌, ℕ, ◌+◌, ◌<◌, ◌≤◌, Bool, true, false, cond, ◌&&◌, ◌==◌, not, inl, inr, List, [], ◌∷◌, ◌++◌, length, get_or, Result, Ok, Err, refl, sym, ◌∙◌, ap, subst, arith, append_assoc}
use Rattle.std.specs.List.{AllByRecursion}
use Rattle.std.proofs.lemmas.List.{append-nil}
use Rattle.std.proofs.lemmas.List.Sums.{sum_by-append, sum_by-cons}
use Rattle.peg_base.specs.Names.{Names, same_path}
use Rattle.peg_base.specs.declared.tasks.Phase.{Phase}
use Rattle.peg_base.specs.declared.tasks.Phase.TheVariants.{Map, Combine, Reduce}
use Rattle.peg_base.specs.declared.tasks.TaskId.{TaskId}
use Rattle.peg_base.specs.declared.tasks.Attempt.{Attempt}
use Rattle.dir_disk.specs.State.{State}
use Rattle.dir_disk.specs.Moments.{Told, clock}
use Rattle.dir_disk.specs.Children.{Given, Seen}
use Rattle.dir_disk.specs.declared.site.LogEntry.{LogEntry}
use Rattle.dir_disk.specs.declared.site.LogEntry.TheVariants.{Started, StartFailed, Ended}
use Rattle.task_core.specs.Board.{Board, Rule, MayStart, fresh, is_success}
use Rattle.committer.specs.Folders.{IsUnmarked}
use Rattle.job.specs.declared.fault.JobFault.{JobFault}
use Rattle.job.specs.declared.fault.JobFault.TheVariants.{TaskFailed, Disk, NoMemory}
use Rattle.job.specs.declared.spec.JobReport.{JobReport}
use Rattle.peg_base.specs.Tasks.{same_phase}
use Rattle.job.specs.Failing.{IsEntryOf, done_of, failed_of, is_done_of, is_failed_of, is_made, is_of, made_in, steps_of}
use Rattle.job.specs.Going.{commit_calls, givens_of}
use Rattle.job.specs.Logged.{AreReduced, GoesOn, ReadTexts, NoneTwice, HasFewFailures, IfGivenUp, IfTaskFailed, IsCauseOf, IsCutShort, IsDone, IsLeftBy, JobAnswers, JobLog, MapLog, NamesNoTask, PhaseLog, StopsIn, StopsJob, TellsOfJob, of_phase}
use Rattle.job.specs.Output.{Plan, map_inputs, reduce_inputs}
use Rattle.job.specs.Ran.{StopsEarly, TellsOf}
use Rattle.job.specs.Work.{TaskFolder, Work, task_id, work_of}
use Rattle.job.proofs.Logs.{read_later}
use Rattle.job.proofs.LogLemmas.{once_tells}

-- ---- entries of the other phase

both_false : (one other : Bool) → (one && false && other) ≡ false
both_false true other = refl
both_false false other = refl

of_other : (id : TaskId) (attempt : Attempt) → same_phase attempt.task.phase id.phase ≡ false → is_of id attempt ≡ false
of_other id attempt other =
    ap (λ (same : Bool). same_path attempt.task.job id.job && same && attempt.task.task == id.task) other ∙ both_false (same_path attempt.task.job id.job) (attempt.task.task == id.task)

not_failed : (w : Work) (id : TaskId) (entry : LogEntry) → same_phase w.phase id.phase ≡ false → IsEntryOf w entry → is_failed_of id entry ≡ false
not_failed w id (Started attempt) other is = refl
not_failed w id (StartFailed attempt) other is =
    of_other id attempt (ap (λ (p : Phase). same_phase p id.phase) is.phase ∙ other)
not_failed w id (Ended attempt status) other is =
    ap (λ (b : Bool). b && not (is_success status)) (of_other id attempt (ap (λ (p : Phase). same_phase p id.phase) is.phase ∙ other))

not_done : (w : Work) (id : TaskId) (entry : LogEntry) → same_phase w.phase id.phase ≡ false → IsEntryOf w entry → is_done_of id entry ≡ false
not_done w id (Started attempt) other is = refl
not_done w id (StartFailed attempt) other is = refl
not_done w id (Ended attempt status) other is =
    ap (λ (b : Bool). b && is_success status) (of_other id attempt (ap (λ (p : Phase). same_phase p id.phase) is.phase ∙ other))

failed_none : (w : Work) (id : TaskId) (entries : List LogEntry) → same_phase w.phase id.phase ≡ false → AllByRecursion (IsEntryOf w) entries → failed_of id entries ≡ 0
failed_none w id [] other of_work = refl
failed_none w id (x ∷ entries) other (first, rest) =
    let one = sum_by-cons (λ (y : LogEntry). cond (is_failed_of id y) 1 0) x entries in
    let number : Bool → ℕ = λ (b : Bool). cond b 1 0 in
    let none : number (is_failed_of id x) ≡ 0 = ap number (not_failed w id x other first) in
    omega (arith, one, none, failed_none w id entries other rest)

done_none : (w : Work) (id : TaskId) (entries : List LogEntry) → same_phase w.phase id.phase ≡ false → AllByRecursion (IsEntryOf w) entries → done_of id entries ≡ 0
done_none w id [] other of_work = refl
done_none w id (x ∷ entries) other (first, rest) =
    let one = sum_by-cons (λ (y : LogEntry). cond (is_done_of id y) 1 0) x entries in
    let number : Bool → ℕ = λ (b : Bool). cond b 1 0 in
    let none : number (is_done_of id x) ≡ 0 = ap number (not_done w id x other first) in
    omega (arith, one, none, done_none w id entries other rest)

failed-append : (id : TaskId) (xs ys : List LogEntry) → failed_of id (xs ++ ys) ≡ failed_of id xs + failed_of id ys
failed-append id xs ys = sum_by-append (λ (y : LogEntry). cond (is_failed_of id y) 1 0) xs ys

done-append : (id : TaskId) (xs ys : List LogEntry) → done_of id (xs ++ ys) ≡ done_of id xs + done_of id ys
done-append id xs ys = sum_by-append (λ (y : LogEntry). cond (is_done_of id y) 1 0) xs ys

made-append : (xs ys : List LogEntry) → made_in (xs ++ ys) ≡ made_in xs + made_in ys
made-append xs ys = sum_by-append (λ (y : LogEntry). cond (is_made y) 1 0) xs ys

-- the entries of a list that is cut are of the same work
of_front : (w : Work) (front ends : List LogEntry) → AllByRecursion (IsEntryOf w) (front ++ ends) → AllByRecursion (IsEntryOf w) front
of_front w [] ends of_work = tt
of_front w (x ∷ front) ends (first, rest) = (first, of_front w front ends rest)

-- ---- what the entries tell by themselves

map_few : (folder : Names) (v : Work) (entries : List LogEntry) → v.phase ≡ Map → AllByRecursion (IsEntryOf v) entries → ((t : ℕ) → failed_of (task_id folder Map t) entries < 4) → HasFewFailures folder entries
map_few folder v entries is_map of_entries few Map t = few t
map_few folder v entries is_map of_entries few Combine t =
    let none = failed_none v (task_id folder Combine t) entries (ap (λ (p : Phase). same_phase p Combine) is_map) of_entries in
    omega (arith, none)
map_few folder v entries is_map of_entries few Reduce t =
    let none = failed_none v (task_id folder Reduce t) entries (ap (λ (p : Phase). same_phase p Reduce) is_map) of_entries in
    omega (arith, none)

map_cut : (folder : Names) (v : Work) (entries : List LogEntry) → v.phase ≡ Map → AllByRecursion (IsEntryOf v) entries → StopsEarly folder Map entries → IsCutShort folder entries
map_cut folder v entries is_map of_work stops =
    let of_entries : AllByRecursion (IsEntryOf v) (stops.front ++ stops.ends) = subst (λ (xs : List LogEntry). AllByRecursion (IsEntryOf v) xs) stops.parts of_work in
    record {
      front = stops.front;
      ends = stops.ends;
      parts = stops.parts;
      few = map_few folder v stops.front is_map (of_front v stops.front stops.ends of_entries) stops.few;
      none_made = stops.none_made;
    }

pub maps_tell : (folder : Names) (v : Work) (count : ℕ) (entries : List LogEntry) (fault : JobFault) → v.phase ≡ Map → AllByRecursion (IsEntryOf v) entries → TellsOf folder Map count entries (Err fault) → TellsOfJob folder entries (Err fault)
maps_tell folder v count entries (TaskFailed id) is_map of_work (named, few, four, least) =
    let phase : id.phase ≡ Map = ap (λ (i : TaskId). i.phase) named in
    (named ∙ ap (λ (p : Phase). task_id folder p id.task) (sym phase), four, λ t before. subst (λ (p : Phase). failed_of (task_id folder p t) entries < 4) (sym phase) (least t before))
maps_tell folder v count entries Disk is_map of_work told = map_cut folder v entries is_map of_work told
maps_tell folder v count entries NoMemory is_map of_work told = map_cut folder v entries is_map of_work told

module _ (folder : Names) (v w : Work) (maps : List LogEntry) (is_map : v.phase ≡ Map) (is_reduce : w.phase ≡ Reduce) (of_maps : AllByRecursion (IsEntryOf v) maps) where
  reduce_failed : (id : TaskId) (reduces : List LogEntry) → id.phase ≡ Reduce → failed_of id (maps ++ reduces) ≡ failed_of id reduces
  reduce_failed id reduces phase =
      let none = failed_none v id maps (ap (λ (p : Phase). same_phase p id.phase) is_map ∙ ap (same_phase Map) phase) of_maps in
      omega (arith, failed-append id maps reduces, none)

  map_failed : (id : TaskId) (reduces : List LogEntry) → AllByRecursion (IsEntryOf w) reduces → id.phase ≡ Map → failed_of id (maps ++ reduces) ≡ failed_of id maps
  map_failed id reduces of_reduces phase =
      let none = failed_none w id reduces (ap (λ (p : Phase). same_phase p id.phase) is_reduce ∙ ap (same_phase Reduce) phase) of_reduces in
      omega (arith, failed-append id maps reduces, none)

  few_failures : (reduces : List LogEntry) → AllByRecursion (IsEntryOf w) reduces → ((t : ℕ) → failed_of (task_id folder Map t) maps < 4) → ((t : ℕ) → failed_of (task_id folder Reduce t) reduces < 4) → HasFewFailures folder (maps ++ reduces)
  few_failures reduces of_reduces few_maps few_reduces Map t =
      let first = map_failed (task_id folder Map t) reduces of_reduces refl in
      let few = few_maps t in
      omega (arith, first, few)
  few_failures reduces of_reduces few_maps few_reduces Combine t =
      let id = task_id folder Combine t in
      let first = failed_none v id maps (ap (λ (p : Phase). same_phase p Combine) is_map) of_maps in
      let second = failed_none w id reduces (ap (λ (p : Phase). same_phase p Combine) is_reduce) of_reduces in
      omega (arith, failed-append id maps reduces, first, second)
  few_failures reduces of_reduces few_maps few_reduces Reduce t =
      let second = reduce_failed (task_id folder Reduce t) reduces refl in
      let few = few_reduces t in
      omega (arith, second, few)

  reduce_cut : (reduces : List LogEntry) → AllByRecursion (IsEntryOf w) reduces → ((t : ℕ) → failed_of (task_id folder Map t) maps < 4) → StopsEarly folder Reduce reduces → IsCutShort folder (maps ++ reduces)
  reduce_cut reduces of_reduces few_maps stops =
      let of_entries : AllByRecursion (IsEntryOf w) (stops.front ++ stops.ends) = subst (λ (xs : List LogEntry). AllByRecursion (IsEntryOf w) xs) stops.parts of_reduces in
      record {
        front = maps ++ stops.front;
        ends = stops.ends;
        parts = ap (λ (xs : List LogEntry). maps ++ xs) stops.parts ∙ sym (append_assoc maps stops.front stops.ends);
        few = few_failures stops.front (of_front w stops.front stops.ends of_entries) few_maps stops.few;
        none_made = stops.none_made;
      }

  pub reduces_tell : (reduces : List LogEntry) (n m count : ℕ) (fault : JobFault) → AllByRecursion (IsEntryOf w) reduces → TellsOf folder Map n maps (Ok m) → TellsOf folder Reduce count reduces (Err fault) → TellsOfJob folder (maps ++ reduces) (Err fault)
  reduces_tell reduces n m count (TaskFailed id) of_reduces alive (named, few, four, least) =
      let phase : id.phase ≡ Reduce = ap (λ (i : TaskId). i.phase) named in (
        named ∙ ap (λ (p : Phase). task_id folder p id.task) (sym phase),
        reduce_failed id reduces phase ∙ four,
        λ t before. let same = reduce_failed (task_id folder Reduce t) reduces refl in let few : failed_of (task_id folder Reduce t) reduces < 4 = least t before in subst (λ (p : Phase). failed_of (task_id folder p t) (maps ++ reduces) < 4) (sym phase) (omega (arith, same, few)),
      )
  reduces_tell reduces n m count Disk of_reduces (made, alive, done) told = reduce_cut reduces of_reduces alive told
  reduces_tell reduces n m count NoMemory of_reduces (made, alive, done) told = reduce_cut reduces of_reduces alive told

  pub both_tell : (reduces : List LogEntry) (n k m r : ℕ) (report : JobReport) → AllByRecursion (IsEntryOf w) reduces → TellsOf folder Map n maps (Ok m) → TellsOf folder Reduce k reduces (Ok r) → report.attempts ≡ m + r → TellsOfJob folder (maps ++ reduces) (Ok report)
  both_tell reduces n k m r report of_reduces (made_maps, alive_maps, done_maps) (made_reduces, alive_reduces, done_reduces) is =
      (omega (arith, is, made_maps, made_reduces, made-append maps reduces), few_failures reduces of_reduces alive_maps alive_reduces)

  -- the commit was refused
  pub commit_tells : (reduces : List LogEntry) (n k m r : ℕ) (fault : JobFault) → NamesNoTask fault → AllByRecursion (IsEntryOf w) reduces → TellsOf folder Map n maps (Ok m) → TellsOf folder Reduce k reduces (Ok r) → TellsOfJob folder (maps ++ reduces) (Err fault)
  commit_tells reduces n k m r (TaskFailed id) never of_reduces first second = absurd never
  commit_tells reduces n k m r Disk none of_reduces (made_maps, alive_maps, done_maps) (made_reduces, alive_reduces, done_reduces) =
      record { front = maps ++ reduces; ends = []; parts = sym (append-nil (maps ++ reduces)); few = few_failures reduces of_reduces alive_maps alive_reduces; none_made = refl }
  commit_tells reduces n k m r NoMemory none of_reduces (made_maps, alive_maps, done_maps) (made_reduces, alive_reduces, done_reduces) =
      record { front = maps ++ reduces; ends = []; parts = sym (append-nil (maps ++ reduces)); few = few_failures reduces of_reduces alive_maps alive_reduces; none_made = refl }

  pub all_reduced : (reduces : List LogEntry) (k r : ℕ) → TellsOf folder Reduce k reduces (Ok r) → AreReduced folder k (maps ++ reduces)
  all_reduced reduces k r (made, alive, done) t few =
      let none = done_none v (task_id folder Reduce t) maps (ap (λ (p : Phase). same_phase p Reduce) is_map) of_maps in
      omega (arith, done-append (task_id folder Reduce t) maps reduces, none, done t few)

-- ---- the folder that is left

pub left_unmarked : (folder : Names) (reducers : ℕ) (entries : List LogEntry) (s : State) (fault : JobFault) → IsUnmarked folder s → IsLeftBy folder reducers entries s (Err fault)
left_unmarked folder reducers entries s (TaskFailed id) unmarked = unmarked
left_unmarked folder reducers entries s Disk unmarked = inl unmarked
left_unmarked folder reducers entries s NoMemory unmarked = inl unmarked

pub left_reduced : (folder : Names) (reducers : ℕ) (entries : List LogEntry) (s : State) (fault : JobFault) → NamesNoTask fault → AreReduced folder reducers entries → IsLeftBy folder reducers entries s (Err fault)
left_reduced folder reducers entries s (TaskFailed id) never reduced = absurd never
left_reduced folder reducers entries s Disk none reduced = inr reduced
left_reduced folder reducers entries s NoMemory none reduced = inr reduced

-- ---- the log of a job

pub phase_log_texts : (S : Rule) (tells : Type 0) (w : Work) (slots : ℕ) (texts others : List (List ℕ)) (old new : Seen) (had has : List Given) (e : Told) (result : Result ℕ JobFault) → (tells → texts ≡ others) → PhaseLog S tells w slots texts old new had has e result → PhaseLog S tells w slots others old new had has e result
phase_log_texts S tells w slots texts others old new had has e result same phase =
    record {
      entries = phase.entries;
      log = phase.log;
      of_work = phase.of_work;
      run = phase.run;
      began = phase.began;
      givens = λ tell. phase.givens tell ∙ ap (λ (all : List (List ℕ)). had ++ givens_of w (λ t. get_or all t []) phase.began (fresh w.count slots) (steps_of phase.entries)) (same tell);
      read = λ tell. subst (λ (all : List (List ℕ)). ReadTexts w all phase.began phase.entries e) (same tell) (phase.read tell);
      calls = phase.calls;
      stopped = phase.stopped;
      start_faults = phase.start_faults;
      answer = phase.answer;
      told = phase.told;
    }

pub joined_log : (a b c h : Seen) (maps reduces : List LogEntry) → b.log ≡ a.log ++ maps → c.log ≡ b.log ++ reduces → h ≡ c → h.log ≡ a.log ++ (maps ++ reduces)
joined_log a b c h maps reduces first second same =
    ap (λ (s : Seen). s.log) same ∙ second ∙ ap (λ (xs : List LogEntry). xs ++ reduces) first ∙ append_assoc a.log maps reduces

-- the dead task is one of this phase
pub calls_of_map : (S : Rule) (w : Work) (m : Board) (entries : List LogEntry) (fault : JobFault) (calls by_map by_reduce : ℕ) → w.phase ≡ Map → IsCauseOf S w m entries fault → (let result : Result ℕ JobFault = Err fault in IfTaskFailed result (λ id. calls ≡ by_map)) → (let result : Result JobReport JobFault = Err fault in IfTaskFailed result (λ id. calls ≡ of_phase id.phase by_map by_reduce))
calls_of_map S w m entries (TaskFailed id) calls by_map by_reduce is_map doomed are =
    let phase : id.phase ≡ Map = ap (λ (i : TaskId). i.phase) doomed.named ∙ is_map in
    are ∙ ap (λ (p : Phase). of_phase p by_map by_reduce) (sym phase)
calls_of_map S w m entries Disk calls by_map by_reduce is_map given_up are = tt
calls_of_map S w m entries NoMemory calls by_map by_reduce is_map given_up are = tt

pub calls_of_reduce : (S : Rule) (w : Work) (m : Board) (entries : List LogEntry) (fault : JobFault) (calls by_map by_reduce : ℕ) → w.phase ≡ Reduce → IsCauseOf S w m entries fault → (let result : Result ℕ JobFault = Err fault in IfTaskFailed result (λ id. calls ≡ by_reduce)) → (let result : Result JobReport JobFault = Err fault in IfTaskFailed result (λ id. calls ≡ of_phase id.phase by_map by_reduce))
calls_of_reduce S w m entries (TaskFailed id) calls by_map by_reduce is_reduce doomed are =
    let phase : id.phase ≡ Reduce = ap (λ (i : TaskId). i.phase) doomed.named ∙ is_reduce in
    are ∙ ap (λ (p : Phase). of_phase p by_map by_reduce) (sym phase)
calls_of_reduce S w m entries Disk calls by_map by_reduce is_reduce given_up are = tt
calls_of_reduce S w m entries NoMemory calls by_map by_reduce is_reduce given_up are = tt

-- it was given up in its map stage, in its reduce stage, or at its commit
stops_in_maps : (S : Rule) (m n : Board) (maps : List LogEntry) (map_began reduce_began calls : ℕ) (fault : JobFault) → (let result : Result ℕ JobFault = Err fault in IfGivenUp result (λ exact. StopsIn S exact TaskFolder m maps map_began calls)) → (let result : Result JobReport JobFault = Err fault in IfGivenUp result (λ exact. StopsJob S exact m n maps [] map_began reduce_began calls))
stops_in_maps S m n maps map_began reduce_began calls (TaskFailed id) stops = tt
stops_in_maps S m n maps map_began reduce_began calls Disk stops = inl (refl, stops)
stops_in_maps S m n maps map_began reduce_began calls NoMemory stops = inl (refl, stops)

pub stops_in_reduces : (S : Rule) (m n : Board) (maps reduces : List LogEntry) (map_began reduce_began calls : ℕ) (fault : JobFault) → IsDone S m maps → (let result : Result ℕ JobFault = Err fault in IfGivenUp result (λ exact. StopsIn S exact TaskFolder n reduces reduce_began calls)) → (let result : Result JobReport JobFault = Err fault in IfGivenUp result (λ exact. StopsJob S exact m n maps reduces map_began reduce_began calls))
stops_in_reduces S m n maps reduces map_began reduce_began calls (TaskFailed id) done stops = tt
stops_in_reduces S m n maps reduces map_began reduce_began calls Disk done stops =
    inr (inl (done, stops))
stops_in_reduces S m n maps reduces map_began reduce_began calls NoMemory done stops =
    inr (inl (done, stops))

pub stops_at_commit : (S : Rule) (m n : Board) (maps reduces : List LogEntry) (map_began reduce_began calls : ℕ) (fault : JobFault) → IsDone S m maps → IsDone S n reduces → (let result : Result JobReport JobFault = Err fault in IfGivenUp result (λ exact. StopsJob S exact m n maps reduces map_began reduce_began calls))
stops_at_commit S m n maps reduces map_began reduce_began calls (TaskFailed id) done all = tt
stops_at_commit S m n maps reduces map_began reduce_began calls Disk done all =
    inr (inr (done, all))
stops_at_commit S m n maps reduces map_began reduce_began calls NoMemory done all =
    inr (inr (done, all))

pub job_log : (S : Rule) (tells : Type 0) (gives : List (List ℕ) → List ℕ → List ℕ) (folder : Names) (plan : Plan) (slots count : ℕ) (a b c h : Seen) (had has have given : List Given) (mid late last : Told) (m r : Result ℕ JobFault) (result : Result JobReport JobFault) → (tells → count ≡ length (map_inputs plan)) → (tells → GoesOn mid last) → (tells → GoesOn late last) → (maps : PhaseLog S tells (work_of folder Map plan.map_words count) slots (map_inputs plan) a b had has mid m) → (reduces : PhaseLog S tells (work_of folder Reduce plan.reduce_words plan.reducers) slots (reduce_inputs gives plan) b c has have late r) → h ≡ c → (tells → given ≡ have) → JobAnswers S (work_of folder Map plan.map_words count) (work_of folder Reduce plan.reduce_words plan.reducers) slots maps.entries reduces.entries result → (tells → IfTaskFailed result (λ id. clock last ≡ of_phase id.phase (maps.began + commit_calls TaskFolder (fresh count slots) (steps_of maps.entries)) (reduces.began + commit_calls TaskFolder (fresh plan.reducers slots) (steps_of reduces.entries)))) → (tells → IfGivenUp result (λ exact. StopsJob S exact (fresh count slots) (fresh plan.reducers slots) maps.entries reduces.entries maps.began reduces.began (clock last))) → JobLog S tells gives folder plan slots a h had given last result
job_log S tells gives folder plan slots count a b c h had has have given mid late last m r result counted maps_on reduces_on maps reduces same same_given answer calls stopped =
    let v = work_of folder Map plan.map_words count in
    let w = work_of folder Reduce plan.reduce_words plan.reducers in
    let first = givens_of v (λ t. get_or (map_inputs plan) t []) maps.began (fresh count slots) (steps_of maps.entries) in
    let second = givens_of w (λ t. get_or (reduce_inputs gives plan) t []) reduces.began (fresh plan.reducers slots) (steps_of reduces.entries) in
    record {
      count = count;
      counted = counted;
      maps = maps.entries;
      reduces = reduces.entries;
      log = joined_log a b c h maps.entries reduces.entries maps.log reduces.log same;
      of_maps = maps.of_work;
      of_reduces = reduces.of_work;
      map_run = maps.run;
      reduce_run = reduces.run;
      map_began = maps.began;
      reduce_began = reduces.began;
      givens = λ tell. same_given tell ∙ reduces.givens tell ∙ ap (λ (gs : List Given). gs ++ second) (maps.givens tell) ∙ append_assoc had first second;
      map_read = λ tell. read_later v (map_inputs plan) maps.began maps.entries mid last (maps_on tell) (maps.read tell);
      reduce_read = λ tell. read_later w (reduce_inputs gives plan) reduces.began reduces.entries late last (reduces_on tell) (reduces.read tell);
      calls = calls;
      stopped = stopped;
      start_faults = let e : h.start_faults ≡ c.start_faults = ap (λ (s : Seen). s.start_faults) same in omega (arith, e, maps.start_faults, reduces.start_faults);
      answer = answer;
    }

-- the job ended in its map stage
pub job_log_maps : (S : Rule) (tells : Type 0) (gives : List (List ℕ) → List ℕ → List ℕ) (folder : Names) (plan : Plan) (slots : ℕ) (a b : Seen) (had has : List Given) (last : Told) (fault : JobFault) → MapLog S tells folder plan slots a b had has last (Err fault) → JobLog S tells gives folder plan slots a b had has last (Err fault)
job_log_maps S tells gives folder plan slots a b had has last fault log =
    let maps = log.phase in
    let v = work_of folder Map plan.map_words log.count in
    let machine = fresh log.count slots in
    let first = givens_of v (λ t. get_or (map_inputs plan) t []) maps.began machine (steps_of maps.entries) in
    record {
      count = log.count;
      counted = log.counted;
      maps = maps.entries;
      reduces = [];
      log = maps.log ∙ ap (λ (xs : List LogEntry). a.log ++ xs) (sym (append-nil maps.entries));
      of_maps = maps.of_work;
      of_reduces = tt;
      map_run = maps.run;
      reduce_run = tt;
      map_began = maps.began;
      reduce_began = 0;
      givens = λ tell. maps.givens tell ∙ ap (λ (gs : List Given). had ++ gs) (sym (append-nil first));
      map_read = maps.read;
      reduce_read = λ _. inl refl;
      calls = λ tell. calls_of_map S v machine maps.entries fault (clock last) (maps.began + commit_calls TaskFolder machine (steps_of maps.entries)) (0 + commit_calls TaskFolder (fresh plan.reducers slots) []) refl maps.answer (maps.calls tell);
      stopped = λ tell. stops_in_maps S machine (fresh plan.reducers slots) maps.entries maps.began 0 (clock last) fault (maps.stopped tell);
      start_faults = maps.start_faults;
      answer = inl (maps.answer, refl);
    }

-- where at most one attempt of a task runs at once no task succeeds twice
pub none_twice : (tells : Type 0) (gives : List (List ℕ) → List ℕ → List ℕ) (folder : Names) (plan : Plan) (slots : ℕ) (old new : Seen) (had has : List Given) (e : Told) (result : Result JobReport JobFault) → (log : JobLog MayStart tells gives folder plan slots old new had has e result) → NoneTwice folder (log.maps ++ log.reduces)
none_twice tells gives folder plan slots old new had has e result log phase t = of phase
  where
    v : Work
    v = work_of folder Map plan.map_words log.count

    w : Work
    w = work_of folder Reduce plan.reduce_words plan.reducers

    both : (id : TaskId) → done_of id (log.maps ++ log.reduces) ≡ done_of id log.maps + done_of id log.reduces
    both id = done-append id log.maps log.reduces

    of : (phase : Phase) → done_of (task_id folder phase t) (log.maps ++ log.reduces) ≤ 1
    of Map =
        let id = task_id folder Map t in
        omega (arith, both id, done_none w id log.reduces refl log.of_reduces, once_tells v slots log.maps t log.of_maps log.map_run)
    of Combine =
        let id = task_id folder Combine t in
        omega (arith, both id, done_none v id log.maps refl log.of_maps, done_none w id log.reduces refl log.of_reduces)
    of Reduce =
        let id = task_id folder Reduce t in
        omega (arith, both id, done_none v id log.maps refl log.of_maps, once_tells w slots log.reduces t log.of_reduces log.reduce_run)
