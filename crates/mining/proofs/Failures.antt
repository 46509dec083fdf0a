-- Jobs with other folders have no failed attempt of a task.
use Rattle.std.proofs.Common.{◌≡◌, ℕ, ◌+◌, ◌<◌, ◌≤◌, Bool, true, false, cond, ◌&&◌, ◌==◌, not, inl, inr, ◌⊎◌, ⊎_elim, List, [], ◌∷◌, ◌++◌, refl, sym, ◌∙◌, ap, subst, append_assoc, arith}
use Rattle.std.specs.Prelude.{Result, Ok, Err, IfErr, IsErrAnd}
use Rattle.std.specs.List.{AllByRecursion}
use Rattle.std.proofs.lemmas.Bool.{cases_Bool, false≢true}
use Rattle.std.proofs.lemmas.List.{append-nil}
use Rattle.std.proofs.lemmas.List.Sums.{sum_by-append, sum_by-cons}
use Rattle.peg_base.specs.Names.{Names, same_path}
use Rattle.peg_base.specs.Tasks.{same_phase}
use Rattle.peg_base.specs.declared.tasks.Phase.TheVariants.{Map, Reduce}
use Rattle.peg_base.specs.declared.tasks.TaskId.{TaskId}
use Rattle.peg_base.specs.declared.tasks.Attempt.{Attempt}
use Rattle.peg_base.proofs.Under.{same_path-true}
use Rattle.dir_disk.specs.Moments.{Told}
use Rattle.dir_disk.specs.Children.{Given, Seen}
use Rattle.dir_disk.specs.declared.site.LogEntry.{LogEntry}
use Rattle.dir_disk.specs.declared.site.LogEntry.TheVariants.{Started, StartFailed, Ended}
use Rattle.task_core.specs.Board.{Rule, is_success}
use Rattle.conf.specs.declared.reading.Conf.{Conf as Settings}
use Rattle.job.specs.declared.fault.JobFault.{JobFault}
use Rattle.job.specs.declared.fault.JobFault.TheVariants as Job
use Rattle.job.specs.declared.spec.JobReport.{JobReport}
use Rattle.job.specs.declared.spec.JobSpec.{JobSpec}
use Rattle.job.specs.Failing.{IsEntryOf, failed_of, gained, is_failed_of, is_of, tried}
use Rattle.job.specs.Logged.{HasFewFailures, IsCutShort, JobLog, TellsOfJob}
use Rattle.job.specs.Output.{Plan}
use Rattle.job.specs.Work.{Work, task_id, work_of}
use Rattle.job.specs.Stretches.{AllRun, AnyRun, ArePartsOf, Part}
use Rattle.job.proofs.Listing.{each_append, each_map}
use Rattle.job.proofs.Logs.{gained_is}
use Rattle.mining.specs.declared.place.Place.{Place}
use Rattle.mining.specs.Places.{folder_of, IsInTable, rank_of}
use Rattle.mining.specs.declared.stop.Stop.{Stop}
use Rattle.mining.specs.declared.stop.Stop.TheVariants.{TaskFailed, BadStore, BadEdge, BigNode, TooLarge, OtherJob, OtherEdges, Disk, Read, Say, NoMemory}
use Rattle.committer.specs.declared.fault.CommitFault.{CommitFault}
use Rattle.committer.specs.declared.fault.CommitFault.TheVariants as Commit
use Rattle.mining.specs.Stops.{of_commit, of_job}
use Rattle.mining.specs.Failures.{IsCutOff, IsFirstFailed, IsOfNoTask, NoneFailed, TellsOfAnswer, TellsOfStop}
use Rattle.mining.specs.Jobs.{AreJobsOf, FinishesWithin, GainsWithin, IsOfForm, Job, Rise, rule_of}
use Rattle.mining.proofs.Names.{same_name}
use Rattle.mining.proofs.JobsAfter.{rise_less}

-- ---- the folders that entries name

-- a folder of the table with such a rank
pub record IsWithin (low high : ℕ) (folder : Names) : Type 0 where
  pub place : Place
  pub is_there : IsInTable place
  pub from : low ≤ rank_of place
  pub to : rank_of place < high
  pub is : folder ≡ folder_of place

abbrev pub NamesWithin : ℕ → ℕ → LogEntry → Type 0
NamesWithin low high entry = IsWithin low high (tried entry).task.job

wider : (low mid high : ℕ) (folder : Names) → low ≤ mid → IsWithin mid high folder → IsWithin low high folder
wider low mid high folder less some =
    record { place = some.place; is_there = some.is_there; from = omega (arith, less, some.from); to = some.to; is = some.is }

parts_within : (tells : Type 0) (gives : List (List ℕ) → List ℕ → List ℕ) (told : Told) (conf : Settings) (low : ℕ) (jobs : List Job) (high : ℕ) (specs : List JobSpec) (parts : List Part) → Rise low jobs high → AllByRecursion (IsOfForm conf.form) jobs → AreJobsOf conf jobs specs → ArePartsOf tells gives told specs parts → AllByRecursion (λ p. IsWithin low high p.work.folder) parts
parts_within tells gives told conf low [] high [] parts rise each are none =
    subst (λ (l : List Part). AllByRecursion (λ p. IsWithin low high p.work.folder) l) (sym none) tt
parts_within tells gives told conf low [] high (spec ∷ specs) parts rise each are start = absurd are
parts_within tells gives told conf low (job ∷ jobs) high [] parts rise each are start = absurd are
parts_within tells gives told conf low (job ∷ jobs) high (spec ∷ specs) parts rise each are (start, others) =
    let less = rise_less (rank_of job.place + 1) jobs high rise.1 in
    let here : IsWithin low high spec.folder = record { place = job.place; is_there = each.0.is_there; from = rise.0; to = omega (arith, less); is = are.0.folder } in
    let rest = parts_within tells gives told conf (rank_of job.place + 1) jobs high specs start.rest rise.1 each.1 are.1 others in
    subst (λ (l : List Part). AllByRecursion (λ p. IsWithin low high p.work.folder) l) (sym start.cut) (here, (here, each_map (λ (p : Part). IsWithin (rank_of job.place + 1) high p.work.folder) (λ (p : Part). IsWithin low high p.work.folder) start.rest (λ p some. wider low (rank_of job.place + 1) high p.work.folder (let from = rise.0 in omega (arith, from)) some) rest))

of_part : (low high : ℕ) (w : Work) (entries : List LogEntry) → IsWithin low high w.folder → AllByRecursion (IsEntryOf w) entries → AllByRecursion (NamesWithin low high) entries
of_part low high w entries here each =
    each_map (IsEntryOf w) (NamesWithin low high) entries (λ entry is. subst (IsWithin low high) (sym is.job) here) each

any_within : (S : Rule) (tells : Type 0) (told : Told) (low high : ℕ) (parts : List Part) (entries : List LogEntry) (given : List Given) → AnyRun S tells told parts entries given → AllByRecursion (λ p. IsWithin low high p.work.folder) parts → AllByRecursion (NamesWithin low high) entries
any_within S tells told low high [] entries given none each =
    subst (AllByRecursion (NamesWithin low high)) (sym none.0) tt
any_within S tells told low high (p ∷ ps) entries given (inl stretch) each =
    of_part low high p.work entries each.0 stretch.of_work
any_within S tells told low high (p ∷ ps) entries given (inr (cut, rest)) each =
    subst (AllByRecursion (NamesWithin low high)) (sym cut.parts) (each_append (NamesWithin low high) cut.first cut.rest (of_part low high p.work cut.first each.0 cut.stretch.of_work) (any_within S tells told low high ps cut.rest cut.more rest each.1))

all_within : (S : Rule) (tells : Type 0) (told : Told) (low high : ℕ) (parts : List Part) (entries : List LogEntry) (given : List Given) → AllRun S tells told parts entries given → AllByRecursion (λ p. IsWithin low high p.work.folder) parts → AllByRecursion (NamesWithin low high) entries
all_within S tells told low high [] entries given none each =
    subst (AllByRecursion (NamesWithin low high)) (sym none.0) tt
all_within S tells told low high (p ∷ ps) entries given (cut, rest) each =
    subst (AllByRecursion (NamesWithin low high)) (sym cut.parts) (each_append (NamesWithin low high) cut.first cut.rest (of_part low high p.work cut.first each.0 cut.stretch.of_work) (all_within S tells told low high ps cut.rest cut.more rest each.1))

-- ---- failed attempts

and_first : (a b c : Bool) → (a && b && c) ≡ true → a ≡ true
and_first true b c is = refl
and_first false b c is = is

and_left : (a b : Bool) → (a && b) ≡ true → a ≡ true
and_left true b is = refl
and_left false b is = is

of_same : (id : TaskId) (attempt : Attempt) → is_of id attempt ≡ true → attempt.task.job ≡ id.job
of_same id attempt is =
    same_path-true attempt.task.job id.job (and_first (same_path attempt.task.job id.job) (same_phase attempt.task.phase id.phase) (attempt.task.task == id.task) is)

failed_names : (id : TaskId) (entry : LogEntry) → is_failed_of id entry ≡ true → (tried entry).task.job ≡ id.job
failed_names id (Started attempt) is = absurd (false≢true is)
failed_names id (StartFailed attempt) is = of_same id attempt is
failed_names id (Ended attempt status) is =
    of_same id attempt (and_left (is_of id attempt) (not (is_success status)) is)

-- each entry has P of the folder that it names: no attempt of a task failed, or its job has P
found : (P : Names → Type 0) (id : TaskId) (entries : List LogEntry) → AllByRecursion (λ entry. P (tried entry).task.job) entries → (failed_of id entries ≡ 0) ⊎ P id.job
found P id [] each = inl refl
found P id (x ∷ entries) each =
    ⊎_elim (λ is. inr (subst P (failed_names id x is) each.0)) (λ is. ⊎_elim (λ none. inl (let one = sum_by-cons (λ (y : LogEntry). cond (is_failed_of id y) 1 0) x entries in let number : Bool → ℕ = λ (b : Bool). cond b 1 0 in let here : number (is_failed_of id x) ≡ 0 = ap number is in omega (arith, one, here, none))) (λ there. inr there) (found P id entries each.1)) (cases_Bool (is_failed_of id x))

failed_sum : (id : TaskId) (xs ys : List LogEntry) → failed_of id (xs ++ ys) ≡ failed_of id xs + failed_of id ys
failed_sum id xs ys = sum_by-append (λ (y : LogEntry). cond (is_failed_of id y) 1 0) xs ys

abbrev head_of : Names → List ℕ
head_of [] = []
head_of (name ∷ names) = name

apart : (low mid to high : ℕ) (folder : Names) → mid ≤ to → IsWithin low mid folder → IsWithin to high folder → ⊥
apart low mid to high folder less one other =
    let ranks : rank_of one.place ≡ rank_of other.place = ap rank_of (same_name one.place other.place one.is_there other.is_there (ap head_of (sym one.is ∙ other.is))) in
    omega (arith, ranks, less, one.to, other.from)

each_front : {X : Type 0} (P : X → Type 0) (xs ys : List X) → AllByRecursion P (xs ++ ys) → AllByRecursion P xs
each_front P [] ys each = tt
each_front P (x ∷ xs) ys each = (each.0, each_front P xs ys each.1)

module _ (low mid to high : ℕ) (less : mid ≤ to) (xs : List LogEntry) (first : AllByRecursion (NamesWithin low mid) xs) where
  one_or_other : (id : TaskId) (ys : List LogEntry) → AllByRecursion (NamesWithin to high) ys → (failed_of id xs ≡ 0) ⊎ (failed_of id ys ≡ 0)
  one_or_other id ys next =
      ⊎_elim (λ none. inl none) (λ here. ⊎_elim (λ none. inr none) (λ there. absurd (apart low mid to high id.job less here there)) (found (IsWithin to high) id ys next)) (found (IsWithin low mid) id xs first)

  few_sum : (id : TaskId) (ys : List LogEntry) → AllByRecursion (NamesWithin to high) ys → failed_of id xs < 4 → failed_of id ys < 4 → failed_of id (xs ++ ys) < 4
  few_sum id ys next few few_then =
      let sum = failed_sum id xs ys in
      ⊎_elim (λ none. omega (arith, sum, none, few_then)) (λ none. omega (arith, sum, none, few)) (one_or_other id ys next)

  first_sum : (none_failed : NoneFailed xs) (ys : List LogEntry) (id : TaskId) → AllByRecursion (NamesWithin to high) ys → IsFirstFailed ys id → IsFirstFailed (xs ++ ys) id
  first_sum none_failed ys id next failed =
      let sum = failed_sum id xs ys in
      let four = failed.0 in (
        ⊎_elim (λ none. omega (arith, sum, none, four)) (λ none. absurd (omega (arith, none, four))) (one_or_other id ys next),
        λ t below. few_sum (task_id id.job id.phase t) ys next (none_failed (task_id id.job id.phase t)) (failed.1 t below),
      )

  cut_sum : NoneFailed xs → (ys : List LogEntry) → AllByRecursion (NamesWithin to high) ys → IsCutOff ys → IsCutOff (xs ++ ys)
  cut_sum none_failed ys next cut =
      record {
        front = xs ++ cut.front;
        ends = cut.ends;
        parts = ap (λ (l : List LogEntry). xs ++ l) cut.parts ∙ sym (append_assoc xs cut.front cut.ends);
        none_failed = λ id. few_sum id cut.front (each_front (NamesWithin to high) cut.front cut.ends (subst (AllByRecursion (NamesWithin to high)) cut.parts next)) (none_failed id) (cut.none_failed id);
        none_made = cut.none_made;
      }

  stop_sum : NoneFailed xs → (ys : List LogEntry) → AllByRecursion (NamesWithin to high) ys → (stop : Stop) → TellsOfStop ys stop → TellsOfStop (xs ++ ys) stop
  stop_sum none ys next (TaskFailed id) told = first_sum none ys id next told
  stop_sum none ys next (BadStore path line) told = λ id. few_sum id ys next (none id) (told id)
  stop_sum none ys next (BadEdge line) told = λ id. few_sum id ys next (none id) (told id)
  stop_sum none ys next (BigNode line node) told = λ id. few_sum id ys next (none id) (told id)
  stop_sum none ys next TooLarge told = λ id. few_sum id ys next (none id) (told id)
  stop_sum none ys next (OtherJob line) told = λ id. few_sum id ys next (none id) (told id)
  stop_sum none ys next (OtherEdges line) told = λ id. few_sum id ys next (none id) (told id)
  stop_sum none ys next Disk told = cut_sum none ys next told
  stop_sum none ys next Read told = λ id. few_sum id ys next (none id) (told id)
  stop_sum none ys next Say told = λ id. few_sum id ys next (none id) (told id)
  stop_sum none ys next NoMemory told = cut_sum none ys next told

  answer_sum : {T : Type 0} → NoneFailed xs → (ys : List LogEntry) → AllByRecursion (NamesWithin to high) ys → (result : Result T Stop) → TellsOfAnswer ys result → TellsOfAnswer (xs ++ ys) result
  answer_sum none ys next (Ok value) told = λ id. few_sum id ys next (none id) (told id)
  answer_sum none ys next (Err stop) told = stop_sum none ys next stop told

-- ---- where no task failed

pub cut_nothing : (entries : List LogEntry) → NoneFailed entries → IsCutOff entries
cut_nothing entries none =
    record { front = entries; ends = []; parts = sym (append-nil entries); none_failed = none; none_made = refl }

pub stop_of_none : (entries : List LogEntry) (stop : Stop) → IsOfNoTask stop → NoneFailed entries → TellsOfStop entries stop
stop_of_none entries (TaskFailed task) names_none none = absurd names_none
stop_of_none entries (BadStore path line) names_none none = none
stop_of_none entries (BadEdge line) names_none none = none
stop_of_none entries (BigNode line id) names_none none = none
stop_of_none entries TooLarge names_none none = none
stop_of_none entries (OtherJob line) names_none none = none
stop_of_none entries (OtherEdges line) names_none none = none
stop_of_none entries Disk names_none none = cut_nothing entries none
stop_of_none entries Read names_none none = none
stop_of_none entries Say names_none none = none
stop_of_none entries NoMemory names_none none = cut_nothing entries none

answer_of_none : {T : Type 0} (entries : List LogEntry) (result : Result T Stop) → IfErr result IsOfNoTask → NoneFailed entries → TellsOfAnswer entries result
answer_of_none entries (Ok value) names_none none = none
answer_of_none entries (Err stop) names_none none = stop_of_none entries stop names_none none

-- ---- from call to call

same_gained : (old new : Seen) → new ≡ old → gained old.log new.log ≡ []
same_gained old new same =
    gained_is old new [] (ap (λ (s : Seen). s.log) same ∙ sym (append-nil old.log))

none_of_nothing : NoneFailed []
none_of_nothing id = omega arith

-- no child was started
pub quiet_done : (old new : Seen) → new ≡ old → NoneFailed (gained old.log new.log)
quiet_done old new same =
    subst NoneFailed (sym (same_gained old new same)) none_of_nothing

pub quiet_stop : (old new : Seen) (stop : Stop) → new ≡ old → IsOfNoTask stop → TellsOfStop (gained old.log new.log) stop
quiet_stop old new stop same names_none =
    stop_of_none (gained old.log new.log) stop names_none (quiet_done old new same)

-- before, no child was started
pub begun_done : (old between new : Seen) → between ≡ old → NoneFailed (gained between.log new.log) → NoneFailed (gained old.log new.log)
begun_done old between new same none =
    subst (λ (s : Seen). NoneFailed (gained s.log new.log)) same none

pub begun_stop : (old between new : Seen) (stop : Stop) → between ≡ old → TellsOfStop (gained between.log new.log) stop → TellsOfStop (gained old.log new.log) stop
begun_stop old between new stop same told =
    subst (λ (s : Seen). TellsOfStop (gained s.log new.log) stop) same told

pub begun_answer : (T : Type 0) (old between new : Seen) (result : Result T Stop) → between ≡ old → TellsOfAnswer (gained between.log new.log) result → TellsOfAnswer (gained old.log new.log) result
begun_answer T old between new result same told =
    subst (λ (s : Seen). TellsOfAnswer (gained s.log new.log) result) same told

-- then, no child was started
pub stays_done : (old between new : Seen) → new ≡ between → NoneFailed (gained old.log between.log) → NoneFailed (gained old.log new.log)
stays_done old between new same none =
    subst (λ (s : Seen). NoneFailed (gained old.log s.log)) (sym same) none

pub stays_stop : (old between new : Seen) (stop : Stop) → new ≡ between → IsOfNoTask stop → NoneFailed (gained old.log between.log) → TellsOfStop (gained old.log new.log) stop
stays_stop old between new stop same names_none none =
    stop_of_none (gained old.log new.log) stop names_none (stays_done old between new same none)

pub stays_answer : (T : Type 0) (old between new : Seen) (result : Result T Stop) → new ≡ between → IfErr result IsOfNoTask → NoneFailed (gained old.log between.log) → TellsOfAnswer (gained old.log new.log) result
stays_answer T old between new result same names_none none =
    answer_of_none (gained old.log new.log) result names_none (stays_done old between new same none)

-- a refusal that was handed on
pub answer_err : (T : Type 0) (entries : List LogEntry) (result : Result T Stop) (stop : Stop) → IsErrAnd result (λ e. e ≡ stop) → TellsOfStop entries stop → TellsOfAnswer entries result
answer_err T entries (Ok value) stop is told = absurd is
answer_err T entries (Err e) stop is told =
    subst (TellsOfStop entries) (sym is) told

pub commit_no_task : (fault : CommitFault) → IsOfNoTask (of_commit fault)
commit_no_task Commit.Disk = tt
commit_no_task Commit.NoMemory = tt

module _ (tells : Type 0) (gives : List (List ℕ) → List ℕ → List ℕ) (conf : Settings) (old between new : Seen) (had have has : List Given) (d e : Told) where
  pub answer_then : (T : Type 0) (from mid to until : ℕ) (result : Result T Stop) → mid ≤ to → FinishesWithin tells gives conf from mid old between had have d → GainsWithin tells gives conf to until between new have has e → NoneFailed (gained old.log between.log) → TellsOfAnswer (gained between.log new.log) result → TellsOfAnswer (gained old.log new.log) result
  answer_then T from mid to until result less first next none told =
      let xs = first.log.entries in
      let ys = next.log.entries in
      let one : gained old.log between.log ≡ xs = gained_is old between xs first.log.log in
      let other : gained between.log new.log ≡ ys = gained_is between new ys next.log.log in
      let both : gained old.log new.log ≡ xs ++ ys = gained_is old new (xs ++ ys) (next.log.log ∙ ap (λ (l : List LogEntry). l ++ ys) first.log.log ∙ append_assoc old.log xs ys) in
      let here : AllByRecursion (NamesWithin from mid) xs = all_within (rule_of conf) tells d from mid first.log.parts xs first.log.given first.log.run (parts_within tells gives d conf from first.jobs mid first.specs first.log.parts first.rise first.each first.are first.log.of_jobs) in
      let there : AllByRecursion (NamesWithin to until) ys = any_within (rule_of conf) tells e to until next.log.parts ys next.log.given next.log.run (parts_within tells gives e conf to next.jobs until next.specs next.log.parts next.rise next.each next.are next.log.of_jobs) in
      subst (λ (l : List LogEntry). TellsOfAnswer l result) (sym both) (answer_sum from mid to until less xs here (subst NoneFailed one none) ys there result (subst (λ (l : List LogEntry). TellsOfAnswer l result) other told))

  pub stop_then : (from mid to until : ℕ) (stop : Stop) → mid ≤ to → FinishesWithin tells gives conf from mid old between had have d → GainsWithin tells gives conf to until between new have has e → NoneFailed (gained old.log between.log) → TellsOfStop (gained between.log new.log) stop → TellsOfStop (gained old.log new.log) stop
  stop_then from mid to until stop less first next none told =
      answer_then (Unit {0}) from mid to until (Err stop) less first next none told

  pub done_then : (from mid to until : ℕ) → mid ≤ to → FinishesWithin tells gives conf from mid old between had have d → GainsWithin tells gives conf to until between new have has e → NoneFailed (gained old.log between.log) → NoneFailed (gained between.log new.log) → NoneFailed (gained old.log new.log)
  done_then from mid to until less first next none told =
      answer_then (Unit {0}) from mid to until (Ok tt) less first next none told

-- ---- a job

module _ (folder : Names) where
  few_none_of : (entries : List LogEntry) → AllByRecursion (λ entry. (tried entry).task.job ≡ folder) entries → HasFewFailures folder entries → NoneFailed entries
  few_none_of entries each few id =
      ⊎_elim (λ none. omega (arith, none)) (λ same. subst (λ (job : Names). failed_of (task_id job id.phase id.task) entries < 4) (sym same) (few id.phase id.task)) (found (λ job. job ≡ folder) id entries each)

module _ (folder : Names) (entries : List LogEntry) (each : AllByRecursion (λ entry. (tried entry).task.job ≡ folder) entries) where
  cut_short : IsCutShort folder entries → IsCutOff entries
  cut_short cut =
      record {
        front = cut.front;
        ends = cut.ends;
        parts = cut.parts;
        none_failed = few_none_of folder cut.front (each_front (λ entry. (tried entry).task.job ≡ folder) cut.front cut.ends (subst (AllByRecursion (λ entry. (tried entry).task.job ≡ folder)) cut.parts each)) cut.few;
        none_made = cut.none_made;
      }

  -- what the entries of a job tell of its refusal
  pub job_stop : (fault : JobFault) → TellsOfJob folder entries (Err fault) → TellsOfStop entries (of_job fault)
  job_stop (Job.TaskFailed id) told =
      (told.1, λ t below. subst (λ (job : Names). failed_of (task_id job id.phase t) entries < 4) (sym (ap (λ (i : TaskId). i.job) told.0)) (told.2 t below))
  job_stop Job.Disk told = cut_short told
  job_stop Job.NoMemory told = cut_short told

  pub job_none : (report : JobReport) → TellsOfJob folder entries (Ok report) → NoneFailed entries
  job_none report told = few_none_of folder entries each told.1

-- the entries of a job name its folder
pub job_names : (S : Rule) (tells : Type 0) (gives : List (List ℕ) → List ℕ → List ℕ) (folder : Names) (plan : Plan) (slots : ℕ) (old new : Seen) (had has : List Given) (e : Told) (result : Result JobReport JobFault) → JobLog S tells gives folder plan slots old new had has e result → AllByRecursion (λ entry. (tried entry).task.job ≡ folder) (gained old.log new.log)
job_names S tells gives folder plan slots old new had has e result log =
    subst (AllByRecursion (λ entry. (tried entry).task.job ≡ folder)) (sym (gained_is old new (log.maps ++ log.reduces) log.log)) (each_append (λ entry. (tried entry).task.job ≡ folder) log.maps log.reduces (each_map (IsEntryOf (work_of folder Map plan.map_words log.count)) (λ entry. (tried entry).task.job ≡ folder) log.maps (λ entry is. is.job) log.of_maps) (each_map (IsEntryOf (work_of folder Reduce plan.reduce_words plan.reducers)) (λ entry. (tried entry).task.job ≡ folder) log.reduces (λ entry is. is.job) log.of_reduces))
