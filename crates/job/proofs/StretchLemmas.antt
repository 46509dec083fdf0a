-- Phases follow one another, within a job and from job to job.
use Rattle.std.proofs.Common.{◌≡◌, ℕ, inl, inr, List, [], ◌∷◌, ◌++◌, length, get_or, Result, Ok, Err, refl, sym, ap, ◌∙◌, append_assoc, subst, arith}
use Rattle.std.proofs.lemmas.List.{append-nil}
use Rattle.peg_base.specs.Names.{Names}
use Rattle.peg_base.specs.declared.tasks.Phase.TheVariants.{Map, Reduce}
use Rattle.dir_disk.specs.State.{State}
use Rattle.dir_disk.specs.Moments.{Told, Moment}
use Rattle.dir_disk.specs.Children.{Given, Seen}
use Rattle.dir_disk.specs.declared.site.LogEntry.{LogEntry}
use Rattle.task_core.specs.Board.{Rule, fresh}
use Rattle.job.specs.declared.fault.JobFault.{JobFault}
use Rattle.job.specs.declared.spec.JobReport.{JobReport}
use Rattle.job.specs.declared.spec.JobSpec.{JobSpec}
use Rattle.job.specs.Work.{work_of}
use Rattle.job.specs.Failing.{steps_of}
use Rattle.job.specs.Going.{givens_of}
use Rattle.job.specs.Logged.{GoesOn, IsDone, JobAnswers, JobLog}
use Rattle.job.specs.Output.{Plan, map_inputs, reduce_inputs}
use Rattle.job.specs.Whole.{plan_of}
use Rattle.job.specs.Stretches.{Part, Stretch, Splits, AllRun, AnyRun, HadInputs, ArePartsOf, FinishesJobs, PhasesAddUp, LaterPhasesAddNothing, FinishedJobsStay, JobsAddUp, parts_of}
use Rattle.job.proofs.Logs.{read_later}

module _ (S : Rule) (tells : Type 0) (told : Told) where
  -- what was given matters only where it is told
  stretch_as : (p : Part) (xs ys : List LogEntry) (gs hs : List Given) → xs ≡ ys → (tells → hs ≡ gs) → Stretch S tells told p xs gs → Stretch S tells told p ys hs
  stretch_as p xs ys gs hs same given stretch =
      let here : Stretch S tells told p ys gs = subst (λ (l : List LogEntry). Stretch S tells told p l gs) same stretch in
      record { of_work = here.of_work; run = here.run; began = here.began; givens = λ tell. given tell ∙ here.givens tell; read = here.read }

  abbrev cut_as : (p : Part) (xs ys : List LogEntry) (gs hs : List Given) → xs ≡ ys → (tells → hs ≡ gs) → (cut : Splits S tells told p xs gs) → Splits S tells told p ys hs
  cut_as p xs ys gs hs same given cut =
      record { first = cut.first; rest = cut.rest; one = cut.one; more = cut.more; parts = sym same ∙ cut.parts; shares = λ tell. given tell ∙ cut.shares tell; stretch = cut.stretch; done = cut.done }

  all_as : (ps : List Part) (xs ys : List LogEntry) (gs hs : List Given) → xs ≡ ys → (tells → hs ≡ gs) → AllRun S tells told ps xs gs → AllRun S tells told ps ys hs
  all_as [] xs ys gs hs same given nothing = (sym same ∙ nothing.0, λ tell. given tell ∙ nothing.1 tell)
  all_as (p ∷ ps) xs ys gs hs same given all = (cut_as p xs ys gs hs same given all.0, all.1)

  any_as : (ps : List Part) (xs ys : List LogEntry) (gs hs : List Given) → xs ≡ ys → (tells → hs ≡ gs) → AnyRun S tells told ps xs gs → AnyRun S tells told ps ys hs
  any_as [] xs ys gs hs same given nothing = (sym same ∙ nothing.0, λ tell. given tell ∙ nothing.1 tell)
  any_as (p ∷ ps) xs ys gs hs same given (inl stretch) = inl (stretch_as p xs ys gs hs same given stretch)
  any_as (p ∷ ps) xs ys gs hs same given (inr (cut, rest)) = inr (cut_as p xs ys gs hs same given cut, rest)

  abbrev cut_then : (p : Part) (xs ys : List LogEntry) (gs hs : List Given) → (cut : Splits S tells told p xs gs) → Splits S tells told p (xs ++ ys) (gs ++ hs)
  cut_then p xs ys gs hs cut =
      record {
        first = cut.first;
        rest = cut.rest ++ ys;
        one = cut.one;
        more = cut.more ++ hs;
        parts = ap (λ (l : List LogEntry). l ++ ys) cut.parts ∙ append_assoc cut.first cut.rest ys;
        shares = λ tell. ap (λ (l : List Given). l ++ hs) (cut.shares tell) ∙ append_assoc cut.one cut.more hs;
        stretch = cut.stretch;
        done = cut.done;
      }

  all_then : (ps qs : List Part) (xs ys : List LogEntry) (gs hs : List Given) → AllRun S tells told ps xs gs → AllRun S tells told qs ys hs → AllRun S tells told (ps ++ qs) (xs ++ ys) (gs ++ hs)
  all_then [] qs xs ys gs hs none later =
      all_as qs ys (xs ++ ys) hs (gs ++ hs) (sym (ap (λ (l : List LogEntry). l ++ ys) none.0)) (λ tell. ap (λ (l : List Given). l ++ hs) (none.1 tell)) later
  all_then (p ∷ ps) qs xs ys gs hs (cut, others) later =
      (cut_then p xs ys gs hs cut, all_then ps qs cut.rest ys cut.more hs others later)

  any_then : (ps qs : List Part) (xs ys : List LogEntry) (gs hs : List Given) → AllRun S tells told ps xs gs → AnyRun S tells told qs ys hs → AnyRun S tells told (ps ++ qs) (xs ++ ys) (gs ++ hs)
  any_then [] qs xs ys gs hs none later =
      any_as qs ys (xs ++ ys) hs (gs ++ hs) (sym (ap (λ (l : List LogEntry). l ++ ys) none.0)) (λ tell. ap (λ (l : List Given). l ++ hs) (none.1 tell)) later
  any_then (p ∷ ps) qs xs ys gs hs (cut, others) later =
      inr (cut_then p xs ys gs hs cut, any_then ps qs cut.rest ys cut.more hs others later)

  -- a phase that was not begun has no entries
  not_begun : (qs : List Part) → AnyRun S tells told qs [] []
  not_begun [] = (refl, λ _. refl)
  not_begun (q ∷ qs) = inl (record { of_work = tt; run = tt; began = 0; givens = λ _. refl; read = λ _. inl refl })

  later_nothing : (ps qs : List Part) (xs : List LogEntry) (gs : List Given) → AnyRun S tells told ps xs gs → AnyRun S tells told (ps ++ qs) xs gs
  later_nothing [] qs xs gs none = any_as qs [] xs [] gs (sym none.0) none.1 (not_begun qs)
  later_nothing (p ∷ ps) qs xs gs (inl stretch) = inl stretch
  later_nothing (p ∷ ps) qs xs gs (inr (cut, others)) = inr (cut, later_nothing ps qs cut.rest cut.more others)

pub phases_add_up : (S : Rule) (tells : Type 0) → PhasesAddUp S tells
phases_add_up S tells told ps qs xs ys gs hs all = (all_then S tells told ps qs xs ys gs hs all, any_then S tells told ps qs xs ys gs hs all)

pub later_add_nothing : (S : Rule) (tells : Type 0) → LaterPhasesAddNothing S tells
later_add_nothing S tells told ps qs xs gs any = later_nothing S tells told ps qs xs gs any

-- ---- while the directory goes on

stretch_stays : (S : Rule) (tells : Type 0) (d e : Told) (p : Part) (xs : List LogEntry) (gs : List Given) → (tells → GoesOn d e) → Stretch S tells d p xs gs → Stretch S tells e p xs gs
stretch_stays S tells d e p xs gs on stretch =
    record { of_work = stretch.of_work; run = stretch.run; began = stretch.began; givens = stretch.givens; read = λ tell. read_later p.work p.texts stretch.began xs d e (on tell) (stretch.read tell) }

all_stay : (S : Rule) (tells : Type 0) (d e : Told) (ps : List Part) (xs : List LogEntry) (gs : List Given) → (tells → GoesOn d e) → AllRun S tells d ps xs gs → AllRun S tells e ps xs gs
all_stay S tells d e [] xs gs on nothing = nothing
all_stay S tells d e (p ∷ ps) xs gs on (cut, others) =
    (record { first = cut.first; rest = cut.rest; one = cut.one; more = cut.more; parts = cut.parts; shares = cut.shares; stretch = stretch_stays S tells d e p cut.first cut.one on cut.stretch; done = cut.done }, all_stay S tells d e ps cut.rest cut.more on others)

inputs_stay : (spec : JobSpec) (state : State) (d e : Told) → GoesOn d e → HadInputs spec state d → HadInputs spec state e
inputs_stay spec state d e on had =
    record { moment = had.moment; past = omega (arith, had.past, on.later); same = ap (λ (m : Moment). plan_of spec m.state) (on.past had.moment had.past) ∙ had.same }

parts_stay : (tells : Type 0) (gives : List (List ℕ) → List ℕ → List ℕ) (d e : Told) (jobs : List JobSpec) (parts : List Part) → (tells → GoesOn d e) → ArePartsOf tells gives d jobs parts → ArePartsOf tells gives e jobs parts
parts_stay tells gives d e [] parts on none = none
parts_stay tells gives d e (spec ∷ jobs) parts on (job, others) =
    (record { state = job.state; count = job.count; rest = job.rest; had = λ tell. inputs_stay spec job.state d e (on tell) (job.had tell); counted = job.counted; cut = job.cut }, parts_stay tells gives d e jobs job.rest on others)

pub finished_stay : (S : Rule) (tells : Type 0) (gives : List (List ℕ) → List ℕ → List ℕ) → FinishedJobsStay S tells gives
finished_stay S tells gives jobs old new had has d e on all =
    record { parts = all.parts; of_jobs = parts_stay tells gives d e jobs all.parts on all.of_jobs; entries = all.entries; given = all.given; log = all.log; givens = all.givens; run = all_stay S tells d e all.parts all.entries all.given on all.run }

-- ---- a job

module _ (S : Rule) (tells : Type 0) (gives : List (List ℕ) → List ℕ → List ℕ) (folder : Names) (plan : Plan) (slots : ℕ) (old new : Seen) (had has : List Given) (e : Told) where
  abbrev Logs : Result JobReport JobFault → Type 0
  Logs result = JobLog S tells gives folder plan slots old new had has e result

  abbrev maps_given : (result : Result JobReport JobFault) → Logs result → List Given
  maps_given result log = givens_of (work_of folder Map plan.map_words log.count) (λ t. get_or (map_inputs plan) t []) log.map_began (fresh log.count slots) (steps_of log.maps)

  abbrev reduces_given : (result : Result JobReport JobFault) → Logs result → List Given
  reduces_given result log = givens_of (work_of folder Reduce plan.reduce_words plan.reducers) (λ t. get_or (reduce_inputs gives plan) t []) log.reduce_began (fresh plan.reducers slots) (steps_of log.reduces)

  abbrev map_part : ℕ → Part
  map_part count = record { work = work_of folder Map plan.map_words count; board = fresh count slots; texts = map_inputs plan }

  abbrev reduce_part : Part
  reduce_part = record { work = work_of folder Reduce plan.reduce_words plan.reducers; board = fresh plan.reducers slots; texts = reduce_inputs gives plan }

  map_stretch : (result : Result JobReport JobFault) (log : Logs result) → Stretch S tells e (map_part log.count) log.maps (maps_given result log)
  map_stretch result log = record { of_work = log.of_maps; run = log.map_run; began = log.map_began; givens = λ _. refl; read = log.map_read }

  reduce_stretch : (result : Result JobReport JobFault) (log : Logs result) → Stretch S tells e reduce_part log.reduces (reduces_given result log)
  reduce_stretch result log = record { of_work = log.of_reduces; run = log.reduce_run; began = log.reduce_began; givens = λ _. refl; read = log.reduce_read }

  abbrev maps_cut : (result : Result JobReport JobFault) (log : Logs result) → IsDone S (fresh log.count slots) log.maps → Splits S tells e (map_part log.count) (log.maps ++ log.reduces) (maps_given result log ++ reduces_given result log)
  maps_cut result log done =
      record { first = log.maps; rest = log.reduces; one = maps_given result log; more = reduces_given result log; parts = refl; shares = λ _. refl; stretch = map_stretch result log; done = done }

  abbrev reduces_cut : (result : Result JobReport JobFault) (log : Logs result) → IsDone S (fresh plan.reducers slots) log.reduces → Splits S tells e reduce_part log.reduces (reduces_given result log)
  reduces_cut result log done =
      record { first = log.reduces; rest = []; one = reduces_given result log; more = []; parts = sym (append-nil log.reduces); shares = λ _. sym (append-nil (reduces_given result log)); stretch = reduce_stretch result log; done = done }

  -- a job that was done
  job_all : (report : JobReport) (log : Logs (Ok report)) → AllRun S tells e (parts_of gives folder plan slots log.count) (log.maps ++ log.reduces) (maps_given (Ok report) log ++ reduces_given (Ok report) log)
  job_all report log = (maps_cut (Ok report) log log.answer.0, (reduces_cut (Ok report) log log.answer.1, (refl, λ _. refl)))

  -- a job, whatever it answered
  job_any : (result : Result JobReport JobFault) (log : Logs result) → JobAnswers S (work_of folder Map plan.map_words log.count) (work_of folder Reduce plan.reduce_words plan.reducers) slots log.maps log.reduces result → AnyRun S tells e (parts_of gives folder plan slots log.count) (log.maps ++ log.reduces) (maps_given result log ++ reduces_given result log)
  job_any (Ok report) log answer = inr (maps_cut (Ok report) log answer.0, inl (reduce_stretch (Ok report) log))
  job_any (Err fault) log (inl (cause, none)) =
      let given : reduces_given (Err fault) log ≡ [] = ap (λ (l : List LogEntry). givens_of (work_of folder Reduce plan.reduce_words plan.reducers) (λ t. get_or (reduce_inputs gives plan) t []) log.reduce_began (fresh plan.reducers slots) (steps_of l)) none in
      inl (stretch_as S tells e (map_part log.count) log.maps (log.maps ++ log.reduces) (maps_given (Err fault) log) (maps_given (Err fault) log ++ reduces_given (Err fault) log) (sym (ap (λ (l : List LogEntry). log.maps ++ l) none ∙ append-nil log.maps)) (λ _. ap (λ (l : List Given). maps_given (Err fault) log ++ l) given ∙ append-nil (maps_given (Err fault) log)) (map_stretch (Err fault) log))
  job_any (Err fault) log (inr (inl (done, cause))) = inr (maps_cut (Err fault) log done, inl (reduce_stretch (Err fault) log))
  job_any (Err fault) log (inr (inr (none, done, all))) = inr (maps_cut (Err fault) log done, inl (reduce_stretch (Err fault) log))

parts_then : (tells : Type 0) (gives : List (List ℕ) → List ℕ → List ℕ) (told : Told) (jobs : List JobSpec) (spec : JobSpec) (state : State) (count : ℕ) (parts : List Part) → (tells → HadInputs spec state told) → (tells → count ≡ length (map_inputs (plan_of spec state))) → ArePartsOf tells gives told jobs parts
    → ArePartsOf tells gives told (jobs ++ spec ∷ []) (parts ++ parts_of gives spec.folder (plan_of spec state) spec.slots count)
parts_then tells gives told [] spec state count parts had counted none =
    let more = parts_of gives spec.folder (plan_of spec state) spec.slots count in
    (record { state = state; count = count; rest = []; had = had; counted = counted; cut = ap (λ (l : List Part). l ++ more) none ∙ sym (append-nil more) }, refl)
parts_then tells gives told (first ∷ jobs) spec state count parts had counted (job, others) =
    let more = parts_of gives spec.folder (plan_of spec state) spec.slots count in
    let front = parts_of gives first.folder (plan_of first job.state) first.slots job.count in
    (record { state = job.state; count = job.count; rest = job.rest ++ more; had = job.had; counted = job.counted; cut = ap (λ (l : List Part). l ++ more) job.cut ∙ append_assoc front job.rest more }, parts_then tells gives told jobs spec state count job.rest had counted others)

pub jobs_add_up : (S : Rule) (tells : Type 0) (gives : List (List ℕ) → List ℕ → List ℕ) → JobsAddUp S tells gives
jobs_add_up S tells gives jobs spec state old mid new had have has told result all inputs log =
    let folder = spec.folder in
    let plan = plan_of spec state in
    let slots = spec.slots in
    let xs = log.maps ++ log.reduces in
    let gs = maps_given S tells gives folder plan slots mid new have has told result log ++ reduces_given S tells gives folder plan slots mid new have has told result log in (
      record {
        parts = all.parts ++ parts_of gives folder plan slots log.count;
        of_jobs = parts_then tells gives told jobs spec state log.count all.parts inputs log.counted all.of_jobs;
        entries = all.entries ++ xs;
        given = all.given ++ gs;
        log = log.log ∙ ap (λ (l : List LogEntry). l ++ xs) all.log ∙ append_assoc old.log all.entries xs;
        givens = λ tell. log.givens tell ∙ ap (λ (l : List Given). l ++ gs) (all.givens tell) ∙ append_assoc had all.given gs;
        run = any_then S tells told all.parts (parts_of gives folder plan slots log.count) all.entries xs all.given gs all.run (job_any S tells gives folder plan slots mid new have has told result log log.answer);
      },
      λ report is. finished report is,
    )
  where
    finished : (report : JobReport) → result ≡ Ok report → FinishesJobs S tells gives (jobs ++ spec ∷ []) old new had has told
    finished report is =
        let folder = spec.folder in
        let plan = plan_of spec state in
        let slots = spec.slots in
        let done : JobLog S tells gives folder plan slots mid new have has told (Ok report) = subst (λ (r : Result JobReport JobFault). JobLog S tells gives folder plan slots mid new have has told r) is log in
        let xs = done.maps ++ done.reduces in
        let gs = maps_given S tells gives folder plan slots mid new have has told (Ok report) done ++ reduces_given S tells gives folder plan slots mid new have has told (Ok report) done in
        record {
          parts = all.parts ++ parts_of gives folder plan slots done.count;
          of_jobs = parts_then tells gives told jobs spec state done.count all.parts inputs done.counted all.of_jobs;
          entries = all.entries ++ xs;
          given = all.given ++ gs;
          log = done.log ∙ ap (λ (l : List LogEntry). l ++ xs) all.log ∙ append_assoc old.log all.entries xs;
          givens = λ tell. done.givens tell ∙ ap (λ (l : List Given). l ++ gs) (all.givens tell) ∙ append_assoc had all.given gs;
          run = all_then S tells told all.parts (parts_of gives folder plan slots done.count) all.entries xs all.given gs all.run (job_all S tells gives folder plan slots mid new have has told report done);
        }
