-- What jobs add to a log, one call behind another.
use Rattle.std.proofs.Common.{◌≡◌, ℕ, ◌+◌, ◌≤◌, inr, List, [], ◌∷◌, ◌++◌, refl, sym, ◌∙◌, ap, subst, append_assoc, arith}
use Rattle.std.specs.Prelude.{◌*◌, ◌^◌, Bool, true, false, None, Some, is_some, IsSome, Result, Ok, Err, OnOk}
use Rattle.std.proofs.lemmas.Bool.{false≢true}
use Rattle.std.proofs.lemmas.List.{append-nil}
use Rattle.peg_base.specs.Names.{Names}
use Rattle.dir_disk.specs.State.{Content, IsSound, State}
use Rattle.dir_disk.specs.Moments.{Moment, Told, Through, files}
use Rattle.dir_disk.specs.Children.{Given, Seen}
use Rattle.dir_disk.specs.declared.site.LogEntry.{LogEntry}
use Rattle.task_core.specs.Board.{Rule}
use Rattle.conf.specs.declared.reading.Conf.{Conf as Settings}
use Rattle.job.specs.declared.fault.JobFault.{JobFault}
use Rattle.job.specs.declared.spec.JobReport.{JobReport}
use Rattle.job.specs.declared.spec.JobSpec.{JobSpec}
use Rattle.job.specs.Logged.{GoesOn, JobLog}
use Rattle.job.specs.Whole.{plan_of}
use Rattle.job.specs.Stretches.{Part, AllRun, AnyRun, ArePartsOf, FinishesJobs, GainsJobs, HadInputs, parts_of}
use Rattle.committer.specs.Paths.{success_of}
use Rattle.committer.proofs.FolderLemmas.{some_is_there}
use Rattle.job.proofs.Listing.{each_append}
use Rattle.job.proofs.StretchLemmas.{finished_stay, jobs_add_up, phases_add_up}
use Rattle.mining.specs.declared.place.Place.{Place}
use Rattle.mining.specs.declared.place.Place.TheVariants.{Matrix, Messages, Vector, Results}
use Rattle.mining.specs.Places.{folder_of, IsInTable, is_made, is_sealed, rank_of}
use Rattle.mining.specs.Between.{IsSure}
use Rattle.mining.specs.Making.{IsJobOf}
use Rattle.mining.specs.Jobs.{AreJobsOf, FinishesWithin, GainsWithin, IsOfForm, Job, JobsWithin, Rise, rule_of}

-- ---- lists of jobs

pub rise_from : (low mid : ℕ) (jobs : List Job) (high : ℕ) → low ≤ mid → Rise mid jobs high → Rise low jobs high
rise_from low mid [] high less rise = omega (arith, less, rise)
rise_from low mid (job ∷ jobs) high less rise = (omega (arith, less, rise.0), rise.1)

pub rise_to : (low : ℕ) (jobs : List Job) (mid high : ℕ) → mid ≤ high → Rise low jobs mid → Rise low jobs high
rise_to low [] mid high less rise = omega (arith, less, rise)
rise_to low (job ∷ jobs) mid high less rise = (rise.0, rise_to (rank_of job.place + 1) jobs mid high less rise.1)

pub rise_append : (low : ℕ) (jobs : List Job) (mid : ℕ) (more : List Job) (high : ℕ) → Rise low jobs mid → Rise mid more high → Rise low (jobs ++ more) high
rise_append low [] mid more high first next = rise_from low mid more high first next
rise_append low (job ∷ jobs) mid more high first next =
    (first.0, rise_append (rank_of job.place + 1) jobs mid more high first.1 next)

pub are_append : (conf : Settings) (jobs : List Job) (specs : List JobSpec) (more : List Job) (others : List JobSpec) → AreJobsOf conf jobs specs → AreJobsOf conf more others → AreJobsOf conf (jobs ++ more) (specs ++ others)
are_append conf [] [] more others first next = next
are_append conf [] (spec ∷ specs) more others first next = absurd first
are_append conf (job ∷ jobs) [] more others first next = absurd first
are_append conf (job ∷ jobs) (spec ∷ specs) more others first next =
    (first.0, are_append conf jobs specs more others first.1 next)

module _ (conf : Settings) where
  abbrev append : (low mid high : ℕ) (L M N : List JobSpec → Type 0) → ((specs others : List JobSpec) → L specs → M others → N (specs ++ others)) → JobsWithin conf low mid L → JobsWithin conf mid high M → JobsWithin conf low high N
  append low mid high L M N both first next =
      record {
        jobs = first.jobs ++ next.jobs;
        rise = rise_append low first.jobs mid next.jobs high first.rise next.rise;
        each = each_append (IsOfForm conf.form) first.jobs next.jobs first.each next.each;
        specs = first.specs ++ next.specs;
        are = are_append conf first.jobs first.specs next.jobs next.specs first.are next.are;
        log = both first.specs next.specs first.log next.log;
      }

  abbrev within : (low mid high end : ℕ) (L M : List JobSpec → Type 0) → low ≤ mid → high ≤ end → ((specs : List JobSpec) → L specs → M specs) → JobsWithin conf mid high L → JobsWithin conf low end M
  within low mid high end L M less more turn some =
      record {
        jobs = some.jobs;
        rise = rise_from low mid some.jobs end less (rise_to mid some.jobs high end more some.rise);
        each = some.each;
        specs = some.specs;
        are = some.are;
        log = turn some.specs some.log;
      }

-- ---- phases of jobs

module _ (S : Rule) (tells : Type 0) (gives : List (List ℕ) → List ℕ → List ℕ) (told : Told) where
  parts_append : (specs : List JobSpec) (parts : List Part) (others : List JobSpec) (more : List Part) → ArePartsOf tells gives told specs parts → ArePartsOf tells gives told others more → ArePartsOf tells gives told (specs ++ others) (parts ++ more)
  parts_append [] parts others more none next =
      subst (λ (l : List Part). ArePartsOf tells gives told others (l ++ more)) (sym none) next
  parts_append (spec ∷ specs) parts others more (job, rest) next =
      (record { state = job.state; count = job.count; rest = job.rest ++ more; had = job.had; counted = job.counted; cut = ap (λ (l : List Part). l ++ more) job.cut ∙ append_assoc (parts_of gives spec.folder (plan_of spec job.state) spec.slots job.count) job.rest more }, parts_append specs job.rest others more rest next)

  any_of_all : (parts : List Part) (entries : List LogEntry) (given : List Given) → AllRun S tells told parts entries given → AnyRun S tells told parts entries given
  any_of_all [] entries given none = none
  any_of_all (part ∷ parts) entries given (cut, rest) = inr (cut, any_of_all parts cut.rest cut.more rest)

  module _ (old mid new : Seen) (had have has : List Given) where
    pub gains_append : (specs others : List JobSpec) → FinishesJobs S tells gives specs old mid had have told → GainsJobs S tells gives others mid new have has told → GainsJobs S tells gives (specs ++ others) old new had has told
    gains_append specs others first next =
        record {
          parts = first.parts ++ next.parts;
          of_jobs = parts_append specs first.parts others next.parts first.of_jobs next.of_jobs;
          entries = first.entries ++ next.entries;
          given = first.given ++ next.given;
          log = next.log ∙ ap (λ (l : List LogEntry). l ++ next.entries) first.log ∙ append_assoc old.log first.entries next.entries;
          givens = λ tell. next.givens tell ∙ ap (λ (l : List Given). l ++ next.given) (first.givens tell) ∙ append_assoc had first.given next.given;
          run = (phases_add_up S tells told first.parts next.parts first.entries next.entries first.given next.given first.run).1 next.run;
        }

    pub finishes_append : (specs others : List JobSpec) → FinishesJobs S tells gives specs old mid had have told → FinishesJobs S tells gives others mid new have has told → FinishesJobs S tells gives (specs ++ others) old new had has told
    finishes_append specs others first next =
        record {
          parts = first.parts ++ next.parts;
          of_jobs = parts_append specs first.parts others next.parts first.of_jobs next.of_jobs;
          entries = first.entries ++ next.entries;
          given = first.given ++ next.given;
          log = next.log ∙ ap (λ (l : List LogEntry). l ++ next.entries) first.log ∙ append_assoc old.log first.entries next.entries;
          givens = λ tell. next.givens tell ∙ ap (λ (l : List Given). l ++ next.given) (first.givens tell) ∙ append_assoc had first.given next.given;
          run = (phases_add_up S tells told first.parts next.parts first.entries next.entries first.given next.given first.run).0 next.run;
        }

  pub gains_of : (old new : Seen) (had has : List Given) (specs : List JobSpec) → FinishesJobs S tells gives specs old new had has told → GainsJobs S tells gives specs old new had has told
  gains_of old new had has specs all =
      record { parts = all.parts; of_jobs = all.of_jobs; entries = all.entries; given = all.given; log = all.log; givens = all.givens; run = any_of_all all.parts all.entries all.given all.run }

  pub nothing : (old new : Seen) (had has : List Given) → new ≡ old → (tells → has ≡ had) → FinishesJobs S tells gives [] old new had has told
  nothing old new had has seen given =
      record { parts = []; of_jobs = refl; entries = []; given = []; log = ap (λ (s : Seen). s.log) seen ∙ sym (append-nil old.log); givens = λ tell. given tell ∙ sym (append-nil had); run = (refl, λ _. refl) }

-- ---- from call to call

module _ (tells : Type 0) (gives : List (List ℕ) → List ℕ → List ℕ) (conf : Settings) where
  -- no child was started
  pub none_finish : (low high : ℕ) (old new : Seen) (had has : List Given) (told : Told) → low ≤ high → new ≡ old → (tells → has ≡ had) → FinishesWithin tells gives conf low high old new had has told
  none_finish low high old new had has told less seen given =
      record { jobs = []; rise = less; each = tt; specs = []; are = tt; log = nothing (rule_of conf) tells gives told old new had has seen given }

  pub none_gain : (low high : ℕ) (old new : Seen) (had has : List Given) (told : Told) → low ≤ high → new ≡ old → (tells → has ≡ had) → GainsWithin tells gives conf low high old new had has told
  none_gain low high old new had has told less seen given =
      record { jobs = []; rise = less; each = tt; specs = []; are = tt; log = gains_of (rule_of conf) tells gives told old new had has [] (nothing (rule_of conf) tells gives told old new had has seen given) }

  pub gain_of : (low high : ℕ) (old new : Seen) (had has : List Given) (told : Told) → FinishesWithin tells gives conf low high old new had has told → GainsWithin tells gives conf low high old new had has told
  gain_of low high old new had has told all =
      within conf low low high high (λ specs. FinishesJobs (rule_of conf) tells gives specs old new had has told) (λ specs. GainsJobs (rule_of conf) tells gives specs old new had has told) (omega arith) (omega arith) (λ specs done. gains_of (rule_of conf) tells gives told old new had has specs done) all

  -- among more ranks
  pub gain_within : (low mid high end : ℕ) (old new : Seen) (had has : List Given) (told : Told) → low ≤ mid → high ≤ end → GainsWithin tells gives conf mid high old new had has told → GainsWithin tells gives conf low end old new had has told
  gain_within low mid high end old new had has told less more some =
      within conf low mid high end (λ specs. GainsJobs (rule_of conf) tells gives specs old new had has told) (λ specs. GainsJobs (rule_of conf) tells gives specs old new had has told) less more (λ specs log. log) some

  pub finish_within : (low mid high end : ℕ) (old new : Seen) (had has : List Given) (told : Told) → low ≤ mid → high ≤ end → FinishesWithin tells gives conf mid high old new had has told → FinishesWithin tells gives conf low end old new had has told
  finish_within low mid high end old new had has told less more some =
      within conf low mid high end (λ specs. FinishesJobs (rule_of conf) tells gives specs old new had has told) (λ specs. FinishesJobs (rule_of conf) tells gives specs old new had has told) less more (λ specs log. log) some

  -- what was finished stays so
  pub finish_later : (low high : ℕ) (old new : Seen) (had has : List Given) (d e : Told) → (tells → GoesOn d e) → FinishesWithin tells gives conf low high old new had has d → FinishesWithin tells gives conf low high old new had has e
  finish_later low high old new had has d e on some =
      within conf low low high high (λ specs. FinishesJobs (rule_of conf) tells gives specs old new had has d) (λ specs. FinishesJobs (rule_of conf) tells gives specs old new had has e) (omega arith) (omega arith) (λ specs log. finished_stay (rule_of conf) tells gives specs old new had has d e on log) some

  module _ (old between new : Seen) (had have has : List Given) (d e : Told) where
    -- a call behind another
    pub behind_gain : (low from mid to until high : ℕ) → low ≤ from → mid ≤ to → until ≤ high → (tells → GoesOn d e) → FinishesWithin tells gives conf from mid old between had have d → GainsWithin tells gives conf to until between new have has e → GainsWithin tells gives conf low high old new had has e
    behind_gain low from mid to until high less apart more on first next =
        append conf low mid high (λ specs. FinishesJobs (rule_of conf) tells gives specs old between had have e) (λ specs. GainsJobs (rule_of conf) tells gives specs between new have has e) (λ specs. GainsJobs (rule_of conf) tells gives specs old new had has e) (λ specs others. gains_append (rule_of conf) tells gives e old between new had have has specs others) (finish_within low from mid mid old between had have e less (omega arith) (finish_later from mid old between had have d e on first)) (gain_within mid to until high between new have has e apart more next)

    pub behind_finish : (low from mid to until high : ℕ) → low ≤ from → mid ≤ to → until ≤ high → (tells → GoesOn d e) → FinishesWithin tells gives conf from mid old between had have d → FinishesWithin tells gives conf to until between new have has e → FinishesWithin tells gives conf low high old new had has e
    behind_finish low from mid to until high less apart more on first next =
        append conf low mid high (λ specs. FinishesJobs (rule_of conf) tells gives specs old between had have e) (λ specs. FinishesJobs (rule_of conf) tells gives specs between new have has e) (λ specs. FinishesJobs (rule_of conf) tells gives specs old new had has e) (λ specs others. finishes_append (rule_of conf) tells gives e old between new had have has specs others) (finish_within low from mid mid old between had have e less (omega arith) (finish_later from mid old between had have d e on first)) (finish_within mid to until high between new have has e apart more next)

    -- then no child was started
    pub finish_stays : (low high : ℕ) → (tells → GoesOn d e) → FinishesWithin tells gives conf low high old between had have d → new ≡ between → (tells → has ≡ have) → FinishesWithin tells gives conf low high old new had has e
    finish_stays low high on first seen given =
        behind_finish low low high high high high (omega arith) (omega arith) (omega arith) on first (none_finish high high between new have has e (omega arith) seen given)

    pub gain_stays : (low high : ℕ) → (tells → GoesOn d e) → FinishesWithin tells gives conf low high old between had have d → new ≡ between → (tells → has ≡ have) → GainsWithin tells gives conf low high old new had has e
    gain_stays low high on first seen given =
        gain_of low high old new had has e (finish_stays low high on first seen given)

  -- before, no child was started
  module _ (old between new : Seen) (had have has : List Given) (e : Told) (seen : between ≡ old) (given : tells → have ≡ had) where
    pub after_none_gain : (low high : ℕ) → low ≤ high → GainsWithin tells gives conf low high between new have has e → GainsWithin tells gives conf low high old new had has e
    after_none_gain low high some next =
        append conf low low high (λ specs. FinishesJobs (rule_of conf) tells gives specs old between had have e) (λ specs. GainsJobs (rule_of conf) tells gives specs between new have has e) (λ specs. GainsJobs (rule_of conf) tells gives specs old new had has e) (λ specs others. gains_append (rule_of conf) tells gives e old between new had have has specs others) (none_finish low low old between had have e (omega arith) seen given) next

    pub after_none_finish : (low high : ℕ) → low ≤ high → FinishesWithin tells gives conf low high between new have has e → FinishesWithin tells gives conf low high old new had has e
    after_none_finish low high some next =
        append conf low low high (λ specs. FinishesJobs (rule_of conf) tells gives specs old between had have e) (λ specs. FinishesJobs (rule_of conf) tells gives specs between new have has e) (λ specs. FinishesJobs (rule_of conf) tells gives specs old new had has e) (λ specs others. finishes_append (rule_of conf) tells gives e old between new had have has specs others) (none_finish low low old between had have e (omega arith) seen given) next

-- where it is done
pub if_done : (P Q : Type 0) {T E : Type 0} (result : Result T E) → (P → Q) → OnOk result P → OnOk result Q
if_done P Q (Ok value) turn was = turn was
if_done P Q (Err fault) turn was = tt

pub done_so : (P : Type 0) {T E : Type 0} (result : Result T E) → P → OnOk result P
done_so P (Ok value) is = is
done_so P (Err fault) is = tt

-- ---- ranks

pub rank_messages : (k : ℕ) → rank_of (Messages k) ≡ 6 + 2 * k
unfolding rank_of
rank_messages k = refl

pub rank_vector : (k : ℕ) → rank_of (Vector k) ≡ 7 + 2 * k
unfolding rank_of
rank_vector k = refl

pub rank_matrix : rank_of Matrix ≡ 4
unfolding rank_of
rank_matrix = refl

pub rank_results : rank_of Results ≡ 10 ^ 11 + 1
unfolding rank_of
rank_results = refl

-- a folder that is whole in each image is seen to be whole
pub sure_is_seen : (place : Place) (folder : Names) (s : State) (whole : Bool) → IsSound s → folder ≡ folder_of place → whole ≡ is_some (s (success_of folder)).now → whole ≡ false → IsSure place s → ⊥
sure_is_seen place folder s whole sound is seen none sure =
    let path = success_of folder in
    let some : IsSome (s path).now = subst (λ (p : Names). IsSome (s (success_of p)).now) (sym is) (sure (s (success_of (folder_of place))).now (sound (success_of (folder_of place)))) in
    still (s path).now some (sym none ∙ seen)
  where
    still : (content : Content) → IsSome content → false ≡ is_some content → ⊥
    still None some is = some_is_there None some refl
    still (Some bytes) some is = false≢true is

-- ---- a job

pub steps_on : {Step : State → State → Type 0} (d e : Told) → Through Step d e → GoesOn d e
steps_on d e through = record { later = through.later; past = through.past }

pub stands_on : (d e : Told) → e ≡ d → GoesOn d e
stands_on d e same =
    subst (λ (t : Told). GoesOn d t) (sym same) (record { later = omega arith; past = λ moment before. refl })

-- what the inputs have when the job begins they had at a moment
pub had_inputs : (spec : JobSpec) (d e : Told) → GoesOn d e → HadInputs spec (files d) e
had_inputs spec d e on =
    record { moment = d.count; past = on.later; same = ap (λ (m : Moment). plan_of spec m.state) (on.past d.count (omega arith)) }

module _ (tells : Type 0) (gives : List (List ℕ) → List ℕ → List ℕ) (conf : Settings) (last : ℕ) (place : Place) (spec : JobSpec) (is : IsJobOf conf last place spec) (is_there : IsInTable place) (by_job : is_sealed place ≡ false) (made : is_made conf.form place ≡ true) where
  abbrev job_within : (L : List JobSpec → Type 0) → L (spec ∷ []) → JobsWithin conf (rank_of place) (rank_of place + 1) L
  job_within L log =
      record {
        jobs = record { place = place; last = last } ∷ [];
        rise = (omega arith, omega arith);
        each = (record { is_there = is_there; by_job = by_job; made = made }, tt);
        specs = spec ∷ [];
        are = (is, tt);
        log = log;
      }

  module _ (old between new : Seen) (had have has : List Given) (d e : Told) (on : tells → GoesOn d e) (seen : between ≡ old) (given : tells → have ≡ had) where
    pub job_gains : (result : Result JobReport JobFault) → JobLog (rule_of conf) tells gives spec.folder (plan_of spec (files d)) spec.slots between new have has e result → GainsWithin tells gives conf (rank_of place) (rank_of place + 1) old new had has e
    job_gains result log =
        job_within (λ specs. GainsJobs (rule_of conf) tells gives specs old new had has e) (jobs_add_up (rule_of conf) tells gives [] spec (files d) old between new had have has e result (nothing (rule_of conf) tells gives e old between had have seen given) (λ tell. had_inputs spec d e (on tell)) log).0

    pub job_finishes : (report : JobReport) → JobLog (rule_of conf) tells gives spec.folder (plan_of spec (files d)) spec.slots between new have has e (Ok report) → FinishesWithin tells gives conf (rank_of place) (rank_of place + 1) old new had has e
    job_finishes report log =
        job_within (λ specs. FinishesJobs (rule_of conf) tells gives specs old new had has e) ((jobs_add_up (rule_of conf) tells gives [] spec (files d) old between new had have has e (Ok report) (nothing (rule_of conf) tells gives e old between had have seen given) (λ tell. had_inputs spec d e (on tell)) log).1 report refl)
