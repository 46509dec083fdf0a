-- The jobs of a run are those of its calls, and none of an iteration that was there.
use Rattle.std.proofs.Common.{◌≡◌, ℕ, ◌+◌, ◌*◌, ◌<◌, ◌≤◌, List, [], ◌∷◌, ◌++◌, None, Some, arith}
use Rattle.std.specs.Prelude.{Option}
use Rattle.std.specs.List.{AllByRecursion}
use Rattle.dir_disk.specs.Moments.{Told}
use Rattle.dir_disk.specs.Children.{Given, Seen}
use Rattle.conf.specs.declared.commands.Form.{Form}
use Rattle.conf.specs.declared.reading.Conf.{Conf as Settings}
use Rattle.job.specs.declared.spec.JobSpec.{JobSpec}
use Rattle.job.specs.Logged.{GoesOn}
use Rattle.job.specs.Stretches.{FinishesJobs, GainsJobs}
use Rattle.job.proofs.Listing.{each_append}
use Rattle.mining.specs.declared.place.Place.{Place}
use Rattle.mining.specs.declared.place.Place.TheVariants.{Conf, Edges, Nodes, Placed, Matrix, Blocks, Messages, Vector, Joined, Results}
use Rattle.mining.specs.Places.{rank_of}
use Rattle.mining.specs.Jobs.{FinishesPast, FinishesWithin, GainsPast, GainsWithin, IsJobPast, IsOfForm, IsPast, Job, JobsPast, JobsWithin, Rise, rank_after, rank_behind, rank_from, rule_of}
use Rattle.mining.proofs.JobsAdded.{are_append, finish_later, finishes_append, gains_append, gains_of, nothing, rank_messages, rank_vector, rise_append, rise_from, rise_to}

pub rise_less : (low : ℕ) (jobs : List Job) (high : ℕ) → Rise low jobs high → low ≤ high
rise_less low [] high rise = rise
rise_less low (job ∷ jobs) high rise =
    let rest = rise_less (rank_of job.place + 1) jobs high rise.1 in omega (arith, rest, rise.0)

-- a folder before the iterations, and one behind those up to k
early_past : (k : ℕ) (place : Place) → rank_of place < 6 → IsPast (Some k) place
early_past k Conf less = tt
early_past k Edges less = tt
early_past k Nodes less = tt
early_past k Placed less = tt
early_past k Matrix less = tt
early_past k Blocks less = tt
early_past k (Messages j) less =
    let is = rank_messages j in omega (arith, is, less)
early_past k (Vector j) less = let is = rank_vector j in omega (arith, is, less)
early_past k Joined less = tt
early_past k Results less = tt

late_past : (k : ℕ) (place : Place) → 8 + 2 * k ≤ rank_of place → IsPast (Some k) place
late_past k Conf less = tt
late_past k Edges less = tt
late_past k Nodes less = tt
late_past k Placed less = tt
late_past k Matrix less = tt
late_past k Blocks less = tt
late_past k (Messages j) less =
    let is = rank_messages j in omega (arith, is, less)
late_past k (Vector j) less = let is = rank_vector j in omega (arith, is, less)
late_past k Joined less = tt
late_past k Results less = tt

early_all : (form : Form) (k low : ℕ) (jobs : List Job) → Rise low jobs 6 → AllByRecursion (IsOfForm form) jobs → AllByRecursion (IsJobPast form (Some k)) jobs
early_all form k low [] rise each = tt
early_all form k low (job ∷ jobs) rise each =
    let less = rise_less (rank_of job.place + 1) jobs 6 rise.1 in ((each.0, early_past k job.place (omega (arith, less))), early_all form k (rank_of job.place + 1) jobs rise.1 each.1)

late_all : (form : Form) (k low : ℕ) (jobs : List Job) (high : ℕ) → 8 + 2 * k ≤ low → Rise low jobs high → AllByRecursion (IsOfForm form) jobs → AllByRecursion (IsJobPast form (Some k)) jobs
late_all form k low [] high from rise each = tt
late_all form k low (job ∷ jobs) high from rise each =
    let less = rise.0 in ((each.0, late_past k job.place (omega (arith, less, from))), late_all form k (rank_of job.place + 1) jobs high (omega (arith, less, from)) rise.1 each.1)

any_all : (form : Form) (jobs : List Job) → AllByRecursion (IsOfForm form) jobs → AllByRecursion (IsJobPast form None) jobs
any_all form [] each = tt
any_all form (job ∷ jobs) each = ((each.0, tt), any_all form jobs each.1)

module _ (conf : Settings) (low high : ℕ) (L : List JobSpec → Type 0) (some : JobsWithin conf low high L) where
  abbrev any_past : high ≤ rank_behind → JobsPast conf None L
  any_past less =
      record {
        jobs = some.jobs;
        rise = rise_from 0 low some.jobs rank_behind (omega arith) (rise_to low some.jobs high rank_behind less some.rise);
        each = any_all conf.form some.jobs some.each;
        specs = some.specs;
        are = some.are;
        log = some.log;
      }

abbrev early_jobs : (conf : Settings) (k low : ℕ) (L : List JobSpec → Type 0) → JobsWithin conf low (rank_from 0) L → JobsPast conf (Some k) L
early_jobs conf k low L some =
    record {
      jobs = some.jobs;
      rise = rise_from 0 low some.jobs rank_behind (omega arith) (rise_to low some.jobs (rank_from 0) rank_behind (omega arith) some.rise);
      each = early_all conf.form k low some.jobs some.rise some.each;
      specs = some.specs;
      are = some.are;
      log = some.log;
    }

abbrev both_jobs : (conf : Settings) (k low : ℕ) (L M N : List JobSpec → Type 0) → ((specs others : List JobSpec) → L specs → M others → N (specs ++ others)) → JobsWithin conf low (rank_from 0) L → JobsWithin conf (rank_after k) rank_behind M → JobsPast conf (Some k) N
both_jobs conf k low L M N both first next =
    record {
      jobs = first.jobs ++ next.jobs;
      rise = rise_from 0 low (first.jobs ++ next.jobs) rank_behind (omega arith) (rise_append low first.jobs (rank_after k) next.jobs rank_behind (rise_to low first.jobs (rank_from 0) (rank_after k) (omega arith) first.rise) next.rise);
      each = each_append (IsJobPast conf.form (Some k)) first.jobs next.jobs (early_all conf.form k low first.jobs first.rise first.each) (late_all conf.form k (rank_after k) next.jobs rank_behind (omega arith) next.rise next.each);
      specs = first.specs ++ next.specs;
      are = are_append conf first.jobs first.specs next.jobs next.specs first.are next.are;
      log = both first.specs next.specs first.log next.log;
    }

module _ (tells : Type 0) (gives : List (List ℕ) → List ℕ → List ℕ) (conf : Settings) where
  module _ (old new : Seen) (had has : List Given) (told : Told) where
    pub gain_any : (low high : ℕ) → high ≤ rank_behind → GainsWithin tells gives conf low high old new had has told → GainsPast tells gives conf None old new had has told
    gain_any low high less some =
        any_past conf low high (λ specs. GainsJobs (rule_of conf) tells gives specs old new had has told) some less

    pub finish_any : (low high : ℕ) → high ≤ rank_behind → FinishesWithin tells gives conf low high old new had has told → FinishesPast tells gives conf None old new had has told
    finish_any low high less some =
        any_past conf low high (λ specs. FinishesJobs (rule_of conf) tells gives specs old new had has told) some less

    pub gain_early : (k low : ℕ) → GainsWithin tells gives conf low (rank_from 0) old new had has told → GainsPast tells gives conf (Some k) old new had has told
    gain_early k low some =
        early_jobs conf k low (λ specs. GainsJobs (rule_of conf) tells gives specs old new had has told) some

  module _ (old between new : Seen) (had have has : List Given) (d e : Told) (on : tells → GoesOn d e) (k low : ℕ) (first : FinishesWithin tells gives conf low (rank_from 0) old between had have d) where
    pub gain_past : GainsWithin tells gives conf (rank_after k) rank_behind between new have has e → GainsPast tells gives conf (Some k) old new had has e
    gain_past next =
        both_jobs conf k low (λ specs. FinishesJobs (rule_of conf) tells gives specs old between had have e) (λ specs. GainsJobs (rule_of conf) tells gives specs between new have has e) (λ specs. GainsJobs (rule_of conf) tells gives specs old new had has e) (λ specs others. gains_append (rule_of conf) tells gives e old between new had have has specs others) (finish_later tells gives conf low (rank_from 0) old between had have d e on first) next

    pub finish_past : FinishesWithin tells gives conf (rank_after k) rank_behind between new have has e → FinishesPast tells gives conf (Some k) old new had has e
    finish_past next =
        both_jobs conf k low (λ specs. FinishesJobs (rule_of conf) tells gives specs old between had have e) (λ specs. FinishesJobs (rule_of conf) tells gives specs between new have has e) (λ specs. FinishesJobs (rule_of conf) tells gives specs old new had has e) (λ specs others. finishes_append (rule_of conf) tells gives e old between new had have has specs others) (finish_later tells gives conf low (rank_from 0) old between had have d e on first) next

-- no child was started
pub none_past : (tells : Type 0) (gives : List (List ℕ) → List ℕ → List ℕ) (conf : Settings) (k : Option ℕ) (old new : Seen) (had has : List Given) (told : Told) → new ≡ old → (tells → has ≡ had) → GainsPast tells gives conf k old new had has told
none_past tells gives conf k old new had has told seen given =
    record { jobs = []; rise = omega arith; each = tt; specs = []; are = tt; log = gains_of (rule_of conf) tells gives told old new had has [] (nothing (rule_of conf) tells gives told old new had has seen given) }

abbrev past_as : (conf : Settings) (k : Option ℕ) (L M : List JobSpec → Type 0) → ((specs : List JobSpec) → L specs → M specs) → JobsPast conf k L → JobsPast conf k M
past_as conf k L M turn some =
    record { jobs = some.jobs; rise = some.rise; each = some.each; specs = some.specs; are = some.are; log = turn some.specs some.log }

-- before, no child was started
module _ (tells : Type 0) (gives : List (List ℕ) → List ℕ → List ℕ) (conf : Settings) (k : Option ℕ) (old between new : Seen) (had have has : List Given) (told : Told) (seen : between ≡ old) (given : tells → have ≡ had) where
  pub after_none_past : GainsPast tells gives conf k between new have has told → GainsPast tells gives conf k old new had has told
  after_none_past some =
      past_as conf k (λ specs. GainsJobs (rule_of conf) tells gives specs between new have has told) (λ specs. GainsJobs (rule_of conf) tells gives specs old new had has told) (λ specs log. gains_append (rule_of conf) tells gives told old between new had have has [] specs (nothing (rule_of conf) tells gives told old between had have seen given) log) some

  pub after_none_done : FinishesPast tells gives conf k between new have has told → FinishesPast tells gives conf k old new had has told
  after_none_done some =
      past_as conf k (λ specs. FinishesJobs (rule_of conf) tells gives specs between new have has told) (λ specs. FinishesJobs (rule_of conf) tells gives specs old new had has told) (λ specs log. finishes_append (rule_of conf) tells gives told old between new had have has [] specs (nothing (rule_of conf) tells gives told old between had have seen given) log) some
