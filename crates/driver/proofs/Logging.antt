-- The log of a run is that of its calls.
use Rattle.std.proofs.Common.{◌≡◌, ℕ, ◌^◌, ◌<◌, ◌≤◌, List, [], None, Some, refl, sym, subst, arith}
use Rattle.std.specs.Prelude.{Bool, OnOk, Option, Result, Ok, Err, true, false}
use Rattle.std.specs.Result.{IsErrAnd}
use Rattle.dir_disk.specs.State.{IsSound, State}
use Rattle.dir_disk.specs.Moments.{Both, Through, Told, files}
use Rattle.dir_disk.specs.Children.{Given, Seen}
use Rattle.dir_disk.specs.declared.site.LogEntry.{LogEntry}
use Rattle.dir_disk.proofs.Through.{at_end}
use Rattle.committer.specs.Folders.{IsUnmarked}
use Rattle.committer.proofs.FolderLemmas.{some_is_there}
use Rattle.conf.specs.declared.reading.Conf.{Conf as Settings}
use Rattle.job.specs.Failing.{gained}
use Rattle.job.specs.Logged.{GoesOn}
use Rattle.mining.specs.declared.place.Place.TheVariants.{Vector}
use Rattle.mining.specs.declared.stop.Stop.{Stop}
use Rattle.mining.specs.declared.stop.Stop.TheVariants as Why
use Rattle.mining.specs.Between.{IsSure, KeepsVectors}
use Rattle.mining.specs.Failures.{IsOfNoTask, TellsOfAnswer, TellsOfStop}
use Rattle.mining.specs.Jobs.{FinishesWithin, GainsWithin, rank_after, rank_behind, rank_from, rank_of_base, rule_of}
use Rattle.mining.specs.Places.{folder_of}
use Rattle.mining.specs.Stops.{IsOfDisk}
use Rattle.mining.proofs.Failures.{cut_nothing, quiet_done, quiet_stop}
use Rattle.mining.proofs.JobsAdded.{after_none_finish, after_none_gain, behind_finish, behind_gain, done_so, finish_stays, finish_within, gain_stays, gain_within, if_done, none_finish, none_gain, nothing}
use Rattle.mining.proofs.JobsAfter.{after_none_done, after_none_past, finish_any, finish_past, gain_any, gain_early, gain_past, none_past}
use Rattle.driver.specs.Causes.{outcome_of}
use Rattle.driver.specs.Logged.{GoesOnAfter, LogsPast, RunsJobs, TellsOfOutcome}
use Rattle.driver.specs.Opening.{IsFromThere, IsGreatest, IsSettled, KeepsFinished, StandsLater, mark_of}
use Rattle.driver.specs.Outcomes.{outcome_of_stop}
use Rattle.driver.specs.Plain.{IsOfPlain}
use Rattle.driver.specs.declared.outcome.Outcome.{Outcome}
use Rattle.driver.specs.declared.outcome.Outcome.TheVariants.{Done, Usage, BadEdge, BigNode, TooLarge, OtherJob, OtherEdges, BadStore, TaskFailed, DiskFault, ReadFault, SayFault, NoMemory}
use Rattle.driver.proofs.RunLemmas.{not_done}
use Rattle.driver.proofs.Starting.{finished_vectors, from_again, from_settled, unmarked_none}

-- a refusal that was handed on is no answer of a call that is done
pub on_err : (P : Type 0) (result : Result (Unit {0}) Stop) (stop : Stop) → IsErrAnd result (λ e. e ≡ stop) → OnOk result P
on_err P (Ok done) stop is = absurd is
on_err P (Err e) stop is = tt

pub err_not_done : (result : Result (Unit {0}) Stop) (stop : Stop) → IsErrAnd result (λ e. e ≡ stop) → outcome_of result ≡ Done → ⊥
err_not_done (Ok done) stop is same = is
err_not_done (Err e) stop is same = not_done e same

-- where an outcome is that of a call that is done
pub done_is : (P : Type 0) (result : Result (Unit {0}) Stop) → OnOk result P → outcome_of result ≡ Done → P
done_is P (Ok done) on same = on
done_is P (Err stop) on same = absurd (not_done stop same)

-- ---- no child was started

-- what a call that started no child tells of its answer
pub quiet_answer : (old new : Seen) (result : Result (Unit {0}) Stop) (stop : Stop) → new ≡ old → IsErrAnd result (λ e. e ≡ stop) → IsOfNoTask stop → TellsOfAnswer (gained old.log new.log) result
quiet_answer old new (Ok done) stop same is names_none = absurd is
quiet_answer old new (Err e) stop same is names_none =
    quiet_stop old new e same (subst IsOfNoTask (sym is) names_none)

module _ (tells : Type 0) (gives : List (List ℕ) → List ℕ → List ℕ) (conf : Settings) where
  pub none_run : (low high : ℕ) (old new : Seen) (had has : List Given) (told : Told) (result : Result (Unit {0}) Stop) → low ≤ high → new ≡ old → (tells → has ≡ had) → RunsJobs tells gives conf low high old new had has told result
  none_run low high old new had has told result less seen given =
      record {
        gains = none_gain tells gives conf low high old new had has told less seen given;
        done = done_so (FinishesWithin tells gives conf low high old new had has told) result (none_finish tells gives conf low high old new had has told less seen given);
      }

  -- among more ranks
  pub run_within : (low mid high end : ℕ) (old new : Seen) (had has : List Given) (told : Told) (result : Result (Unit {0}) Stop) → low ≤ mid → high ≤ end → GainsWithin tells gives conf mid high old new had has told → OnOk result (FinishesWithin tells gives conf mid high old new had has told) → RunsJobs tells gives conf low end old new had has told result
  run_within low mid high end old new had has told result less more gains done =
      record {
        gains = gain_within tells gives conf low mid high end old new had has told less more gains;
        done = if_done (FinishesWithin tells gives conf mid high old new had has told) (FinishesWithin tells gives conf low end old new had has told) result (λ all. finish_within tells gives conf low mid high end old new had has told less more all) done;
      }

  -- a refusal of a call before
  pub run_refused : (low high end : ℕ) (old new : Seen) (had has : List Given) (told : Told) (result : Result (Unit {0}) Stop) (stop : Stop) → high ≤ end → IsErrAnd result (λ e. e ≡ stop) → GainsWithin tells gives conf low high old new had has told → RunsJobs tells gives conf low end old new had has told result
  run_refused low high end old new had has told result stop more is gains =
      record {
        gains = gain_within tells gives conf low low high end old new had has told (omega arith) more gains;
        done = on_err (FinishesWithin tells gives conf low end old new had has told) result stop is;
      }

  module _ (old between new : Seen) (had have has : List Given) where
    -- before, no child was started
    pub run_after : (low high : ℕ) (told : Told) (result : Result (Unit {0}) Stop) → low ≤ high → between ≡ old → (tells → have ≡ had) → RunsJobs tells gives conf low high between new have has told result → RunsJobs tells gives conf low high old new had has told result
    run_after low high told result less seen given runs =
        record {
          gains = after_none_gain tells gives conf old between new had have has told seen given low high less runs.gains;
          done = if_done (FinishesWithin tells gives conf low high between new have has told) (FinishesWithin tells gives conf low high old new had has told) result (λ all. after_none_finish tells gives conf old between new had have has told seen given low high less all) runs.done;
        }

    -- a call behind another that is done
    pub run_behind : (d e : Told) (low mid to until high : ℕ) (result : Result (Unit {0}) Stop) → mid ≤ to → until ≤ high → (tells → GoesOn d e) → FinishesWithin tells gives conf low mid old between had have d → GainsWithin tells gives conf to until between new have has e → OnOk result (FinishesWithin tells gives conf to until between new have has e) → RunsJobs tells gives conf low high old new had has e result
    run_behind d e low mid to until high result apart more on first gains done =
        record {
          gains = behind_gain tells gives conf old between new had have has d e low low mid to until high (omega arith) apart more on first gains;
          done = if_done (FinishesWithin tells gives conf to until between new have has e) (FinishesWithin tells gives conf low high old new had has e) result (λ all. behind_finish tells gives conf old between new had have has d e low low mid to until high (omega arith) apart more on first all) done;
        }

    -- then no child was started
    pub run_stays : (d e : Told) (low high : ℕ) (result : Result (Unit {0}) Stop) → (tells → GoesOn d e) → FinishesWithin tells gives conf low high old between had have d → new ≡ between → (tells → has ≡ have) → RunsJobs tells gives conf low high old new had has e result
    run_stays d e low high result on first seen given =
        record {
          gains = gain_stays tells gives conf old between new had have has d e low high on first seen given;
          done = done_so (FinishesWithin tells gives conf low high old new had has e) result (finish_stays tells gives conf old between new had have has d e low high on first seen given);
        }

-- ---- a run

-- the first vector was there, where all up to an iteration were
pub first_sure : (had : Bool) (most k : ℕ) (s : State) → IsSound s → (had ≡ true → IsSure (Vector 0) s) → (had ≡ false → IsUnmarked (folder_of (Vector 0)) s) → IsGreatest most s k → IsSure (Vector 0) s
first_sure true most k s sound has has_not greatest = has refl
first_sure false most k s sound has has_not greatest =
    absurd (some_is_there (mark_of (Vector 0) s) (greatest.whole 0 (omega arith)) (unmarked_none (Vector 0) s sound (has_not refl)))

pub there_again : (had : Bool) (most k : ℕ) (s t : State) → most < 10 ^ 10 → IsSound s → IsSound t → (had ≡ true → IsSure (Vector 0) s) → (had ≡ false → IsUnmarked (folder_of (Vector 0)) s) → IsSure (Vector 0) t → StandsLater s t → IsGreatest most s k → IsFromThere had most t (Some k)
there_again true most k s t small sound sound_then has has_not sure later greatest =
    from_again most s t (Some k) small sound sound_then (has refl) sure later greatest
there_again false most k s t small sound sound_then has has_not sure later greatest =
    absurd (some_is_there (mark_of (Vector 0) s) (greatest.whole 0 (omega arith)) (unmarked_none (Vector 0) s sound (has_not refl)))

-- a vector that is whole in each image is so still
pub vector_stays : (k : ℕ) (d e : Told) → k < 10 ^ 10 → Through (Both (KeepsFinished (files d))) d e → IsSure (Vector k) (files d) → IsSure (Vector k) (files e)
vector_stays k d e few steps sure =
    at_end (Both (KeepsVectors (files d))) (KeepsVectors (files d)) d e (finished_vectors d e steps) (λ j small there. there) (λ s t both. both.1) k few sure

pub there_few : (had : Bool) (most k : ℕ) (s : State) → IsFromThere had most s (Some k) → k ≤ most
there_few true most k s there = there.few
there_few false most k s there = absurd there

pub disk_no_task : (stop : Stop) → IsOfDisk stop → IsOfNoTask stop
disk_no_task (Why.TaskFailed task) is = is
disk_no_task (Why.BadStore path line) is = tt
disk_no_task (Why.BadEdge line) is = tt
disk_no_task (Why.BigNode line id) is = tt
disk_no_task Why.TooLarge is = tt
disk_no_task (Why.OtherJob line) is = tt
disk_no_task (Why.OtherEdges line) is = tt
disk_no_task Why.Disk is = tt
disk_no_task Why.Read is = tt
disk_no_task Why.Say is = tt
disk_no_task Why.NoMemory is = tt

pub after_settled : (tells : Type 0) (most : ℕ) (s t : State) (k : Option ℕ) → (tells → IsSettled s t) → GoesOnAfter tells most s k → GoesOnAfter tells most t k
after_settled tells most s t None settled after = tt
after_settled tells most s t (Some k) settled after =
    (after.0, from_settled most s t (Some k) (settled after.0) after.1)

-- what the entries tell of a stop they tell of its outcome
pub outcome_told : (entries : List LogEntry) (stop : Stop) → TellsOfStop entries stop → TellsOfOutcome entries (outcome_of_stop stop)
outcome_told entries (Why.TaskFailed task) told = told
outcome_told entries (Why.BadStore path line) told = told
outcome_told entries (Why.BadEdge line) told = told
outcome_told entries (Why.BigNode line id) told = told
outcome_told entries Why.TooLarge told = told
outcome_told entries (Why.OtherJob line) told = told
outcome_told entries (Why.OtherEdges line) told = told
outcome_told entries Why.Disk told = told
outcome_told entries Why.Read told = told
outcome_told entries Why.Say told = told
outcome_told entries Why.NoMemory told = told

-- `plain` starts no child
pub plain_told : (old new : Seen) (outcome : Outcome) → new ≡ old → IsOfPlain outcome → TellsOfOutcome (gained old.log new.log) outcome
plain_told old new Done same own = quiet_done old new same
plain_told old new (Usage word) same own = absurd own
plain_told old new (BadEdge line) same own = quiet_done old new same
plain_told old new (BigNode line id) same own = quiet_done old new same
plain_told old new TooLarge same own = quiet_done old new same
plain_told old new (OtherJob line) same own = absurd own
plain_told old new (OtherEdges line) same own = absurd own
plain_told old new (BadStore path line) same own = absurd own
plain_told old new (TaskFailed task) same own = absurd own
plain_told old new DiskFault same own = absurd own
plain_told old new ReadFault same own = quiet_done old new same
plain_told old new SayFault same own = quiet_done old new same
plain_told old new NoMemory same own =
    cut_nothing (gained old.log new.log) (quiet_done old new same)

module _ (tells : Type 0) (gives : List (List ℕ) → List ℕ → List ℕ) (conf : Settings) where
  -- no child was started
  pub none_logs : (k : Option ℕ) (old new : Seen) (had has : List Given) (told : Told) (outcome : Outcome) → new ≡ old → (tells → has ≡ had) → LogsPast tells gives conf k old new had has told outcome
  none_logs k old new had has told outcome seen given =
      record {
        gains = none_past tells gives conf k old new had has told seen given;
        done = λ is. record { jobs = []; rise = omega arith; each = tt; specs = []; are = tt; log = nothing (rule_of conf) tells gives told old new had has seen given };
      }

  -- before, no child was started
  pub logs_after : (k : Option ℕ) (old between new : Seen) (had have has : List Given) (told : Told) (outcome : Outcome) → between ≡ old → (tells → have ≡ had) → LogsPast tells gives conf k between new have has told outcome → LogsPast tells gives conf k old new had has told outcome
  logs_after k old between new had have has told outcome seen given logs =
      record {
        gains = after_none_past tells gives conf k old between new had have has told seen given logs.gains;
        done = λ is. after_none_done tells gives conf k old between new had have has told seen given (logs.done is);
      }

  -- what stands before the iterations was refused
  pub base_refused : (most : ℕ) (s : State) (k : Option ℕ) (old new : Seen) (had has : List Given) (told : Told) (outcome : Outcome) → GoesOnAfter tells most s k → (outcome ≡ Done → ⊥) → GainsWithin tells gives conf rank_of_base (rank_after 0) old new had has told → ((j : ℕ) → tells → IsGreatest most s j → GainsWithin tells gives conf rank_of_base (rank_from 0) old new had has told) → LogsPast tells gives conf k old new had has told outcome
  base_refused most s None old new had has told outcome after other gains early =
      record {
        gains = gain_any tells gives conf old new had has told rank_of_base (rank_after 0) (omega arith) gains;
        done = λ is. absurd (other is);
      }
  base_refused most s (Some j) old new had has told outcome after other gains early =
      record {
        gains = gain_early tells gives conf old new had has told j rank_of_base (early j after.0 after.1);
        done = λ is. absurd (other is);
      }

  -- the iterations come behind it
  pub base_then : (most : ℕ) (s : State) (k : Option ℕ) (old between new : Seen) (had have has : List Given) (d e : Told) (result : Result (Unit {0}) Stop) → GoesOnAfter tells most s k → (tells → GoesOn d e) → FinishesWithin tells gives conf rank_of_base (rank_after 0) old between had have d → ((j : ℕ) → tells → IsGreatest most s j → FinishesWithin tells gives conf rank_of_base (rank_from 0) old between had have d) → RunsJobs tells gives conf (rank_after 0) rank_behind between new have has e result → ((j : ℕ) → tells → IsGreatest most s j → RunsJobs tells gives conf (rank_after j) rank_behind between new have has e result) → LogsPast tells gives conf k old new had has e (outcome_of result)
  base_then most s None old between new had have has d e result after on first early jobs past =
      let all : RunsJobs tells gives conf rank_of_base rank_behind old new had has e result = run_behind tells gives conf old between new had have has d e rank_of_base (rank_after 0) (rank_after 0) rank_behind rank_behind result (omega arith) (omega arith) on first jobs.gains jobs.done in
      record {
        gains = gain_any tells gives conf old new had has e rank_of_base rank_behind (omega arith) all.gains;
        done = λ is. finish_any tells gives conf old new had has e rank_of_base rank_behind (omega arith) (done_is (FinishesWithin tells gives conf rank_of_base rank_behind old new had has e) result all.done is);
      }
  base_then most s (Some j) old between new had have has d e result after on first early jobs past =
      record {
        gains = gain_past tells gives conf old between new had have has d e on j rank_of_base (early j after.0 after.1) (past j after.0 after.1).gains;
        done = λ is. finish_past tells gives conf old between new had have has d e on j rank_of_base (early j after.0 after.1) (done_is (FinishesWithin tells gives conf (rank_after j) rank_behind between new have has e) result (past j after.0 after.1).done is);
      }
