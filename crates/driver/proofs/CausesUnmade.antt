-- A run that refuses its settings or its edges makes no folder.
use Rattle.std.proofs.Common.{◌≡◌, [], ◌∷◌, ⊎_elim, sym, ◌∙◌, subst}
use Rattle.std.specs.Result.{IsErrAnd}
use Rattle.std.specs.Prelude.{IfErr, Result, Ok, Err}
use Rattle.peg_base.specs.Names.{Names}
use Rattle.peg_base.proofs.Under.{under-append}
use Rattle.dir_disk.specs.Moments.{Both, Through, Told, files}
use Rattle.dir_disk.specs.State.{Allows, Held, IsSound, State, StandsOutside}
use Rattle.committer.specs.Folders.{IsUnmarked, Writes}
use Rattle.committer.specs.Paths.{success_name, success_of}
use Rattle.job.proofs.Finishing.{unmarked_after}
use Rattle.store.specs.Ingesting.{IsOfDirectory}
use Rattle.store.specs.declared.fault.IngestFault.{IngestFault}
use Rattle.store.specs.declared.fault.IngestFault.TheVariants as Ingest
use Rattle.mining.specs.declared.place.Place.{Place}
use Rattle.mining.specs.declared.place.Place.TheVariants.{Conf, Edges}
use Rattle.mining.specs.Places.{folder_of, IsInTable}
use Rattle.mining.specs.declared.stop.Stop.{Stop}
use Rattle.mining.specs.declared.stop.Stop.TheVariants.{TaskFailed, BadStore, BadEdge, BigNode, TooLarge, OtherJob, OtherEdges, Disk, Read, Say, NoMemory}
use Rattle.mining.specs.Stops.{IsOfDisk, IsOfJobs, IsOfMining, of_ingest}
use Rattle.mining.proofs.Names.{same_or_apart}
use Rattle.driver.specs.Causes.{IsRefusal, MakesNone, outcome_of}
use Rattle.driver.specs.Opening.{IsSettled}
use Rattle.driver.specs.Outcomes.{outcome_of_stop}
use Rattle.driver.proofs.Causes.{mining_jobs}
use Rattle.driver.proofs.Sealing.{fixed_only, outside_after}

-- ---- which stops are refusals

pub no_disk_refusal : (stop : Stop) → IsOfDisk stop → IsRefusal (outcome_of_stop stop) → ⊥
no_disk_refusal (TaskFailed task) is refusal = is
no_disk_refusal (BadStore path line) is refusal = is
no_disk_refusal (BadEdge line) is refusal = is
no_disk_refusal (BigNode line id) is refusal = is
no_disk_refusal TooLarge is refusal = is
no_disk_refusal (OtherJob line) is refusal = is
no_disk_refusal (OtherEdges line) is refusal = is
no_disk_refusal Disk is refusal = refusal
no_disk_refusal Read is refusal = is
no_disk_refusal Say is refusal = is
no_disk_refusal NoMemory is refusal = refusal

no_stop_refusal : (stop : Stop) → IsOfMining stop → IsRefusal (outcome_of_stop stop) → ⊥
no_stop_refusal (TaskFailed task) is refusal = refusal
no_stop_refusal (BadStore path line) is refusal = refusal
no_stop_refusal (BadEdge line) is refusal = is
no_stop_refusal (BigNode line id) is refusal = is
no_stop_refusal TooLarge is refusal = is
no_stop_refusal (OtherJob line) is refusal = is
no_stop_refusal (OtherEdges line) is refusal = is
no_stop_refusal Disk is refusal = refusal
no_stop_refusal Read is refusal = is
no_stop_refusal Say is refusal = refusal
no_stop_refusal NoMemory is refusal = refusal

pub no_mining_refusal : (result : Result (Unit {0}) Stop) → IfErr result IsOfMining → IsRefusal (outcome_of result) → ⊥
no_mining_refusal (Ok done) is refusal = refusal
no_mining_refusal (Err stop) is refusal = no_stop_refusal stop is refusal

pub no_jobs_refusal : (result : Result (Unit {0}) Stop) → IfErr result IsOfJobs → IsRefusal (outcome_of result) → ⊥
no_jobs_refusal (Ok done) is refusal = refusal
no_jobs_refusal (Err stop) is refusal = no_stop_refusal stop (mining_jobs stop is) refusal

pub no_directory_refusal : (fault : IngestFault) → IsRefusal (outcome_of_stop (of_ingest fault)) → IsOfDirectory fault → ⊥
no_directory_refusal (Ingest.BadEdge line) refusal is = is
no_directory_refusal (Ingest.BigNode line id) refusal is = is
no_directory_refusal Ingest.TooLarge refusal is = is
no_directory_refusal (Ingest.OtherEdges line) refusal is = is
no_directory_refusal Ingest.Disk refusal is = refusal
no_directory_refusal Ingest.Read refusal is = is
no_directory_refusal Ingest.NoMemory refusal is = refusal

-- a call answers a stop just so
pub refuses : (result : Result (Unit {0}) Stop) (stop : Stop) → IsErrAnd result (λ e. e ≡ stop) → IsRefusal (outcome_of result) → IsRefusal (outcome_of_stop stop)
refuses (Ok done) stop is refusal = absurd is
refuses (Err e) stop is refusal = subst (λ (s : Stop). IsRefusal (outcome_of_stop s)) is refusal

-- ---- the edges

pub refused_edges : (folder : Names) (d e : Told) (fault : IngestFault) → folder ≡ folder_of Edges → IsSound (files e) → IsUnmarked (folder_of Edges) (files d) → IsRefusal (outcome_of_stop (of_ingest fault)) → ((IsOfDirectory fault → ⊥) → Through (Writes folder (files d)) d e) → IsUnmarked (folder_of Edges) (files e)
refused_edges folder d e fault is sound unmarked refusal writes =
    unmarked_after (folder_of Edges) d e sound unmarked (subst (λ (f : Names). Through (Writes f (files d)) d e) is (writes (no_directory_refusal fault refusal)))

-- ---- over all folders

pub same_none : (s t : State) → t ≡ s → MakesNone s t
same_none s t same place is_there other unmarked = subst (IsUnmarked (folder_of place)) (sym same) unmarked

pub none_then : (s t u : State) → MakesNone s t → MakesNone t u → MakesNone s u
none_then s t u first second place is_there other unmarked =
    second place is_there other (first place is_there other unmarked)

still_unmarked : (folder : Names) (s t : State) → t (success_of folder) ≡ s (success_of folder) → IsUnmarked folder s → IsUnmarked folder t
still_unmarked folder s t same unmarked content allowed =
    unmarked content (subst (λ (h : Held). Allows h.may content) same allowed)

pub outside_none : (one : Place) (s t : State) → IsInTable one → StandsOutside (folder_of one) s t → (IsUnmarked (folder_of one) s → IsUnmarked (folder_of one) t) → MakesNone s t
outside_none one s t one_in outside here place is_there other unmarked =
    ⊎_elim (λ same. subst (λ (p : Place). IsUnmarked (folder_of p) t) (sym same) (here (subst (λ (p : Place). IsUnmarked (folder_of p) s) same unmarked))) (λ apart. still_unmarked (folder_of place) s t (outside (success_of (folder_of place)) (apart (success_of (folder_of place)) (under-append (folder_of place) (success_name ∷ [])))) unmarked) (same_or_apart place one is_there one_in)

pub conf_none : (s t : State) → StandsOutside (folder_of Conf) s t → MakesNone s t
conf_none s t outside place is_there other unmarked =
    ⊎_elim (λ same. absurd (other same)) (λ apart. still_unmarked (folder_of place) s t (outside (success_of (folder_of place)) (apart (success_of (folder_of place)) (under-append (folder_of place) (success_name ∷ [])))) unmarked) (same_or_apart place Conf is_there tt)

pub begun_none : (d e f : Told) → IsUnmarked (folder_of Edges) (files f) → Through (Both (StandsOutside (folder_of Conf) (files d))) d e → Through (Both (StandsOutside (folder_of Edges) (files e))) e f → MakesNone (files d) (files f)
begun_none d e f unmarked first second =
    none_then (files d) (files e) (files f) (conf_none (files d) (files e) (outside_after (folder_of Conf) d e first)) (outside_none Edges (files e) (files f) tt (outside_after (folder_of Edges) e f second) (λ was. unmarked))

pub settled_none : (s t : State) → IsSound s → IsSettled s t → MakesNone s t
settled_none s t sound settled place is_there other unmarked content allowed =
    let mark = success_of (folder_of place) in
    fixed_only t mark content (s mark).now (settled mark) allowed ∙ unmarked (s mark).now (sound mark)
