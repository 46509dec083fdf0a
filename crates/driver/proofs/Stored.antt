-- What a refusal names, between the calls of the driver.
use Rattle.std.proofs.Common.{◌≡◌, ℕ, List, inl, refl, sym, subst}
use Rattle.std.specs.Result.{IsErrAnd}
use Rattle.std.specs.List.{AllByRecursion}
use Rattle.std.specs.Prelude.{IfErr, Result, Ok, Err}
use Rattle.peg_base.specs.Names.{Names}
use Rattle.dir_disk.specs.State.{Content, State}
use Rattle.conf.specs.declared.commands.Form.{Form}
use Rattle.conf.specs.declared.commands.Form.TheVariants.{Base}
use Rattle.conf.specs.declared.reading.Conf.{Conf as Settings}
use Rattle.store.specs.Parts.{IsFirstMissing}
use Rattle.store.specs.declared.fault.IngestFault.{IngestFault}
use Rattle.store.specs.declared.fault.IngestFault.TheVariants as Ingest
use Rattle.store.specs.declared.fault.StoreFault.{StoreFault}
use Rattle.store.specs.declared.fault.StoreFault.TheVariants as Store
use Rattle.mining.specs.declared.place.Place.TheVariants.{Edges, Matrix, Nodes, Vector}
use Rattle.mining.specs.Places.{folder_of}
use Rattle.mining.specs.Table.{inputs_of, paths_read}
use Rattle.mining.specs.Between.{IsSure}
use Rattle.mining.specs.declared.stop.Stop.{Stop}
use Rattle.mining.specs.declared.stop.Stop.TheVariants.{TaskFailed, BadStore, BadEdge, BigNode, TooLarge, OtherJob, OtherEdges, Disk, Read, Say, NoMemory}
use Rattle.mining.specs.Stops.{IsOfDisk, of_ingest, of_store}
use Rattle.mining.specs.Stored.{IfBadStore, IsNoBadStore, IsNotAsMade, LacksFile}
use Rattle.mining.proofs.StoredLemmas.{IsWholeInput, disk_names_none, err_is, input_lacks, named_weaker}
use Rattle.driver.specs.declared.outcome.Outcome.{Outcome}
use Rattle.driver.specs.Opening.{IsJudgedJob}
use Rattle.driver.specs.Outcomes.{outcome_of_stop}
use Rattle.driver.specs.Plain.{IsOfPlain}
use Rattle.driver.proofs.Due.{edges_not_conf, nodes_not_conf}
use Rattle.driver.proofs.RunLemmas.{same_stop}

-- ---- faults that name no place

pub ingest_names_none : (P : Names → ℕ → Type 0) (fault : IngestFault) → IfBadStore P (of_ingest fault)
ingest_names_none P (Ingest.BadEdge line) = tt
ingest_names_none P (Ingest.BigNode line id) = tt
ingest_names_none P Ingest.TooLarge = tt
ingest_names_none P (Ingest.OtherEdges line) = tt
ingest_names_none P Ingest.Disk = tt
ingest_names_none P Ingest.Read = tt
ingest_names_none P Ingest.NoMemory = tt

pub store_names_none : (P : Names → ℕ → Type 0) (fault : StoreFault) → IfBadStore P (of_store fault)
store_names_none P Store.Disk = tt
store_names_none P Store.NoMemory = tt

-- settings that are judged
pub judged_names_none : (P : Names → ℕ → Type 0) (content : Content) (text : List ℕ) (stop : Stop) → IsJudgedJob content text (Err stop) → IfBadStore P stop
judged_names_none P content text (TaskFailed task) judged = tt
judged_names_none P content text (BadStore path line) judged = absurd judged
judged_names_none P content text (BadEdge line) judged = tt
judged_names_none P content text (BigNode line id) judged = tt
judged_names_none P content text TooLarge judged = tt
judged_names_none P content text (OtherJob line) judged = tt
judged_names_none P content text (OtherEdges line) judged = tt
judged_names_none P content text Disk judged = tt
judged_names_none P content text Read judged = tt
judged_names_none P content text Say judged = tt
judged_names_none P content text NoMemory judged = tt

-- ---- the exits of a call

-- it answers an error that names no place
pub exits_none : {T : Type 0} (P : Names → ℕ → Type 0) (result : Result T Stop) (stop : Stop) → IsErrAnd result (λ e. e ≡ stop) → IsNoBadStore stop → IfErr result (IfBadStore P)
exits_none P result stop is none =
    err_is P result stop is (named_weaker (λ path line. ⊥) P (λ path line never. absurd never) stop none)

pub exits_disk : {T : Type 0} (P : Names → ℕ → Type 0) (result : Result T Stop) (stop : Stop) → IsErrAnd result (λ e. e ≡ stop) → IsOfDisk stop → IfErr result (IfBadStore P)
exits_disk P result stop is of = err_is P result stop is (disk_names_none P stop of)

pub err_disk : {T : Type 0} (P : Names → ℕ → Type 0) (result : Result T Stop) → IfErr result IsOfDisk → IfErr result (IfBadStore P)
err_disk P (Ok value) of = tt
err_disk P (Err stop) of = disk_names_none P stop of

-- ---- what isn't there

pub edges_lack : (conf : Settings) (s : State) (path : Names) → IsSure Edges s → IsFirstMissing s (folder_of Edges) 1 path → IsNotAsMade conf s path 0
edges_lack conf s path sure missing =
    inl (record {
      place = Edges;
      is_there = tt;
      not_conf = λ is. edges_not_conf is;
      whole = sure;
      part = missing.part;
      inside = missing.inside;
      named = missing.named;
      none = missing.none;
      number = refl;
    })

pub matrix_lacks : (conf : Settings) (last : ℕ) (s : State) → conf.form ≡ Base → IsSure Edges s → (path : Names) (line : ℕ) → LacksFile (paths_read conf last Matrix) s path line → IsNotAsMade conf s path line
matrix_lacks conf last s form sure =
    input_lacks conf last Matrix s (subst (λ (f : Form). AllByRecursion (IsWholeInput s) (inputs_of f last Matrix)) (sym form) ((tt, λ is. edges_not_conf is, sure), tt))

pub first_lacks : (conf : Settings) (last : ℕ) (s : State) → IsSure Nodes s → (path : Names) (line : ℕ) → LacksFile (paths_read conf last (Vector 0)) s path line → IsNotAsMade conf s path line
first_lacks conf last s sure = input_lacks conf last (Vector 0) s ((tt, λ is. nodes_not_conf is, sure), tt)

-- ---- outcomes

-- the outcome of a stop names the place that the stop names
pub outcome_names : (P : Names → ℕ → Type 0) (stop : Stop) (path : Names) (line : ℕ) → IfBadStore P stop → outcome_of_stop stop ≡ Outcome.BadStore path line → P path line
outcome_names P stop path line named is = subst (IfBadStore P) (same_stop stop (BadStore path line) is) named

pub plain_names_none : (result : Outcome) (path : Names) (line : ℕ) → IsOfPlain result → result ≡ Outcome.BadStore path line → ⊥
plain_names_none result path line own is = subst IsOfPlain is own
