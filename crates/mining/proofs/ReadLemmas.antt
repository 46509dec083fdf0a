-- What was read stays as it was while whole folders stay.
use Rattle.std.proofs.Common.{◌≡◌, ℕ, zero, suc, ◌+◌, ◌^◌, ◌<◌, ◌≤◌, Bool, true, List, [], ◌∷◌, ◌++◌, None, Some, refl, sym, ◌∙◌, ap, subst, arith, ⊎_elim}
use Rattle.std.specs.Prelude.{Option, Result, Ok, Err, OnOk}
use Rattle.std.specs.List.{list_all}
use Rattle.std.proofs.lemmas.Bool.{cases_lt}
use Rattle.peg_base.specs.Names.{Names, under}
use Rattle.peg_base.proofs.Under.{under-append}
use Rattle.peg_text.specs.Records.{records_of}
use Rattle.dir_disk.specs.State.{Held, State, bytes_of}
use Rattle.dir_disk.specs.Streams.{added}
use Rattle.committer.specs.Paths.{part_of, part_name}
use Rattle.conf.specs.declared.reading.Conf.{Conf as Settings}
use Rattle.store.specs.declared.changes.Place.{Place as Spot}
use Rattle.store.specs.Parts.{AreGood, Record, numbered, records_below}
use Rattle.store.specs.Totals.{first_change, is_result, is_value}
use Rattle.job.specs.Inputs.{bytes_at_each}
use Rattle.report.specs.Lines.{done_text}
use Rattle.mining.specs.Table.{part_paths}
use Rattle.mining.specs.Flow.{total_in}
use Rattle.mining.specs.declared.place.Place.{Place}
use Rattle.mining.specs.declared.place.Place.TheVariants.{Vector, Results}
use Rattle.mining.specs.Places.{folder_of}
use Rattle.mining.specs.Between.{IsSure, KeepsWhole}
use Rattle.mining.specs.Read.{AreVectorsRead, HasEnded, HasRead, IsResultRead, IsStill, IsVectorRead}
use Rattle.mining.proofs.EnsureLemmas.{sure_kept}

-- nothing in the folder has changed
abbrev pub StandsIn : Names → State → State → Type 0
StandsIn folder s t = (path : Names) → under folder path ≡ true → t path ≡ s path

pub good_stays : (good : List ℕ → Bool) (folder : Names) (parts : ℕ) (s t : State) → StandsIn folder s t → AreGood good s folder parts → AreGood good t folder parts
good_stays good folder parts s t stands are part below =
    let same : t (part_of folder part) ≡ s (part_of folder part) = stands (part_of folder part) (under-append folder (part_name part ∷ [])) in
    subst (λ (h : Held). ((bytes : List ℕ) × (h.now ≡ Some bytes)) × (list_all good (records_of (bytes_of h.now)) ≡ true)) (sym same) (are part below)

pub records_stay : (folder : Names) (parts : ℕ) (s t : State) → StandsIn folder s t → records_below t folder parts ≡ records_below s folder parts
records_stay folder zero s t stands = refl
records_stay folder (suc part) s t stands =
    let same : t (part_of folder part) ≡ s (part_of folder part) = stands (part_of folder part) (under-append folder (part_name part ∷ [])) in
    ap (λ (records : List Record). records ++ numbered part 1 (records_of (bytes_of (t (part_of folder part)).now))) (records_stay folder part s t stands) ∙ ap (λ (h : Held). records_below s folder part ++ numbered part 1 (records_of (bytes_of h.now))) same

pub vector_stays : (conf : Settings) (k : ℕ) (s t : State) → k < 10 ^ 10 → KeepsWhole s t → IsVectorRead conf k s → IsVectorRead conf k t
vector_stays conf k s t few keeps read =
    let folder = folder_of (Vector k) in
    let stands : StandsIn folder s t = keeps (Vector k) few refl read.whole in
    record {
      whole = sure_kept (Vector k) s t few refl keeps read.whole;
      good = good_stays is_value folder conf.reducers s t stands read.good;
      still = subst (λ (records : List Record). IsStill conf k (first_change records)) (sym (records_stay folder conf.reducers s t stands)) read.still;
    }

pub vectors_stay : (conf : Settings) (low last : ℕ) (s t : State) → last < 10 ^ 10 → KeepsWhole s t → AreVectorsRead conf low last s → AreVectorsRead conf low last t
vectors_stay conf low last s t few keeps read k from up_to =
    vector_stays conf k s t (omega (arith, few, up_to)) keeps (read k from up_to)

-- the vectors so far, and the next one
pub one_more : (conf : Settings) (low last : ℕ) (s : State) → AreVectorsRead conf low last s → IsVectorRead conf (last + 1) s → AreVectorsRead conf low (last + 1) s
one_more conf low last s read next k from up_to =
    ⊎_elim (λ before. read k from (omega (arith, before))) (λ late. let same : last + 1 ≡ k = omega (arith, late, up_to) in subst (λ (j : ℕ). IsVectorRead conf j s) same next) (cases_lt k (last + 1))

-- ---- what one call has read

pub vector_read : (conf : Settings) (k : ℕ) (s : State) (folder : Names) (first : Option Spot) → folder ≡ folder_of (Vector k) → IsSure (Vector k) s → AreGood is_value s folder conf.reducers → first ≡ first_change (records_below s folder conf.reducers) → IsStill conf k first → IsVectorRead conf k s
vector_read conf k s folder first is sure good seen still =
    record {
      whole = sure;
      good = subst (λ (names : Names). AreGood is_value s names conf.reducers) is good;
      still = subst (IsStill conf k) (seen ∙ ap (λ (names : Names). first_change (records_below s names conf.reducers)) is) still;
    }

pub result_read : (conf : Settings) (s : State) (folder : Names) (total : ℕ) → folder ≡ folder_of Results → AreGood is_result s folder conf.reducers → total_in conf.command (bytes_at_each s (part_paths Results conf.reducers)) ≡ Some total → IsResultRead conf total s
result_read conf s folder total is good totals =
    record { good = subst (λ (names : Names). AreGood is_result s names conf.reducers) is good; totals = totals }

pub ended : {E : Type 0} (result : Result (Unit {0}) E) (conf : Settings) (last : ℕ) (settled : Bool) (total : ℕ) (before mid now : Option (List ℕ)) (s : State) → mid ≡ before → IsResultRead conf total s → OnOk result (now ≡ added mid (done_text conf last settled total)) → OnOk result (HasEnded conf last before now s)
ended (Ok done) conf last settled total before mid now s same read said =
    record { settled = settled; total = total; said = said ∙ ap (λ (o : Option (List ℕ)). added o (done_text conf last settled total)) same; result = read }
ended (Err e) conf last settled total before mid now s same read said = tt

pub has_read : {E : Type 0} (result : Result (Unit {0}) E) (conf : Settings) (low last : ℕ) (before now : Option (List ℕ)) (s : State) → AreVectorsRead conf low last s → OnOk result (HasEnded conf last before now s) → OnOk result (HasRead conf low now s)
has_read (Ok done) conf low last before now s vectors is =
    record { last = last; vectors = vectors; before = before; ended = is }
has_read (Err e) conf low last before now s vectors is = tt
