-- What a run reads of its vectors, between the calls of the driver.
use Rattle.std.proofs.Common.{◌≡◌, ℕ, ◌+◌, ◌^◌, ◌<◌, ◌≤◌, Bool, true, false, ⊎_elim, List, None, Some, refl, sym, ◌∙◌, ap, subst, arith}
use Rattle.std.specs.Prelude.{◌&&◌, nat_le, if◌then◌else◌, Option, Result, Ok, Err, IfOk, OnOk}
use Rattle.std.proofs.lemmas.Bool.{cases_lt, leb-true}
use Rattle.dir_disk.specs.State.{Held, IsSound, State}
use Rattle.dir_disk.specs.Moments.{Both, Through, Told, files}
use Rattle.committer.specs.Folders.{IsUnmarked}
use Rattle.committer.proofs.FolderLemmas.{some_is_there}
use Rattle.conf.specs.declared.reading.Conf.{Conf as Settings}
use Rattle.mining.specs.declared.place.Place.TheVariants.{Vector}
use Rattle.mining.specs.declared.run.Reached.{Reached}
use Rattle.mining.specs.Places.{folder_of}
use Rattle.mining.specs.Flow.{ends_unchanged}
use Rattle.mining.specs.Between.{IsSure, KeepsWhole}
use Rattle.mining.specs.Read.{AreVectorsRead, HasRead, IsVectorRead}
use Rattle.mining.proofs.EnsureLemmas.{stays_after}
use Rattle.mining.proofs.ReadLemmas.{vector_stays, vectors_stay}
use Rattle.driver.specs.Opening.{IsFromAny, IsFromThere, IsSettled, StandsLater, first_read, mark_of}
use Rattle.driver.proofs.Logging.{there_again}
use Rattle.driver.proofs.Starting.{from_settled, settled_mark, sure_marked}

-- ---- where a run goes on, whatever else is there

pub any_settled : (most : ℕ) (s t : State) (k : Option ℕ) → IsSettled s t → IsFromAny most s k → IsFromAny most t k
any_settled most s t None settled none =
    (settled_mark (Vector 0) s t settled ∙ none.0, settled_mark (Vector 1) s t settled ∙ none.1)
any_settled most s t (Some k) settled greatest = from_settled most s t (Some k) settled greatest

pub any_there : (had : Bool) (most : ℕ) (s t : State) (k : Option ℕ) → most < 10 ^ 10 → IsSound s → IsSound t → (had ≡ true → IsSure (Vector 0) s) → (had ≡ false → IsUnmarked (folder_of (Vector 0)) s) → IsSure (Vector 0) t → StandsLater s t → IsFromAny most s k → IsFromThere had most t k
any_there true most s t None small sound sound_then has has_not sure later none =
    some_is_there (mark_of (Vector 0) s) (sure_marked (Vector 0) s sound (has refl)) none.0
any_there false most s t None small sound sound_then has has_not sure later none =
    ap (λ (h : Held). h.now) (later 1 (omega arith) (omega arith)) ∙ none.1
any_there had most s t (Some k) small sound sound_then has has_not sure later greatest =
    there_again had most k s t small sound sound_then has has_not sure later greatest

-- ---- what was read of the vector that a run goes on after

-- what was read stays so
pub read_on : {T : Type 0} {E : Type 0} (conf : Settings) (k : ℕ) (d e : Told) (result : Result T E) → k < 10 ^ 10 → Through (Both (KeepsWhole (files d))) d e → IsVectorRead conf k (files d) → OnOk result (IsVectorRead conf k (files e))
read_on conf k d e (Ok value) few stays read = vector_stays conf k (files d) (files e) few (stays_after d e stays) read
read_on conf k d e (Err error) few stays read = tt

one_vector : (conf : Settings) (k : ℕ) (s : State) → IsVectorRead conf k s → AreVectorsRead conf k k s
one_vector conf k s read j from up_to =
    let same : k ≡ j = omega (arith, from, up_to) in subst (λ (i : ℕ). IsVectorRead conf i s) same read

no_vector : (conf : Settings) (k : ℕ) (s : State) → AreVectorsRead conf (k + 1) k s
no_vector conf k s j from up_to = absurd (omega (arith, from, up_to))

counted : (conf : Settings) (k : ℕ) (s : State) (some ends : Bool) → (some ≡ true → ends ≡ true → IsVectorRead conf k s) → AreVectorsRead conf (if some && ends then k else k + 1) k s
counted conf k s true true read = one_vector conf k s (read refl refl)
counted conf k s true false read = no_vector conf k s
counted conf k s false ends read = no_vector conf k s

some_by : (k : ℕ) → nat_le 1 k ≡ true → 1 ≤ k
some_by k is = leb-true 1 k is

pub again_read : {E : Type 0} (conf : Settings) (j k : ℕ) (s : State) (result : Result Reached E) → j ≡ k → IfOk result (λ reached. reached.k ≡ j) → (1 ≤ j → ends_unchanged conf.command ≡ true → OnOk result (IsVectorRead conf j s)) → IfOk result (λ reached. AreVectorsRead conf (first_read conf.command (Some k)) reached.k s)
again_read conf j k s (Ok reached) one is read =
    subst (λ (i : ℕ). AreVectorsRead conf (first_read conf.command (Some k)) i s) (sym (is ∙ one)) (counted conf k s (nat_le 1 k) (ends_unchanged conf.command) (λ some ends. subst (λ (i : ℕ). IsVectorRead conf i s) one (read (let there = some_by k some in omega (arith, there, one)) ends)))
again_read conf j k s (Err error) one is read = is

pub afresh_read : {E : Type 0} (conf : Settings) (s : State) (result : Result Reached E) → IfOk result (λ reached. reached.k ≡ 0) → OnOk result (IsVectorRead conf 0 s) → IfOk result (λ reached. AreVectorsRead conf 0 reached.k s)
afresh_read conf s (Ok reached) is read =
    subst (λ (i : ℕ). AreVectorsRead conf 0 i s) (sym is) (one_vector conf 0 s read)
afresh_read conf s (Err error) is read = is

-- ---- and of those behind it

join : (conf : Settings) (low k : ℕ) (now : Option (List ℕ)) (s : State) → AreVectorsRead conf low k s → HasRead conf (k + 1) now s → HasRead conf low now s
join conf low k now s first rest = record {
  last = rest.last;
  vectors = λ j from up_to. ⊎_elim (λ before. first j from (omega (arith, before))) (λ behind. rest.vectors j behind up_to) (cases_lt j (k + 1));
  before = rest.before;
  ended = rest.ended;
}

pub joined : {E : Type 0} (conf : Settings) (low k : ℕ) (now : Option (List ℕ)) (d e : Told) (result : Result (Unit {0}) E) → k < 10 ^ 10 → Through (Both (KeepsWhole (files d))) d e → AreVectorsRead conf low k (files d) → OnOk result (HasRead conf (k + 1) now (files e)) → OnOk result (HasRead conf low now (files e))
joined conf low k now d e (Ok done) few stays first rest =
    join conf low k now (files e) (vectors_stay conf low k (files d) (files e) few (stays_after d e stays) first) rest
joined conf low k now d e (Err error) few stays first rest = tt
