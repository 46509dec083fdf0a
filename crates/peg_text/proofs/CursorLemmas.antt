-- What a search for the next LF finds.
use Rattle.std.proofs.Common.{◌≡◌, ◌≢◌, ℕ, ◌+◌, ◌-◌, ◌<◌, ◌≤◌, Bool, true, false, List, [], ◌∷◌, ◌++◌, Some, None, Result, Ok, Err, IfOk, length, get_or, take, drop, refl, sym, ap, ◌∙◌, subst, arith, inl, inr}
use Rattle.std.specs.Bool.{OnTrue}
use Rattle.std.proofs.lemmas.Bool.{cases_lt, eqb-true, eq-eqb}
use Rattle.std.proofs.lemmas.List.{append_assoc, drop-drop, get_or-drop, length-drop}
use Rattle.std.proofs.lemmas.List.Elements.{All-from_get_or}
use Rattle.memchr.specs.Find.{IsFirstByte, is_byte}
use Rattle.peg_text.specs.Cursor.{IsSearched}
use Rattle.peg_text.specs.Records.{unended, records_of, HasNoLf, BeginsWithRecord, TakesFirstRecord}
use Rattle.peg_text.proofs.RecordLemmas.{record_at, records_of-line, records_of-unbroken, takes_first_record}

module _ (bytes hay : List ℕ) (start searched : ℕ) where
  -- no LF stands from `start` up to a place of the rest before which none was found
  before_place : (k : ℕ) → IsSearched bytes start searched → hay ≡ drop searched bytes → ((j : ℕ) → 0 ≤ j → j < k → is_byte 10 (get_or hay j 0) ≡ true → ⊥) → (j : ℕ) → start ≤ j → j < searched + k → get_or bytes j 0 ≢ 10
  before_place k done is none j low high there =
      elim (cases_lt j searched) [
        | inl early ↦ done.unbroken j low early there
        | inr late ↦
            let at : searched + (j - searched) ≡ j = omega arith in
            let read = ap (λ h. get_or h (j - searched) 0) is ∙ get_or-drop searched bytes (j - searched) 0 ∙ ap (λ i. get_or bytes i 0) at ∙ there in
            none (j - searched) (omega arith) (omega arith) (eq-eqb _ 10 read)
      ]

  pub all_searched : IsSearched bytes start searched → hay ≡ drop searched bytes → IsFirstByte (is_byte 10) hay None → IsSearched bytes start (length bytes)
  all_searched done is none =
      let len : length hay ≡ length bytes - searched = ap length is ∙ length-drop searched bytes in record {
        ordered = omega (arith, done.ordered, done.inside);
        inside = omega arith;
        unbroken = λ j low high. before_place (length hay) done is none j low (omega (arith, len, done.inside));
      }

  pub record_found : (k : ℕ) (held line : List ℕ) → IsSearched bytes start searched → hay ≡ drop searched bytes → drop start bytes ≡ held → line ≡ take (searched + k - start) (drop start bytes) → IsFirstByte (is_byte 10) hay (Some k) → BeginsWithRecord held line (drop (searched + k + 1) bytes)
  record_found k held line done is view cut first =
      let len : length hay ≡ length bytes - searched = ap length is ∙ length-drop searched bytes in
      let high : k < length hay = first.0.high in
      let n : ℕ = searched + k - start in
      let place : start + n ≡ searched + k = omega (arith, done.ordered) in
      let next : start + (n + 1) ≡ searched + k + 1 = omega (arith, done.ordered) in
      let inside : n < length (drop start bytes) = omega (arith, length-drop start bytes, done.ordered, done.inside, len) in
      let there = get_or-drop start bytes n 0 ∙ ap (λ i. get_or bytes i 0) place ∙ sym (ap (λ h. get_or h k 0) is ∙ get_or-drop searched bytes k 0) ∙ eqb-true _ 10 first.1 in
      let begins = record_at (drop start bytes) n inside (λ j below lf. before_place k done is first.0.before (start + j) (omega arith) (omega (arith, place)) (sym (get_or-drop start bytes j 0) ∙ lf)) there in record {
        whole = sym view ∙ begins.whole ∙ ap (λ l. l ++ (10 ∷ drop (n + 1) (drop start bytes))) (sym cut) ∙ ap (λ r. line ++ (10 ∷ r)) (drop-drop (n + 1) start bytes ∙ ap (λ i. drop i bytes) next);
        unbroken = subst HasNoLf (sym cut) begins.unbroken;
      }

-- all that is held was searched
pub rest_unbroken : (bytes : List ℕ) (start : ℕ) → IsSearched bytes start (length bytes) → HasNoLf (drop start bytes)
rest_unbroken bytes start done = All-from_get_or (λ b. b ≢ 10) (drop start bytes) 0 (λ k inside there.
    done.unbroken (start + k) (omega arith) (omega (arith, length-drop start bytes)) (sym (get_or-drop start bytes k 0) ∙ there))

-- nothing was searched yet
pub IsSearched-none : (bytes : List ℕ) (start : ℕ) → start ≤ length bytes → IsSearched bytes start start
IsSearched-none bytes start inside = record { ordered = omega arith; inside = inside; unbroken = λ k low high. absurd (omega arith) }

-- an answer that tells a record, in the two words for it
pub records_if_found : {E : Type 0} (answer : Result Bool E) (bytes line rest : List ℕ) → IfOk answer (λ found. OnTrue found (BeginsWithRecord bytes line rest)) → IfOk answer (λ found. OnTrue found (TakesFirstRecord bytes line rest))
records_if_found (Ok true) bytes line rest h = takes_first_record bytes line rest h
records_if_found (Ok false) bytes line rest h = tt
records_if_found (Err e) bytes line rest h = tt

-- the records so far, and those to come, are all the records
pub records_more : (done : List (List ℕ)) (all : List (List ℕ)) (bytes line rest : List ℕ) → done ++ records_of bytes ≡ all → BeginsWithRecord bytes line rest → (done ++ (line ∷ [])) ++ records_of rest ≡ all
records_more done all bytes line rest sofar begins =
    append_assoc done (line ∷ []) (records_of rest) ∙ ap (λ rs. done ++ rs) (sym (ap records_of begins.whole ∙ records_of-line line rest begins.unbroken)) ∙ sofar

-- what stands after the last LF is the last record, if it is anything
pub records_last : (done all : List (List ℕ)) (rest : List ℕ) → done ++ records_of rest ≡ all → HasNoLf rest → done ++ unended rest ≡ all
records_last done all rest sofar unbroken = ap (λ rs. done ++ rs) (sym (records_of-unbroken rest unbroken)) ∙ sofar

pub unended-some : (bytes : List ℕ) → 0 < length bytes → unended bytes ≡ bytes ∷ []
unended-some [] some = absurd (omega arith)
unended-some (b ∷ bs) some = refl
