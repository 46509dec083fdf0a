-- Records that are just two ids, as records.
use Rattle.std.proofs.Common.{◌≡◌, ◌≢◌, ℕ, ◌+◌, ◌-◌, ◌*◌, ◌^◌, ◌<◌, ◌≤◌, true, false, List, [], ◌∷◌, ◌++◌, Some, All, length, get_or, take, drop, refl, sym, ap, ◌∙◌, subst, arith, inl, inr, leb}
use Rattle.std.specs.Prelude.{◌⊎◌, if◌then◌else◌}
use Rattle.std.proofs.Math.Nat.{pow-le-pow_right}
use Rattle.edge_text.specs.declared.verdict.Verdict.TheVariants.{Skipped}
use Rattle.std.specs.List.{list_all}
use Rattle.std.specs.Char.{is_ascii_digit, digit_value}
use Rattle.std.specs.Str.Parse.{digits_value, AllDigits}
use Rattle.std.proofs.lemmas.Bool.{and_parts, and_from, cond-true, cond-false, le-leb, leb-true, ne_eqb, eq-eqb}
use Rattle.std.proofs.lemmas.List.{append_assoc, append-nil, drop_more, drop-drop, get_or-drop, take-append-drop, length-take-le, length-drop, length-append, get_or_at, get_or-append-add, take_at}
use Rattle.std.proofs.lemmas.List.Elements.{All-nil, All-cons, All-append}
use Rattle.std.proofs.lemmas.List.Folds.{list_all_more}
use Rattle.std.proofs.lemmas.Int.Digits.{digits_value_more, digits_value-lt}
use Rattle.peg_text.specs.Pairs.{key_of, value_of, pair_text, HasNoTab}
use Rattle.peg_text.specs.Records.{HasNoLf}
use Rattle.peg_text.proofs.DecimalLemmas.{digit_value-is, some_value}
use Rattle.peg_text.proofs.PairLemmas.{pairs_split_back}
use Rattle.edge_text.specs.declared.verdict.Verdict.{Verdict}
use Rattle.edge_text.specs.Verdicts.{without_cr, says_nothing, id_of, pair_verdict, verdict_of}
use Rattle.edge_text.specs.Plain.{part, HasDigits, EndsLine, HasPlainRecord}
use Rattle.edge_text.specs.Unfinished.{HasVerdict}

-- a digit is none of the bytes that have a meaning
digit_isnt : (b x : ℕ) → is_ascii_digit b ≡ true → (x < 48) ⊎ (57 < x) → b ≢ x
digit_isnt b x is out =
    let range = and_parts (leb 48 b) (leb b 57) is in
    let low : 48 ≤ b = leb-true 48 b range.0 in
    let high : b ≤ 57 = leb-true b 57 range.1 in
    λ same. elim out [ inl below ↦ omega arith | inr above ↦ omega arith ]

digits_avoid : (x : ℕ) (ds : List ℕ) → list_all is_ascii_digit ds ≡ true → (x < 48) ⊎ (57 < x) → All (λ b. b ≢ x) ds
digits_avoid x [] all out = All-nil (λ b. b ≢ x)
digits_avoid x (d ∷ ds) all out =
    let parts = and_parts _ _ all in
    All-cons (λ b. b ≢ x) d ds (digit_isnt d x parts.0 out) (digits_avoid x ds parts.1 out)

all_digits : (ds : List ℕ) → list_all is_ascii_digit ds ≡ true → AllDigits 10 ds
all_digits [] all = tt
all_digits (d ∷ ds) all =
    let parts = and_parts _ _ all in
    let range = and_parts (leb 48 d) (leb d 57) parts.0 in
    let low : 48 ≤ d = leb-true 48 d range.0 in
    let high : d ≤ 57 = leb-true d 57 range.1 in
    let same = digit_value-is d parts.0 in (omega (arith, same), all_digits ds parts.1)

-- the number that up to k digits write
value_below : (k : ℕ) (ds : List ℕ) → list_all is_ascii_digit ds ≡ true → length ds ≤ k → digits_value 10 ds < 10 ^ k
value_below k ds all few =
    let some : 0 < 10 = omega arith in
    let power : 10 ^ length ds ≤ 10 ^ k = pow-le-pow_right some few in
    omega (arith, digits_value-lt 10 ds (all_digits ds all), power)

id_of-digits : (ds : List ℕ) → list_all is_ascii_digit ds ≡ true → 0 < length ds → length ds ≤ 10 → id_of ds ≡ Some (digits_value 10 ds)
id_of-digits ds all some few =
    let small = value_below 10 ds all few in
    cond-true _ _ _ (le-leb _ _ few) ∙ some_value ds some (omega arith) all (omega (arith, small))

says_something : (ds more : List ℕ) → list_all is_ascii_digit ds ≡ true → 0 < length ds → says_nothing (ds ++ more) ≡ false
says_something [] more all some = absurd (omega arith)
says_something (d ∷ ds) more all some = ne_eqb d 35 (digit_isnt d 35 (and_parts _ _ all).0 (inl (omega arith)))

last_digit : (x : ℕ) (es : List ℕ) → list_all is_ascii_digit es ≡ true → 0 < length es → is_ascii_digit (get_or (x ∷ es) (length es) 0) ≡ true
last_digit x [] all some = absurd (omega arith)
last_digit x (e ∷ []) all some = (and_parts _ _ all).0
last_digit x (e ∷ f ∷ fs) all some = last_digit e (f ∷ fs) (and_parts _ _ all).1 (omega arith)

without_cr-pair : (ds es : List ℕ) → list_all is_ascii_digit es ≡ true → 0 < length es → without_cr (pair_text ds es) ≡ pair_text ds es
without_cr-pair ds es all some =
    let place : length (pair_text ds es) - 1 ≡ length ds + length es = omega (arith, length-append ds (9 ∷ es)) in
    let read = ap (λ k. get_or (pair_text ds es) k 0) place ∙ get_or-append-add ds (9 ∷ es) (length es) 0 in
    let other = digit_isnt (get_or (9 ∷ es) (length es) 0) 13 (last_digit 9 es all some) (inl (omega arith)) in
    cond-false _ _ _ (ne_eqb _ 13 (λ same. other (sym read ∙ same)))

without_cr-cr : (text : List ℕ) → without_cr (text ++ 13 ∷ []) ≡ text
without_cr-cr text =
    let place : length text ≡ length (text ++ 13 ∷ []) - 1 = omega (arith, length-append text (13 ∷ [])) in
    cond-true _ _ _ (eq-eqb _ 13 (get_or_at text 13 [] 0 (length (text ++ 13 ∷ []) - 1) place)) ∙ take_at text (13 ∷ []) (length (text ++ 13 ∷ []) - 1) place

-- what a record says without its CR
abbrev said_verdict : ℕ → List ℕ → Verdict
said_verdict n said = if says_nothing said then Skipped else pair_verdict n (id_of (key_of said)) (id_of (value_of said))

module _ (ds es cr : List ℕ) (first : list_all is_ascii_digit ds ≡ true) (second : list_all is_ascii_digit es ≡ true) (one : (cr ≡ []) ⊎ (cr ≡ 13 ∷ [])) where
  stripped : 0 < length es → without_cr (pair_text ds es ++ cr) ≡ pair_text ds es
  stripped some =
      elim one [
        | inl none ↦ ap (λ c. without_cr (pair_text ds es ++ c)) none ∙ ap without_cr (append-nil (pair_text ds es)) ∙ without_cr-pair ds es second some
        | inr is ↦ ap (λ c. without_cr (pair_text ds es ++ c)) is ∙ without_cr-cr (pair_text ds es)
      ]

  no_tab : HasNoTab ds
  no_tab = digits_avoid 9 ds first (inl (omega arith))

  pub verdict_of-plain : (n : ℕ) → 0 < length ds → length ds ≤ 10 → 0 < length es → length es ≤ 10 → verdict_of n (pair_text ds es ++ cr) ≡ pair_verdict n (Some (digits_value 10 ds)) (Some (digits_value 10 es))
  verdict_of-plain n some few some' few' =
      let parts = pairs_split_back ds es no_tab in
      ap (said_verdict n) (stripped some') ∙ cond-false _ _ _ (says_something ds (9 ∷ es) first some) ∙ ap (λ k. pair_verdict n (id_of k) (id_of (value_of (pair_text ds es)))) parts.0 ∙ ap (λ v. pair_verdict n (id_of ds) (id_of v)) parts.1 ∙ ap (λ s. pair_verdict n s (id_of es)) (id_of-digits ds first some few) ∙ ap (pair_verdict n (Some (digits_value 10 ds))) (id_of-digits es second some' few')

  no_lf_in_cr : HasNoLf cr
  no_lf_in_cr =
      elim one [
        | inl none ↦ subst HasNoLf (sym none) (All-nil (λ b. b ≢ 10))
        | inr is ↦ subst HasNoLf (sym is) (All-cons (λ b. b ≢ 10) 13 [] (λ same. absurd (omega arith)) (All-nil (λ b. b ≢ 10)))
      ]

  pub unbroken : HasNoLf (pair_text ds es ++ cr)
  unbroken =
      All-append (λ b. b ≢ 10) (pair_text ds es) cr (All-append (λ b. b ≢ 10) ds (9 ∷ es) (digits_avoid 10 ds first (inl (omega arith))) (All-cons (λ b. b ≢ 10) 9 es (λ same. absurd (omega arith)) (digits_avoid 10 es second (inl (omega arith))))) no_lf_in_cr

-- digits, as a part of the bytes

length-part : (bytes : List ℕ) (from end : ℕ) → from ≤ end → end ≤ length bytes → length (part bytes from end) ≡ end - from
length-part bytes from end low inside = length-take-le (end - from) (drop from bytes) (omega (arith, length-drop from bytes))

part_and_rest : (bytes : List ℕ) (from end : ℕ) → from ≤ end → drop from bytes ≡ part bytes from end ++ drop end bytes
part_and_rest bytes from end low =
    let place : from + (end - from) ≡ end = omega arith in
    sym (take-append-drop (end - from) (drop from bytes)) ∙ ap (λ r. part bytes from end ++ r) (drop-drop (end - from) from bytes ∙ ap (λ k. drop k bytes) place)

-- digits that may go on
pub record DigitsSoFar (bytes : List ℕ) (from end value : ℕ) : Type 0 where
  pub low : from ≤ end
  pub few : end ≤ from + 10
  pub inside : end ≤ length bytes
  pub digits : list_all is_ascii_digit (part bytes from end) ≡ true
  pub writes : value ≡ digits_value 10 (part bytes from end)

pub DigitsSoFar-none : (bytes : List ℕ) (from : ℕ) → from ≤ length bytes → DigitsSoFar bytes from from 0
DigitsSoFar-none bytes from inside =
    let none : from - from ≡ 0 = omega arith in
    record {
      low = omega arith;
      few = omega arith;
      inside = inside;
      digits = ap (λ k. list_all is_ascii_digit (take k (drop from bytes))) none;
      writes = sym (ap (λ k. digits_value 10 (take k (drop from bytes))) none);
    }

pub DigitsSoFar-small : (bytes : List ℕ) (from end value : ℕ) → DigitsSoFar bytes from end value → end < from + 10 → value < 10 ^ 9
DigitsSoFar-small bytes from end value so room =
    omega (arith, so.writes, value_below 9 (part bytes from end) so.digits (omega (arith, length-part bytes from end so.low so.inside)))

pub DigitsSoFar-more : (bytes : List ℕ) (from end value b : ℕ) → DigitsSoFar bytes from end value → end < length bytes → end < from + 10 → get_or bytes end 0 ≡ b → is_ascii_digit b ≡ true → DigitsSoFar bytes from (end + 1) (10 * value + (b - 48))
DigitsSoFar-more bytes from end value b so inside room is digit =
    let k : ℕ = end - from in
    let next : end + 1 - from ≡ k + 1 = omega (arith, so.low) in
    let place : from + k ≡ end = omega (arith, so.low) in
    let here : k < length (drop from bytes) = omega (arith, so.low, length-drop from bytes) in
    let read = get_or-drop from bytes k 0 ∙ ap (λ i. get_or bytes i 0) place ∙ is in
    let said : digits_value 10 (take (k + 1) (drop from bytes)) ≡ digits_value 10 (take k (drop from bytes)) * 10 + digit_value b = digits_value_more 10 (drop from bytes) k here ∙ ap (λ c. digits_value 10 (take k (drop from bytes)) * 10 + digit_value c) read in
    let same = digit_value-is b digit in
    record {
      low = omega (arith, so.low);
      few = omega arith;
      inside = omega arith;
      digits = ap (λ i. list_all is_ascii_digit (take i (drop from bytes))) next ∙ list_all_more is_ascii_digit (drop from bytes) k 0 here ∙ and_from _ _ so.digits (ap is_ascii_digit read ∙ digit);
      writes =
          let sum : 10 * value + (b - 48) ≡ digits_value 10 (take (k + 1) (drop from bytes)) = omega (arith, said, same, so.writes) in
          sum ∙ ap (λ i. digits_value 10 (take i (drop from bytes))) (sym next);
    }

pub HasDigits-from : (bytes : List ℕ) (from end value : ℕ) → DigitsSoFar bytes from end value → end ≢ from → HasDigits bytes from end value
HasDigits-from bytes from end value so some = record {
  some = omega (arith, so.low, some);
  few = so.few;
  inside = so.inside;
  digits = so.digits;
  writes = so.writes;
}

-- the end of a line

pub EndsLine-lf : (bytes : List ℕ) (end : ℕ) → end < length bytes → get_or bytes end 0 ≡ 10 → EndsLine bytes end (end + 1)
EndsLine-lf bytes end inside is = record {
  cr = [];
  one = inl refl;
  rest = drop_more bytes end 0 inside ∙ ap (λ b. b ∷ drop (end + 1) bytes) is;
  inside = omega arith;
}

pub EndsLine-cr : (bytes : List ℕ) (end : ℕ) → end + 1 < length bytes → get_or bytes end 0 ≡ 13 → get_or bytes (end + 1) 0 ≡ 10 → EndsLine bytes end (end + 2)
EndsLine-cr bytes end inside cr lf =
    let next : end + 1 + 1 ≡ end + 2 = omega arith in
    record {
      cr = 13 ∷ [];
      one = inr refl;
      rest =
          drop_more bytes end 0 (omega arith) ∙ ap (λ b. b ∷ drop (end + 1) bytes) cr ∙ ap (λ r. 13 ∷ r) (drop_more bytes (end + 1) 0 inside ∙ ap (λ b. b ∷ drop (end + 1 + 1) bytes) lf ∙ ap (λ k. 10 ∷ drop k bytes) next);
      inside = omega arith;
    }

-- the record of two ids

module _ (n : ℕ) (bytes : List ℕ) (start source target next : ℕ) (plain : HasPlainRecord bytes start source target next) where
  abbrev ds : List ℕ
  ds = part bytes start plain.tab

  abbrev es : List ℕ
  es = part bytes (plain.tab + 1) plain.end

  ds_len : length ds ≡ plain.tab - start
  ds_len = length-part bytes start plain.tab (omega (arith, plain.first.some)) plain.first.inside

  es_len : length es ≡ plain.end - (plain.tab + 1)
  es_len = length-part bytes (plain.tab + 1) plain.end (omega (arith, plain.second.some)) plain.second.inside

  abbrev line : List ℕ
  line = pair_text ds es ++ plain.ends.cr

  whole : drop start bytes ≡ line ++ (10 ∷ drop next bytes)
  whole =
      let more = 10 ∷ drop next bytes in
      let cr = plain.ends.cr in
      let tab : plain.tab < length bytes = omega (arith, plain.second.some, plain.second.inside) in
      part_and_rest bytes start plain.tab (omega (arith, plain.first.some)) ∙ ap (λ r. ds ++ r) (drop_more bytes plain.tab 0 tab ∙ ap (λ b. b ∷ drop (plain.tab + 1) bytes) plain.between ∙ ap (λ r. 9 ∷ r) (part_and_rest bytes (plain.tab + 1) plain.end (omega (arith, plain.second.some)) ∙ ap (λ r. es ++ r) plain.ends.rest)) ∙ sym (append_assoc (pair_text ds es) cr more ∙ append_assoc ds (9 ∷ es) (cr ++ more))

  pub HasVerdict-plain : HasVerdict n bytes start next (pair_verdict n (Some source) (Some target))
  HasVerdict-plain = record {
    line = line;
    begins = record {
      whole = whole;
      unbroken = unbroken ds es plain.ends.cr plain.first.digits plain.second.digits plain.ends.one;
    };
    judged =
        ap (λ s. pair_verdict n (Some s) (Some target)) plain.first.writes ∙ ap (λ t. pair_verdict n (Some (digits_value 10 ds)) (Some t)) plain.second.writes ∙ sym (verdict_of-plain ds es plain.ends.cr plain.first.digits plain.second.digits plain.ends.one n (omega (arith, ds_len, plain.first.some)) (omega (arith, ds_len, plain.first.few)) (omega (arith, es_len, plain.second.some)) (omega (arith, es_len, plain.second.few)));
    inside = plain.ends.inside;
  }
