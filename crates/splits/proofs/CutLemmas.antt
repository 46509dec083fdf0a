-- What stands between LFs, and how far into the bytes it reaches.
use Rattle.std.proofs.Common.{◌≡◌, ◌≢◌, ℕ, ◌+◌, ◌-◌, ◌≤◌, true, false, List, [], ◌∷◌, ◌++◌, length, get_or, refl, sym, ap, ◌∙◌, subst, arith, inl, inr, eqb, ltb}
use Rattle.std.specs.Prelude.{not}
use Rattle.std.proofs.lemmas.Bool.{true≢false, false≢true, cases_Bool, cases_lt, cond-true, cond-false, eqb-true, eqb-false, ne_eqb, lt-ltb}
use Rattle.std.proofs.lemmas.List.{append_assoc, append-nil, length-append, get_or_at, get_or-append-add}
use Rattle.std.proofs.lemmas.List.Concat.{flat_map-append}
use Rattle.std.proofs.lemmas.List.Elements.{All-nil, All-cons, All-head, All-tail, All-append}
use Rattle.peg_text.specs.Records.{Cut, onto_cut, cut_of, unended, records_of, HasNoLf}
use Rattle.peg_text.proofs.RecordLemmas.{cut_of-append, cut_of-line, cut_of-unbroken, cut_of-rest}
use Rattle.splits.specs.Lines.{lines_text}
use Rattle.splits.specs.Copying.{HasNoLfBetween, is_unended}

abbrev is_no_lf : ℕ → Type 0
is_no_lf b = b ≢ 10

-- how many bytes lines take, each with its LF
abbrev pub span : List (List ℕ) → ℕ
span [] = 0
span (line ∷ lines) = length line + 1 + span lines

pub length-lines_text : (lines : List (List ℕ)) → length (lines_text lines) ≡ span lines
length-lines_text [] = refl
length-lines_text (line ∷ lines) =
    length-append (line ++ 10 ∷ []) (lines_text lines) ∙ ap (λ n. n + length (lines_text lines)) (length-append line (10 ∷ [])) ∙ ap (λ n. length line + 1 + n) (length-lines_text lines)

onto_cut-joined : (b : ℕ) (whole : List (List ℕ)) (rest : List ℕ) → b ∷ (lines_text whole ++ rest) ≡ lines_text (onto_cut b whole rest).whole ++ (onto_cut b whole rest).rest
onto_cut-joined b [] rest = refl
onto_cut-joined b (line ∷ lines) rest = refl

-- the bytes are their whole lines, each with its LF, and then the rest
pub joined : (bytes : List ℕ) → bytes ≡ lines_text (cut_of bytes).whole ++ (cut_of bytes).rest
joined [] = refl
joined (b ∷ bs) =
    elim (cases_Bool (eqb b 10)) [
      | inl is ↦
          ap (λ l. b ∷ l) (joined bs) ∙ ap (λ c. c ∷ (lines_text (cut_of bs).whole ++ (cut_of bs).rest)) (eqb-true b 10 is) ∙ ap (λ (c : Cut). lines_text c.whole ++ c.rest) (sym (cond-true _ _ _ is))
      | inr isnt ↦
          ap (λ l. b ∷ l) (joined bs) ∙ onto_cut-joined b (cut_of bs).whole (cut_of bs).rest ∙ ap (λ (c : Cut). lines_text c.whole ++ c.rest) (sym (cond-false _ _ _ isnt))
    ]

pub length-span : (lines : List (List ℕ)) → length lines ≤ span lines
length-span [] = omega arith
length-span (line ∷ lines) = omega (arith, length-span lines)

pub length-joined : (bytes : List ℕ) → length bytes ≡ span (cut_of bytes).whole + length (cut_of bytes).rest
length-joined bytes =
    ap length (joined bytes) ∙ length-append (lines_text (cut_of bytes).whole) (cut_of bytes).rest ∙ ap (λ n. n + length (cut_of bytes).rest) (length-lines_text (cut_of bytes).whole)

-- where no LF stands from a place on, the whole lines end before it
lines_low : (lines : List (List ℕ)) (rest : List ℕ) (from to : ℕ) → span lines + length rest ≤ to → HasNoLfBetween (lines_text lines ++ rest) from to → span lines ≤ from
lines_low [] rest from to long unbroken = omega arith
lines_low (line ∷ lines) rest from to long unbroken =
    let more : List ℕ = lines_text lines ++ rest in
    let shape : lines_text (line ∷ lines) ++ rest ≡ line ++ (10 ∷ more) = append_assoc (line ++ 10 ∷ []) (lines_text lines) rest ∙ append_assoc line (10 ∷ []) more in
    let lf : get_or (lines_text (line ∷ lines) ++ rest) (length line) 0 ≡ 10 = ap (λ l. get_or l (length line) 0) shape ∙ get_or_at line 10 more 0 (length line) refl in
    elim (cases_lt (length line) from) [
      | inl early ↦
          let later : span lines ≤ from - (length line + 1) = lines_low lines rest (from - (length line + 1)) (to - (length line + 1)) (omega arith) (λ k low high there. unbroken (length line + 1 + k) (omega arith) (omega arith) (ap (λ l. get_or l (length line + 1 + k) 0) (append_assoc (line ++ 10 ∷ []) (lines_text lines) rest) ∙ ap (λ n. get_or ((line ++ 10 ∷ []) ++ more) (n + k) 0) (sym (length-append line (10 ∷ []))) ∙ get_or-append-add (line ++ 10 ∷ []) more k 0 ∙ there)) in
          omega arith
      | inr late ↦ absurd (unbroken (length line) late (omega arith) lf)
    ]

pub whole_low : (bytes : List ℕ) (from : ℕ) → HasNoLfBetween bytes from (length bytes) → span (cut_of bytes).whole ≤ from
whole_low bytes from unbroken =
    lines_low (cut_of bytes).whole (cut_of bytes).rest from (length bytes) (omega (arith, length-joined bytes)) (subst (λ l. HasNoLfBetween l from (length bytes)) (joined bytes) unbroken)

-- ---- more bytes

onto_cut-length : (b : ℕ) (whole : List (List ℕ)) (rest : List ℕ) → length (onto_cut b whole rest).whole ≡ length whole
onto_cut-length b [] rest = refl
onto_cut-length b (line ∷ lines) rest = refl

-- bytes without an LF in front make no line more
whole-behind : (front bytes : List ℕ) → HasNoLf front → length (cut_of (front ++ bytes)).whole ≡ length (cut_of bytes).whole
whole-behind [] bytes unbroken = refl
whole-behind (b ∷ front) bytes unbroken =
    ap (λ (c : Cut). length c.whole) (cond-false _ _ _ (ne_eqb b 10 (All-head is_no_lf b front unbroken))) ∙ onto_cut-length b (cut_of (front ++ bytes)).whole (cut_of (front ++ bytes)).rest ∙ whole-behind front bytes (All-tail is_no_lf b front unbroken)

pub whole-append : (bytes more : List ℕ) → length (cut_of (bytes ++ more)).whole ≡ length (cut_of bytes).whole + length (cut_of more).whole
whole-append bytes more =
    ap (λ (c : Cut). length c.whole) (cut_of-append bytes more) ∙ length-append (cut_of bytes).whole (cut_of ((cut_of bytes).rest ++ more)).whole ∙ ap (λ n. length (cut_of bytes).whole + n) (whole-behind (cut_of bytes).rest more (cut_of-rest bytes))

-- whether bytes are unended shows at their last one
pub unended-push : (bytes : List ℕ) (b : ℕ) → is_unended (bytes ++ b ∷ []) ≡ not (eqb b 10)
unended-push bytes b =
    ap (λ (c : Cut). ltb 0 (length c.rest)) (cut_of-append bytes (b ∷ [])) ∙ elim (cases_Bool (eqb b 10)) [
      | inl is ↦
          let lf : b ≡ 10 = eqb-true b 10 is in
          ap (λ c. ltb 0 (length (cut_of ((cut_of bytes).rest ++ c ∷ [])).rest)) lf ∙ ap (λ (c : Cut). ltb 0 (length c.rest)) (cut_of-line (cut_of bytes).rest [] (cut_of-rest bytes)) ∙ ap not (sym is)
      | inr isnt ↦
          let unbroken : HasNoLf ((cut_of bytes).rest ++ b ∷ []) = All-append is_no_lf (cut_of bytes).rest (b ∷ []) (cut_of-rest bytes) (All-cons is_no_lf b [] (eqb-false b 10 isnt) (All-nil is_no_lf)) in
          ap (λ (c : Cut). ltb 0 (length c.rest)) (cut_of-unbroken ((cut_of bytes).rest ++ b ∷ []) unbroken) ∙ lt-ltb 0 (length ((cut_of bytes).rest ++ b ∷ [])) (omega (arith, length-append (cut_of bytes).rest (b ∷ []))) ∙ ap not (sym isnt)
    ]

-- ---- the text of the records

pub records_text-ended : (bytes : List ℕ) → is_unended bytes ≡ false → (bytes ≡ lines_text (records_of bytes)) × (length (records_of bytes) ≡ length (cut_of bytes).whole)
records_text-ended bytes ended =
    ended_by (cut_of bytes).whole (cut_of bytes).rest bytes (joined bytes) ended
  where
    ended_by : (whole : List (List ℕ)) (rest bytes : List ℕ) → bytes ≡ lines_text whole ++ rest → ltb 0 (length rest) ≡ false → (bytes ≡ lines_text (whole ++ unended rest)) × (length (whole ++ unended rest) ≡ length whole)
    ended_by whole [] bytes is ended = (
      is ∙ append-nil (lines_text whole) ∙ ap lines_text (sym (append-nil whole)),
      ap length (append-nil whole),
    )
    ended_by whole (b ∷ rest) bytes is ended = absurd (true≢false (sym (lt-ltb 0 (length (b ∷ rest)) (omega arith)) ∙ ended))

pub records_text-unended : (bytes : List ℕ) → is_unended bytes ≡ true → (bytes ++ 10 ∷ [] ≡ lines_text (records_of bytes)) × (length (records_of bytes) ≡ length (cut_of bytes).whole + 1)
records_text-unended bytes goes_on =
    unended_by (cut_of bytes).whole (cut_of bytes).rest bytes (joined bytes) goes_on
  where
    unended_by : (whole : List (List ℕ)) (rest bytes : List ℕ) → bytes ≡ lines_text whole ++ rest → ltb 0 (length rest) ≡ true → (bytes ++ 10 ∷ [] ≡ lines_text (whole ++ unended rest)) × (length (whole ++ unended rest) ≡ length whole + 1)
    unended_by whole [] bytes is goes_on = absurd (false≢true goes_on)
    unended_by whole (b ∷ rest) bytes is goes_on = (
      ap (λ l. l ++ 10 ∷ []) is ∙ append_assoc (lines_text whole) (b ∷ rest) (10 ∷ []) ∙ ap (λ l. lines_text whole ++ l) (sym (append-nil ((b ∷ rest) ++ 10 ∷ []))) ∙ sym (flat_map-append (λ line. line ++ 10 ∷ []) whole ((b ∷ rest) ∷ [])),
      length-append whole ((b ∷ rest) ∷ []),
    )
