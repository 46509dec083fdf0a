-- What stands between LFs.
use Rattle.std.proofs.Common.{◌≡◌, ◌≢◌, ℕ, ◌+◌, ◌<◌, false, List, [], ◌∷◌, ◌++◌, length, get_or, take, drop, refl, sym, ap, ◌∙◌, subst, arith, inl, inr, eqb}
use Rattle.std.specs.List.{concat, flat_map}
use Rattle.std.proofs.lemmas.Bool.{cases_Bool, cond-true, cond-false, eqb-false, ne_eqb}
use Rattle.std.proofs.lemmas.List.{append_assoc, append-nil, drop_more, take-append-drop, length-take-le, get_or-take}
use Rattle.std.proofs.lemmas.List.Elements.{All-nil, All-cons, All-head, All-tail, All-from_get_or}
use Rattle.peg_text.specs.Records.{Cut, onto_cut, cut_of, unended, records_of, HasNoLf, BeginsWithRecord, TakesFirstRecord, records_in_pieces, CuttingKeepsRecords, LfParts, LinesReadBack}

abbrev is_no_lf : ℕ → Type 0
is_no_lf b = b ≢ 10

-- a cut as it is where its rest goes on with further bytes
abbrev pub going_on : Cut → List ℕ → Cut
going_on cut more = record {
  whole = cut.whole ++ (cut_of (cut.rest ++ more)).whole;
  rest = (cut_of (cut.rest ++ more)).rest;
}

-- bytes that begin with a line and its LF
pub cut_of-line : (line rest : List ℕ) → HasNoLf line → cut_of (line ++ (10 ∷ rest)) ≡ record { whole = line ∷ (cut_of rest).whole; rest = (cut_of rest).rest }
cut_of-line [] rest unbroken = refl
cut_of-line (b ∷ line) rest unbroken =
    cond-false _ _ _ (ne_eqb b 10 (All-head is_no_lf b line unbroken)) ∙ ap (λ (c : Cut). onto_cut b c.whole c.rest) (cut_of-line line rest (All-tail is_no_lf b line unbroken))

-- bytes without an LF
pub cut_of-unbroken : (bytes : List ℕ) → HasNoLf bytes → cut_of bytes ≡ record { whole = []; rest = bytes }
cut_of-unbroken [] unbroken = refl
cut_of-unbroken (b ∷ bs) unbroken =
    cond-false _ _ _ (ne_eqb b 10 (All-head is_no_lf b bs unbroken)) ∙ ap (λ (c : Cut). onto_cut b c.whole c.rest) (cut_of-unbroken bs (All-tail is_no_lf b bs unbroken))

onto_cut-going_on : (b : ℕ) (whole : List (List ℕ)) (rest more : List ℕ) → eqb b 10 ≡ false → onto_cut b (whole ++ (cut_of (rest ++ more)).whole) (cut_of (rest ++ more)).rest ≡ going_on (onto_cut b whole rest) more
onto_cut-going_on b [] rest more isnt = sym (cond-false _ _ _ isnt)
onto_cut-going_on b (r ∷ rs) rest more isnt = refl

-- a cut of bytes that go on: what was whole stays so, and the rest goes on
pub cut_of-append : (bytes more : List ℕ) → cut_of (bytes ++ more) ≡ going_on (cut_of bytes) more
cut_of-append [] more = refl
cut_of-append (b ∷ bs) more =
    let later = cut_of-append bs more in
    elim (cases_Bool (eqb b 10)) [
      | inl is ↦
          cond-true _ _ _ is ∙ ap (λ (c : Cut). record { whole = [] ∷ c.whole; rest = c.rest }) later ∙ ap (λ (c : Cut). going_on c more) (sym (cond-true _ _ _ is))
      | inr isnt ↦
          cond-false _ _ _ isnt ∙ ap (λ (c : Cut). onto_cut b c.whole c.rest) later ∙ onto_cut-going_on b (cut_of bs).whole (cut_of bs).rest more isnt ∙ ap (λ (c : Cut). going_on c more) (sym (cond-false _ _ _ isnt))
    ]

onto_cut-unbroken : (b : ℕ) (whole : List (List ℕ)) (rest : List ℕ) → eqb b 10 ≡ false → HasNoLf rest → HasNoLf (onto_cut b whole rest).rest
onto_cut-unbroken b [] rest isnt unbroken = All-cons is_no_lf b rest (eqb-false b 10 isnt) unbroken
onto_cut-unbroken b (r ∷ rs) rest isnt unbroken = unbroken

-- no LF stands after the last LF
pub cut_of-rest : (bytes : List ℕ) → HasNoLf (cut_of bytes).rest
cut_of-rest [] = All-nil is_no_lf
cut_of-rest (b ∷ bs) =
    elim (cases_Bool (eqb b 10)) [
      | inl is ↦ subst (λ (c : Cut). HasNoLf c.rest) (sym (cond-true _ _ _ is)) (cut_of-rest bs)
      | inr isnt ↦
          subst (λ (c : Cut). HasNoLf c.rest) (sym (cond-false _ _ _ isnt)) (onto_cut-unbroken b (cut_of bs).whole (cut_of bs).rest isnt (cut_of-rest bs))
    ]

-- the records of bytes that go on
pub records_of-append : (bytes more : List ℕ) → records_of (bytes ++ more) ≡ (cut_of bytes).whole ++ records_of ((cut_of bytes).rest ++ more)
records_of-append bytes more =
    ap (λ (c : Cut). c.whole ++ unended c.rest) (cut_of-append bytes more) ∙ append_assoc (cut_of bytes).whole (cut_of ((cut_of bytes).rest ++ more)).whole (unended (cut_of ((cut_of bytes).rest ++ more)).rest)

pub records_of-line : (line rest : List ℕ) → HasNoLf line → records_of (line ++ (10 ∷ rest)) ≡ line ∷ records_of rest
records_of-line line rest unbroken = ap (λ (c : Cut). c.whole ++ unended c.rest) (cut_of-line line rest unbroken)

pub records_of-unbroken : (bytes : List ℕ) → HasNoLf bytes → records_of bytes ≡ unended bytes
records_of-unbroken bytes unbroken = ap (λ (c : Cut). c.whole ++ unended c.rest) (cut_of-unbroken bytes unbroken)

-- the first record, in the two words for it
pub takes_first_record : (bytes line rest : List ℕ) → BeginsWithRecord bytes line rest → TakesFirstRecord bytes line rest
takes_first_record bytes line rest begins = λ more.
    ap (λ bs. records_of (bs ++ more)) begins.whole ∙ ap records_of (append_assoc line (10 ∷ rest) more) ∙ records_of-line line (rest ++ more) begins.unbroken

-- the same of the whole records
pub cut_of-begins : (bytes line rest : List ℕ) → BeginsWithRecord bytes line rest → cut_of bytes ≡ record { whole = line ∷ (cut_of rest).whole; rest = (cut_of rest).rest }
cut_of-begins bytes line rest begins = ap cut_of begins.whole ∙ cut_of-line line rest begins.unbroken

-- an LF, and none before it
pub record_at : (bytes : List ℕ) (k : ℕ) → k < length bytes → ((j : ℕ) → j < k → get_or bytes j 0 ≢ 10) → get_or bytes k 0 ≡ 10 → BeginsWithRecord bytes (take k bytes) (drop (k + 1) bytes)
record_at bytes k inside before is = record {
  whole = sym (take-append-drop k bytes) ∙ ap (λ bs. take k bytes ++ bs) (drop_more bytes k 0 inside ∙ ap (λ b. b ∷ drop (k + 1) bytes) is);
  unbroken = All-from_get_or is_no_lf (take k bytes) 0 (λ j low.
      let few : length (take k bytes) ≡ k = length-take-le k bytes (omega arith) in
      let below : j < k = omega arith in
      let apart : get_or bytes j 0 ≢ 10 = before j below in
      λ there. apart (sym (get_or-take k bytes j 0 below) ∙ there));
}

pub records_in_pieces-is : (held : List ℕ) (pieces : List (List ℕ)) → HasNoLf held → records_in_pieces held pieces ≡ records_of (held ++ concat pieces)
records_in_pieces-is held [] unbroken = sym (records_of-unbroken held unbroken) ∙ ap records_of (sym (append-nil held))
records_in_pieces-is held (piece ∷ pieces) unbroken =
    let cut = cut_of (held ++ piece) in
    ap (λ rs. cut.whole ++ rs) (records_in_pieces-is cut.rest pieces (cut_of-rest (held ++ piece))) ∙ sym (records_of-append (held ++ piece) (concat pieces)) ∙ ap records_of (append_assoc held piece (concat pieces))

pub cutting_keeps_records : CuttingKeepsRecords
cutting_keeps_records pieces = records_in_pieces-is [] pieces (All-nil is_no_lf)

pub lf_parts : LfParts
lf_parts front back =
    records_of-append front (10 ∷ back) ∙ ap (λ rs. (cut_of front).whole ++ rs) (records_of-line (cut_of front).rest back (cut_of-rest front))

pub lines_read_back : LinesReadBack
lines_read_back [] all = refl
lines_read_back (line ∷ lines) all =
    let further = flat_map (λ (l : List ℕ). l ++ (10 ∷ [])) lines in
    ap records_of (append_assoc line (10 ∷ []) further) ∙ records_of-line line further (All-head HasNoLf line lines all) ∙ ap (λ rs. line ∷ rs) (lines_read_back lines (All-tail HasNoLf line lines all))
