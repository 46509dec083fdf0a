-- What is shown of a record, while its bytes come.
use Rattle.std.proofs.Common.{◌≡◌, ℕ, ◌+◌, ◌-◌, ◌≤◌, ◌<◌, true, List, [], ◌∷◌, ◌++◌, Some, None, Result, Ok, Err, OnOk, length, get_or, take, drop, sym, ap, ◌∙◌, subst, inl, inr, arith, append_assoc, length-append, length-take}
use Rattle.std.specs.Prelude.{nat_lt}
use Rattle.std.proofs.lemmas.Bool.{cases_lt, lt-ltb, le-ltb, eqb-true, eq-eqb}
use Rattle.std.proofs.lemmas.List.{append-nil, take-append-le, take_all, take-append-drop, drop_more, length-drop, get_or-drop, get_or-append-add, get_or_append_left, get_or_past}
use Rattle.std.proofs.lemmas.List.Elements.{All-from_get_or}
use Rattle.std.proofs.Math.Seq.{take-append-add}
use Rattle.memchr.specs.Find.{IsLastByte, is_byte}
use Rattle.peg_text.specs.Records.{Cut, cut_of, HasNoLf}
use Rattle.peg_text.proofs.RecordLemmas.{cut_of-append}
use Rattle.child.specs.declared.front.Front.{Front}
use Rattle.child.specs.declared.fronts.Fronts.{Fronts}
use Rattle.child.specs.Shown.{most_shown, record_numbered, IsFrontOf, AreFronts}
use Rattle.child.proofs.CutLemmas.{cut_of-record, cut_of-held, Found, whole_piece}

abbrev Records : Type 0
Records = List (List ℕ)

pub where_done : {T E P Q : Type 0} (answer : Result T E) → (P → Q) → OnOk answer P → OnOk answer Q
where_done (Ok x) f p = f p
where_done (Err fault) f p = tt

-- the first bytes of two texts
take-both : (n : ℕ) (xs ys : List ℕ) → take n (xs ++ ys) ≡ take n xs ++ take (n - length xs) ys
take-both n xs ys =
    elim (cases_lt (length xs) n) [
      | inl low ↦
          let at : length xs + (n - length xs) ≡ n = omega arith in
          ap (λ (k : ℕ). take k (xs ++ ys)) (sym at) ∙ take-append-add xs ys (n - length xs) ∙ ap (λ (l : List ℕ). l ++ take (n - length xs) ys) (sym (take_all n xs (omega arith)))
      | inr high ↦
          let none : n - length xs ≡ 0 = omega arith in
          take-append-le n xs ys high ∙ sym (append-nil (take n xs)) ∙ ap (λ (k : ℕ). take n xs ++ take k ys) (sym none)
    ]

-- further bytes of a record
module _ (text more : List ℕ) (old new : Front) (room : ℕ) (is : IsFrontOf text old) (room_is : room ≡ most_shown - length old.bytes.items) where
  same_room : most_shown - length text ≡ room
  same_room = omega (arith, ap length is.bytes, length-take most_shown text)

  pub IsFrontOf-cut : room < length more → new.bytes.items ≡ old.bytes.items ++ take room more → new.is_cut ≡ true → IsFrontOf (text ++ more) new
  IsFrontOf-cut past grown cut = record {
    bytes =
        grown ∙ ap (λ (l : List ℕ). l ++ take room more) is.bytes ∙ ap (λ (k : ℕ). take most_shown text ++ take k more) (sym same_room) ∙ sym (take-both most_shown text more);
    is_cut = cut ∙ sym (lt-ltb most_shown (length (text ++ more)) (omega (arith, same_room, length-append text more)));
  }

  same_side : length more ≤ room → nat_lt most_shown (length text) ≡ nat_lt most_shown (length (text ++ more))
  same_side fits =
      elim (cases_lt most_shown (length text)) [
        | inl high ↦ lt-ltb most_shown (length text) high ∙ sym (lt-ltb most_shown (length (text ++ more)) (omega (arith, length-append text more)))
        | inr low ↦ le-ltb most_shown (length text) low ∙ sym (le-ltb most_shown (length (text ++ more)) (omega (arith, same_room, length-append text more)))
      ]

  pub IsFrontOf-more : length more ≤ room → new.bytes.items ≡ old.bytes.items ++ more → new.is_cut ≡ old.is_cut → IsFrontOf (text ++ more) new
  IsFrontOf-more fits grown same = record {
    bytes =
        grown ∙ ap (λ (l : List ℕ). l ++ more) is.bytes ∙ ap (λ (l : List ℕ). take most_shown text ++ l) (sym (take_all (most_shown - length text) more (omega (arith, same_room))))
        ∙ sym (take-both most_shown text more);
    is_cut = same ∙ is.is_cut ∙ same_side fits;
  }

-- a piece by its last LF
pub no_last_lf : (piece : List ℕ) → IsLastByte (is_byte 10) piece None → HasNoLf piece
no_last_lf piece none = All-from_get_or (λ b. b ≡ 10 → ⊥) piece 0 (λ k inside lf. none k (omega arith) inside (eq-eqb _ 10 lf))

pub record EndsAt (piece : List ℕ) (end : ℕ) : Type 0 where
  pub whole : piece ≡ take end piece ++ (10 ∷ drop (end + 1) piece)
  pub unbroken : HasNoLf (drop (end + 1) piece)

pub ends_at : (piece : List ℕ) (end : ℕ) → IsLastByte (is_byte 10) piece (Some end) → EndsAt piece end
ends_at piece end last =
    let there : drop end piece ≡ 10 ∷ drop (end + 1) piece = drop_more piece end 0 last.0.high ∙ ap (λ (b : ℕ). b ∷ drop (end + 1) piece) (eqb-true _ 10 last.1) in
    record {
      whole = sym (take-append-drop end piece) ∙ ap (λ (l : List ℕ). take end piece ++ l) there;
      unbroken = All-from_get_or (λ b. b ≡ 10 → ⊥) (drop (end + 1) piece) 0 (λ k inside lf.
          last.0.after (end + 1 + k) (omega arith) (omega (arith, length-drop (end + 1) piece)) (eq-eqb _ 10 (sym (get_or-drop (end + 1) piece k 0) ∙ lf)));
    }

-- the cut of bytes and a piece, by its last LF
pub cut_at : (bytes piece : List ℕ) (end : ℕ) → EndsAt piece end
    → cut_of (bytes ++ piece) ≡ record { whole = (cut_of (bytes ++ take end piece)).whole ++ ((cut_of (bytes ++ take end piece)).rest ∷ []); rest = drop (end + 1) piece }
cut_at bytes piece end e =
    let front : List ℕ = bytes ++ take end piece in
    let back : List ℕ = drop (end + 1) piece in
    let split : bytes ++ piece ≡ (front ++ (10 ∷ [])) ++ back =
    ap (λ (l : List ℕ). bytes ++ l) e.whole ∙ sym (append_assoc bytes (take end piece) (10 ∷ back)) ∙ sym (append_assoc front (10 ∷ []) back) in
    let first = cut_of-record front [] (λ k d inside. absurd (omega arith)) in
    ap cut_of split ∙ cut_of-held (front ++ (10 ∷ [])) back e.unbroken
    ∙ ap (λ (c : Cut). record { whole = c.whole ++ []; rest = c.rest ++ back }) first
    ∙ ap (λ (ws : Records). record { whole = ws; rest = back }) (append-nil ((cut_of front).whole ++ (((cut_of front).rest ++ []) ∷ [])) ∙ ap (λ (r : List ℕ). (cut_of front).whole ++ (r ∷ [])) (append-nil (cut_of front).rest))

record_numbered-last : (records : Records) (r : List ℕ) → record_numbered (length (records ++ (r ∷ []))) (records ++ (r ∷ [])) ≡ r
record_numbered-last records r =
    let at : length (records ++ (r ∷ [])) ≡ length ([] ∷ records) + 0 = omega (arith, length-append records (r ∷ [])) in
    ap (λ (n : ℕ). record_numbered n (records ++ (r ∷ []))) at ∙ get_or-append-add ([] ∷ records) (r ∷ []) 0 []

-- a piece that an LF ends in part
pub AreFronts-ended : (bytes piece : List ℕ) (end : ℕ) (last begun : Front) → EndsAt piece end → IsFrontOf (cut_of (bytes ++ take end piece)).rest last → IsFrontOf (drop (end + 1) piece) begun
    → AreFronts (bytes ++ piece) (record { last = last; begun = begun })
AreFronts-ended bytes piece end last begun e is more =
    let cut = cut_at bytes piece end e in
    let ended : Records = (cut_of (bytes ++ take end piece)).whole in
    let one : List ℕ = (cut_of (bytes ++ take end piece)).rest in
    let here = subst (λ (text : List ℕ). IsFrontOf text last) (sym (record_numbered-last ended one)) is in
    record {
      last = subst (λ (c : Cut). IsFrontOf (record_numbered (length c.whole) c.whole) last) (sym cut) here;
      begun = subst (λ (c : Cut). IsFrontOf c.rest begun) (sym cut) more;
    }

-- a piece without an LF
pub AreFronts-begun : (bytes piece : List ℕ) (old : Fronts) (begun : Front) → HasNoLf piece → AreFronts bytes old → IsFrontOf ((cut_of bytes).rest ++ piece) begun
    → AreFronts (bytes ++ piece) (record { last = old.last; begun = begun })
AreFronts-begun bytes piece old begun unbroken are more =
    let cut = cut_of-held bytes piece unbroken in
    let same : (cut_of (bytes ++ piece)).whole ≡ (cut_of bytes).whole = ap (λ (c : Cut). c.whole) cut ∙ append-nil (cut_of bytes).whole in
    record {
      last = subst (λ (ws : Records). IsFrontOf (record_numbered (length ws) ws) old.last) (sym same) are.last;
      begun = subst (λ (c : Cut). IsFrontOf c.rest begun) (sym cut) more;
    }

-- a record that stands before further ones
pub record_numbered-within : (line : ℕ) (records later : Records) → line ≤ length records → record_numbered line (records ++ later) ≡ record_numbered line records
record_numbered-within line records later inside = get_or_append_left ([] ∷ records) later [] line (omega arith)

-- the piece up to a place, and the record that ends at the next LF
module _ (bytes piece : List ℕ) (start len : ℕ) (text : List ℕ) (found : Found piece start len text) where
  abbrev so_far : List ℕ
  so_far = bytes ++ take start piece

  next_is : bytes ++ take (start + (len + 1)) piece ≡ so_far ++ (text ++ (10 ∷ []))
  next_is = ap (λ (l : List ℕ). bytes ++ l) found.front ∙ sym (append_assoc bytes (take start piece) (text ++ (10 ∷ [])))

  pub next_cut : cut_of (bytes ++ take (start + (len + 1)) piece) ≡ record { whole = (cut_of so_far).whole ++ (((cut_of so_far).rest ++ text) ∷ []); rest = [] }
  next_cut = ap cut_of next_is ∙ cut_of-record so_far text found.unbroken

  pub next_count : length (cut_of (bytes ++ take (start + (len + 1)) piece)).whole ≡ length (cut_of so_far).whole + 1
  next_count = ap (λ (c : Cut). length c.whole) next_cut ∙ length-append (cut_of so_far).whole (((cut_of so_far).rest ++ text) ∷ [])

  whole_is : (cut_of (bytes ++ piece)).whole ≡ ((cut_of so_far).whole ++ (((cut_of so_far).rest ++ text) ∷ [])) ++ (cut_of ((cut_of (bytes ++ take (start + (len + 1)) piece)).rest ++ drop (start + (len + 1)) piece)).whole
  whole_is =
      let n : ℕ = start + (len + 1) in
      ap (λ (l : List ℕ). (cut_of (bytes ++ l)).whole) (sym (take-append-drop n piece)) ∙ ap (λ (l : List ℕ). (cut_of l).whole) (sym (append_assoc bytes (take n piece) (drop n piece)))
      ∙ ap (λ (c : Cut). c.whole) (cut_of-append (bytes ++ take n piece) (drop n piece))
      ∙ ap (λ (c : Cut). c.whole ++ (cut_of ((cut_of (bytes ++ take n piece)).rest ++ drop n piece)).whole) next_cut

  pub found_is : (at : ℕ) → at ≡ length (cut_of so_far).whole → get_or (cut_of (bytes ++ piece)).whole at [] ≡ (cut_of so_far).rest ++ text
  found_is at is =
      let ended : Records = (cut_of so_far).whole in
      let one : List ℕ = (cut_of so_far).rest ++ text in
      let later : Records = (cut_of ((cut_of (bytes ++ take (start + (len + 1)) piece)).rest ++ drop (start + (len + 1)) piece)).whole in
      ap (λ (ws : Records). get_or ws at []) (whole_is ∙ append_assoc ended (one ∷ []) later)
      ∙ ap (λ (n : ℕ). get_or (ended ++ (one ∷ later)) n []) (is ∙ omega arith) ∙ get_or-append-add ended (one ∷ later) 0 []

-- no further LF stands in the piece
pub none_is : (bytes piece : List ℕ) (start at : ℕ) → HasNoLf (take (length piece - start) (drop start piece)) → length (cut_of (bytes ++ take start piece)).whole ≤ at
    → get_or (cut_of (bytes ++ piece)).whole at [] ≡ []
none_is bytes piece start at unbroken past =
    let so_far : List ℕ = bytes ++ take start piece in
    let rest : List ℕ = take (length piece - start) (drop start piece) in
    let split : bytes ++ piece ≡ so_far ++ rest = ap (λ (l : List ℕ). bytes ++ l) (sym (whole_piece piece start)) ∙ sym (append_assoc bytes (take start piece) rest) in
    let same : (cut_of (bytes ++ piece)).whole ≡ (cut_of so_far).whole = ap (λ (l : List ℕ). (cut_of l).whole) split ∙ ap (λ (c : Cut). c.whole) (cut_of-held so_far rest unbroken) ∙ append-nil (cut_of so_far).whole in
    ap (λ (ws : Records). get_or ws at []) same ∙ get_or_past (cut_of so_far).whole at [] past

-- the last record before a piece
pub last_is : (bytes piece : List ℕ) (line : ℕ) → line ≡ length (cut_of bytes).whole → record_numbered line (cut_of (bytes ++ piece)).whole ≡ record_numbered (length (cut_of bytes).whole) (cut_of bytes).whole
last_is bytes piece line is =
    ap (λ (n : ℕ). record_numbered n (cut_of (bytes ++ piece)).whole) is ∙ ap (λ (c : Cut). record_numbered (length (cut_of bytes).whole) c.whole) (cut_of-append bytes piece)
    ∙ record_numbered-within (length (cut_of bytes).whole) (cut_of bytes).whole (cut_of ((cut_of bytes).rest ++ piece)).whole (omega arith)

-- a record by its place
pub numbered_is : (bytes piece : List ℕ) (line at : ℕ) → line ≡ at + 1 → record_numbered line (cut_of (bytes ++ piece)).whole ≡ get_or (cut_of (bytes ++ piece)).whole at []
numbered_is bytes piece line at is = ap (λ (n : ℕ). record_numbered n (cut_of (bytes ++ piece)).whole) (is ∙ omega arith) ∙ get_or-append-add ([] ∷ []) (cut_of (bytes ++ piece)).whole at []
