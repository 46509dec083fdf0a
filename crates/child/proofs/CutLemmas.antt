-- Bytes that further ones follow, record by record.
use Rattle.std.proofs.Common.{◌≡◌, ℕ, ◌+◌, ◌-◌, ◌≤◌, ◌<◌, List, [], ◌∷◌, ◌++◌, Some, None, length, take, drop, refl, sym, ap, ◌∙◌, arith, append_assoc, length-append}
use Rattle.std.proofs.lemmas.Bool.{eq-eqb}
use Rattle.std.proofs.lemmas.List.{take_at, take_rest, take-append-drop, length-drop, length-take-le}
use Rattle.std.proofs.lemmas.List.Elements.{All-append, All-from_get_or}
use Rattle.memchr.specs.Find.{IsFirstByte, is_byte}
use Rattle.peg_text.specs.Records.{Cut, cut_of, HasNoLf}
use Rattle.peg_text.proofs.RecordLemmas.{cut_of-append, cut_of-line, cut_of-unbroken, cut_of-rest}
use Rattle.peg_text.proofs.CursorLemmas.{record_found, IsSearched-none}

both_unbroken : (held bs : List ℕ) → HasNoLf held → HasNoLf bs → HasNoLf (held ++ bs)
both_unbroken held bs first second = All-append (λ b. b ≡ 10 → ⊥) held bs first second

-- bytes, further ones without an LF, and an LF
pub cut_of-record : (so_far text : List ℕ) → HasNoLf text
    → cut_of (so_far ++ (text ++ (10 ∷ []))) ≡ record { whole = (cut_of so_far).whole ++ (((cut_of so_far).rest ++ text) ∷ []); rest = [] }
cut_of-record so_far text unbroken =
    let cut = cut_of so_far in
    cut_of-append so_far (text ++ (10 ∷ []))
    ∙ ap (λ (bytes : List ℕ). record { whole = cut.whole ++ (cut_of bytes).whole; rest = (cut_of bytes).rest }) (sym (append_assoc cut.rest text (10 ∷ [])))
    ∙ ap (λ (c : Cut). record { whole = cut.whole ++ c.whole; rest = c.rest }) (cut_of-line (cut.rest ++ text) [] (both_unbroken cut.rest text (cut_of-rest so_far) unbroken))

-- bytes and further ones without an LF
pub cut_of-held : (so_far text : List ℕ) → HasNoLf text → cut_of (so_far ++ text) ≡ record { whole = (cut_of so_far).whole ++ []; rest = (cut_of so_far).rest ++ text }
cut_of-held so_far text unbroken =
    let cut = cut_of so_far in
    cut_of-append so_far text
    ∙ ap (λ (c : Cut). record { whole = cut.whole ++ c.whole; rest = c.rest }) (cut_of-unbroken (cut.rest ++ text) (both_unbroken cut.rest text (cut_of-rest so_far) unbroken))

-- a piece, record by record
pub no_lf : (piece : List ℕ) → IsFirstByte (is_byte 10) piece None → HasNoLf piece
no_lf piece none = All-from_get_or (λ b. b ≡ 10 → ⊥) piece 0 (λ k inside lf. none k (omega arith) inside (eq-eqb _ 10 lf))

-- the record that was found at a place, and what is then the front of the piece
pub record Found (piece : List ℕ) (start len : ℕ) (text : List ℕ) : Type 0 where
  pub front : take (start + (len + 1)) piece ≡ take start piece ++ (text ++ (10 ∷ []))
  pub len_is : length text ≡ len
  pub inside : start + len + 1 ≤ length piece
  pub unbroken : HasNoLf text

pub found_at : (piece hay : List ℕ) (start len : ℕ) → start ≤ length piece → hay ≡ drop start piece → IsFirstByte (is_byte 10) hay (Some len) → Found piece start len (take (start + len - start) (drop start piece))
found_at piece hay start len low is first =
    let text : List ℕ = take (start + len - start) (drop start piece) in
    let begins = record_found piece hay start start len (drop start piece) text (IsSearched-none piece start low) is refl refl first in
    let rest : List ℕ = drop (start + len + 1) piece in
    let high : len < length hay = first.0.high in
    let fits : start + len < length piece = omega (arith, ap length is, length-drop start piece) in
    let len_is : length text ≡ len = length-take-le (start + len - start) (drop start piece) (omega (arith, length-drop start piece)) ∙ omega arith in
    let front : List ℕ = take start piece ++ (text ++ (10 ∷ [])) in
    let front_len : length front ≡ start + (len + 1) = omega (arith, len_is, length-append (take start piece) (text ++ (10 ∷ [])), length-append text (10 ∷ []), length-take-le start piece low) in
    let whole : piece ≡ front ++ rest =
    sym (take-append-drop start piece) ∙ ap (λ (l : List ℕ). take start piece ++ l) (begins.whole ∙ sym (append_assoc text (10 ∷ []) rest)) ∙ sym (append_assoc (take start piece) (text ++ (10 ∷ [])) rest) in
    record {
      front = ap (take (start + (len + 1))) whole ∙ take_at front rest (start + (len + 1)) front_len;
      len_is = len_is;
      inside = omega arith;
      unbroken = begins.unbroken;
    }

pub whole_piece : (piece : List ℕ) (start : ℕ) → take start piece ++ take (length piece - start) (drop start piece) ≡ piece
whole_piece piece start = ap (λ (l : List ℕ). take start piece ++ l) (take_rest piece start) ∙ take-append-drop start piece
