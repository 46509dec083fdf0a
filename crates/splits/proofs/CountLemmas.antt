-- Lines that are counted byte by byte, and chunk by chunk.
use Rattle.std.proofs.Common.{◌≡◌, ℕ, ◌+◌, ◌<◌, ◌≤◌, List, [], ◌∷◌, ◌++◌, length, get_or, take, sym, ap, ◌∙◌, arith, inl, inr, eqb}
use Rattle.std.specs.Int.{from_bool}
use Rattle.std.proofs.lemmas.Bool.{cases_Bool, cond-true, cond-false}
use Rattle.std.proofs.lemmas.List.{take_more}
use Rattle.peg_text.specs.Records.{Cut, cut_of}
use Rattle.splits.proofs.CutLemmas.{length-joined, length-span, whole-append}

-- how many lines end in bytes
abbrev pub ended : List ℕ → ℕ
ended bytes = length (cut_of bytes).whole

one_byte : (b : ℕ) → ended (b ∷ []) ≡ from_bool (eqb b 10)
one_byte b =
    elim (cases_Bool (eqb b 10)) [
      | inl is ↦ ap (λ (c : Cut). length c.whole) (cond-true _ _ _ is) ∙ ap from_bool (sym is)
      | inr isnt ↦ ap (λ (c : Cut). length c.whole) (cond-false _ _ _ isnt) ∙ ap from_bool (sym isnt)
    ]

-- no more lines end than there are bytes
pub ended-few : (bytes : List ℕ) → ended bytes ≤ length bytes
ended-few bytes = omega (arith, length-joined bytes, length-span (cut_of bytes).whole)

-- one byte more
pub ended-take : (bytes : List ℕ) (i : ℕ) → i < length bytes → ended (take (i + 1) bytes) ≡ ended (take i bytes) + from_bool (eqb (get_or bytes i 0) 10)
ended-take bytes i inside =
    ap ended (take_more bytes i 0 inside) ∙ whole-append (take i bytes) (get_or bytes i 0 ∷ []) ∙ ap (λ n. ended (take i bytes) + n) (one_byte (get_or bytes i 0))

-- one chunk more
pub ended-chunk : (all chunk rest : List ℕ) → all ≡ chunk ++ rest → ended all ≡ ended chunk + ended rest
ended-chunk all chunk rest parts = ap ended parts ∙ whole-append chunk rest
