-- What is read of a run, and what is left of it.
use Rattle.std.proofs.Common.{◌≡◌, ◌≢◌, ◌∙◌, ap, sym, refl, ℕ, ◌+◌, ◌≤◌, Bool, true, false, List, [], ◌∷◌, ◌++◌, length, map, take, drop, arith}
use Rattle.std.specs.Bool.{OnTrue}
use Rattle.std.proofs.lemmas.Bool.{false≢true}
use Rattle.std.proofs.lemmas.List.{append_assoc, drop-drop, drop_all, length-drop, length-take, take_min, take-append-drop}
use Rattle.dir_disk.specs.Moments.{Told, Through, Both, files}
use Rattle.dir_disk.proofs.Through.{then_goes, kept, weaker}
use Rattle.peg_text.specs.Records.{HasNoLf, unended}
use Rattle.peg_text.proofs.RecordLemmas.{records_of-unbroken}
use Rattle.pairs.specs.Pairs.{Pair, pair_of, pairs_in}

-- ---- reading changes nothing

pub same_state : (a b : Told) → Through (Both (λ state. state ≡ files a)) a b → files b ≡ files a
same_state a b steps = kept (λ state. state ≡ files a) a b steps refl

pub same_then : (a b c : Told) → Through (Both (λ state. state ≡ files a)) a b → Through (Both (λ state. state ≡ files b)) b c → Through (Both (λ state. state ≡ files a)) a c
same_then a b c first second =
    let same = same_state a b first in
    then_goes (Both (λ state. state ≡ files a)) a b c first (weaker (Both (λ state. state ≡ files b)) (Both (λ state. state ≡ files a)) b c (λ s t both. (both.0 ∙ same, both.1 ∙ same)) second)

-- ---- a piece more

pub read_held : (bytes held piece new : List ℕ) (place most more : ℕ) → piece ≡ take most (drop place bytes) → new ≡ held ++ piece → more ≡ length piece → new ++ drop (place + more) bytes ≡ held ++ drop place bytes
read_held bytes held piece new place most more read is long =
    let rest : List ℕ = drop place bytes in
    let len = ap length read ∙ length-take most rest in
    let front : piece ≡ take (length piece) rest = read ∙ sym (take_min most rest) ∙ ap (λ n. take n rest) (sym len) in
    let back : drop (place + more) bytes ≡ drop (length piece) rest = ap (λ n. drop (place + n) bytes) long ∙ sym (drop-drop (length piece) place bytes) in
    ap (λ l. l ++ drop (place + more) bytes) is ∙ ap (λ l. (held ++ piece) ++ l) back ∙ append_assoc held piece (drop (length piece) rest) ∙ ap (λ l. held ++ (l ++ drop (length piece) rest)) front ∙ ap (λ l. held ++ l) (take-append-drop (length piece) rest)

pub read_ended : (bytes piece : List ℕ) (place most : ℕ) → piece ≡ take most (drop place bytes) → 1 ≤ most → length piece ≡ 0 → drop place bytes ≡ []
read_ended bytes piece place most read some none =
    let len = ap length read ∙ length-take most (drop place bytes) in
    drop_all place bytes (omega (arith, len, length-drop place bytes))
