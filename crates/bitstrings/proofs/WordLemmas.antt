-- Words with the bits of both, and sums of first-zero places.
use Rattle.std.proofs.Common.{◌≡◌, ℕ, zero, suc, ◌-◌, ◌*◌, ◌<◌, ◌≤◌, ◌^◌, max, true, IsTrue, ltb, List, [], ◌∷◌, length, get_or, replicate, bit_or, refl, sym, ap, ◌∙◌, arith, eqb-true, eq-eqb}
use Rattle.std.specs.Int.{bit_at}
use Rattle.std.specs.Int.Bits.{or_zero_l}
use Rattle.std.specs.List.{list_all}
use Rattle.std.proofs.lemmas.Bool.{and_parts, and_from, ltb-true, lt-ltb}
use Rattle.std.proofs.lemmas.List.Sums.{sum_by-cons}
use Rattle.std.proofs.lemmas.Nat.{or_comm, or_lt, trailing_le}
use Rattle.std.proofs.lemmas.Nat.Bits.{bit_at_or, same_from_bits}
use Rattle.bitstrings.specs.Bitstrings.{are_words}
use Rattle.bitstrings.specs.Words.{or_words, first_zero, places}

or_assoc : (a b c : ℕ) → bit_or (bit_or a b) c ≡ bit_or a (bit_or b c)
or_assoc a b c =
    same_from_bits (bit_or (bit_or a b) c) (bit_or a (bit_or b c)) (λ i.
    let x = bit_at a i in
    let y = bit_at b i in
    let z = bit_at c i in
    let three : max (max x y) z ≡ max x (max y z) = omega arith in
    bit_at_or (bit_or a b) c i ∙ ap (λ t. max t z) (bit_at_or a b i) ∙ three ∙ sym (ap (λ t. max x t) (bit_at_or b c i)) ∙ sym (bit_at_or a (bit_or b c) i))

pub or_words_assoc : (xs ys zs : List ℕ) → or_words (or_words xs ys) zs ≡ or_words xs (or_words ys zs)
or_words_assoc [] ys zs = refl
or_words_assoc (x ∷ xs) [] zs = refl
or_words_assoc (x ∷ xs) (y ∷ ys) [] = refl
or_words_assoc (x ∷ xs) (y ∷ ys) (z ∷ zs) = rw (or_assoc x y z, or_words_assoc xs ys zs) refl

pub or_words_comm : (xs ys : List ℕ) → or_words xs ys ≡ or_words ys xs
or_words_comm [] [] = refl
or_words_comm [] (y ∷ ys) = refl
or_words_comm (x ∷ xs) [] = refl
or_words_comm (x ∷ xs) (y ∷ ys) = rw (or_comm x y, or_words_comm xs ys) refl

pub or_words_none : (n : ℕ) (xs : List ℕ) → length xs ≡ n → or_words (replicate n 0) xs ≡ xs
or_words_none zero [] long = refl
or_words_none zero (x ∷ xs) long = absurd (omega arith)
or_words_none (suc n) [] long = absurd (omega arith)
or_words_none (suc n) (x ∷ xs) long = rw (or_zero_l x, or_words_none n xs (omega arith)) refl

pub length-or_words : (xs ys : List ℕ) → length xs ≡ length ys → length (or_words xs ys) ≡ length xs
length-or_words [] ys same = refl
length-or_words (x ∷ xs) [] same = absurd (omega arith)
length-or_words (x ∷ xs) (y ∷ ys) same = ap suc (length-or_words xs ys (omega arith))

small_or_words : (xs ys : List ℕ) → list_all (λ w. ltb w (2 ^ 32)) xs ≡ true → list_all (λ w. ltb w (2 ^ 32)) ys ≡ true → list_all (λ w. ltb w (2 ^ 32)) (or_words xs ys) ≡ true
small_or_words [] ys a b = refl
small_or_words (x ∷ xs) [] a b = refl
small_or_words (x ∷ xs) (y ∷ ys) a b =
    let a' = and_parts _ _ a in
    let b' = and_parts _ _ b in
    and_from _ _ (lt-ltb (bit_or x y) (2 ^ 32) (or_lt 32 x y (ltb-true x (2 ^ 32) a'.0) (ltb-true y (2 ^ 32) b'.0))) (small_or_words xs ys a'.1 b'.1)

pub or_words_fit : (xs ys : List ℕ) → IsTrue (are_words xs) → IsTrue (are_words ys) → IsTrue (are_words (or_words xs ys))
or_words_fit xs ys a b =
    let a' = and_parts _ _ a in
    let b' = and_parts _ _ b in
    let la = eqb-true (length xs) 32 a'.0 in
    let lb = eqb-true (length ys) 32 b'.0 in
    and_from _ _ (eq-eqb (length (or_words xs ys)) 32 (length-or_words xs ys (la ∙ sym lb) ∙ la)) (small_or_words xs ys a'.1 b'.1)

pub length_of_words : (xs : List ℕ) → IsTrue (are_words xs) → length xs ≡ 32
length_of_words xs fits = eqb-true (length xs) 32 (and_parts _ _ fits).0

-- a list with these bits at each place
pub or_words_is : (xs ys zs : List ℕ) → length ys ≡ length xs → length zs ≡ length xs → ((k : ℕ) → k < length zs → get_or zs k 0 ≡ bit_or (get_or xs k 0) (get_or ys k 0)) → zs ≡ or_words xs ys
or_words_is [] ys [] same long each = refl
or_words_is [] ys (z ∷ zs) same long each = absurd (omega arith)
or_words_is (x ∷ xs) ys [] same long each = absurd (omega arith)
or_words_is (x ∷ xs) [] (z ∷ zs) same long each = absurd (omega arith)
or_words_is (x ∷ xs) (y ∷ ys) (z ∷ zs) same long each =
    let here : z ≡ bit_or x y = each 0 (omega arith) in
    rw (here, or_words_is xs ys zs (omega arith) (omega arith) (λ k lt. each (suc k) (omega arith))) refl

pub places-le : (ws : List ℕ) → places ws ≤ 32 * length ws
places-le [] = omega arith
places-le (w ∷ ws) = omega (arith, sum_by-cons first_zero w ws, places-le ws, trailing_le 32 (2 ^ 32 - 1 - w))
