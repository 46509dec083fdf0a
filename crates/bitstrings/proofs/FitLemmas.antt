-- What is drawn, put together and read is 32 words of 32 bits, and sums of at most 1,024.
use Rattle.std.proofs.Common.{◌≡◌, ℕ, zero, suc, ◌+◌, ◌-◌, ◌*◌, ◌<◌, ◌≤◌, ◌^◌, not, min, Bool, true, IsTrue, eqb, ltb, leb, List, [], ◌∷◌, ◌++◌, length, take, drop, map, replicate, Option, Some, None, IfSome, option_map, option_and_then, refl, ap, subst, arith, eq-eqb}
use Rattle.std.proofs.Math.Nat.{pow-le-pow_right}
use Rattle.std.specs.Int.{w32, trailing_zeros}
use Rattle.std.specs.List.{list_all, range_with_len, slice_split, onto_first}
use Rattle.std.proofs.lemmas.Bool.{and_parts, and_from, ltb-true, lt-ltb, leb-true, le-leb, cond_both}
use Rattle.std.proofs.lemmas.List.{length-append}
use Rattle.std.proofs.lemmas.List.Sums.{prefix_len-le-length}
use Rattle.std.proofs.lemmas.Nat.{pow-add}
use Rattle.bitstrings.specs.Bitstrings.{are_words, are_sums, are_bitstrings}
use Rattle.bitstrings.specs.Options.{all_some, both_some}
use Rattle.bitstrings.specs.Radius.{radius, appended, last_sum}
use Rattle.bitstrings.specs.Stream.{bit_of, stream_word, first_words}
use Rattle.bitstrings.specs.Texts.{digit_of, number_after, word_at, words_from, words_of, bounded, sum_of, few, sums_of, made_of, bitstrings_of}
use Rattle.bitstrings.specs.Words.{places}
use Rattle.peg_text.specs.Decimal.{decimal_of}
use Rattle.bitstrings.proofs.TextLemmas.{digit_small}
use Rattle.bitstrings.proofs.WordLemmas.{places-le, length_of_words}

-- bits

bit_small : (word : ℕ) → bit_of word < 2 ^ 32
bit_small word =
    let le = pow-le-pow_right {n = 2} (omega arith) {i = min (trailing_zeros w32 word) 31} {j = 31} (omega arith) in omega arith

drawn : (f : ℕ → ℕ) (a n : ℕ) → ((k : ℕ) → f k < 2 ^ 32) → (length (map f (range_with_len a n)) ≡ n) × (list_all (λ w. ltb w (2 ^ 32)) (map f (range_with_len a n)) ≡ true)
drawn f a zero each = (refl, refl)
drawn f a (suc n) each =
    let rest = drawn f (a + 1) n each in
    (ap suc rest.0, and_from _ _ (lt-ltb (f a) (2 ^ 32) (each a)) rest.1)

pub first_words_fit : (seed node : ℕ) → IsTrue (are_words (first_words seed node))
unfolding first_words
first_words_fit seed node =
    let f = λ (l : ℕ). bit_of (stream_word seed (32 * node + l)) in
    let all = drawn f 0 32 (λ l. bit_small (stream_word seed (32 * node + l))) in
    and_from (eqb (length (map f (range_with_len 0 32))) 32) _ (eq-eqb (length (map f (range_with_len 0 32))) 32 all.0) all.1

pub none_fit : IsTrue (are_words (replicate 32 0))
none_fit = refl

-- sums

places_small : (ws : List ℕ) → IsTrue (are_words ws) → places ws ≤ 1024
places_small ws fits = omega (arith, places-le ws, length_of_words ws fits)

list_all_push : (p : ℕ → Bool) (xs : List ℕ) (x : ℕ) → list_all p xs ≡ true → p x ≡ true → list_all p (xs ++ x ∷ []) ≡ true
list_all_push p [] x all is = and_from _ _ is refl
list_all_push p (y ∷ ys) x all is =
    let parts = and_parts _ _ all in and_from _ _ parts.0 (list_all_push p ys x parts.1 is)

are_sums_from : (xs : List ℕ) → 1 ≤ length xs → length xs ≤ 257 → list_all (λ s. leb s 1024) xs ≡ true → IsTrue (are_sums xs)
are_sums_from xs some few all = and_from _ _ (and_from _ _ (le-leb 1 (length xs) some) (le-leb (length xs) 257 few)) all

pub appended_fit : (ws sums : List ℕ) → IsTrue (are_words ws) → IsTrue (are_sums sums) → IsTrue (are_bitstrings (record { words = ws; sums = appended sums (places ws) }))
appended_fit ws sums fw fs =
    let parts = and_parts _ _ fs in
    let counts = and_parts _ _ parts.0 in
    let some = leb-true 1 (length sums) counts.0 in
    let small = le-leb (places ws) 1024 (places_small ws fw) in
    let long = length-append sums (places ws ∷ []) in
    and_from (are_words ws) (are_sums (appended sums (places ws))) fw
    (cond_both (ltb (length sums) 257) (sums ++ places ws ∷ []) sums (λ xs. IsTrue (are_sums xs))
    (λ more. let lt = ltb-true (length sums) 257 more in are_sums_from (sums ++ places ws ∷ []) (omega arith) (omega arith) (list_all_push _ sums (places ws) parts.1 small))
    (λ _. fs))

pub first_fit : (ws : List ℕ) → IsTrue (are_words ws) → IsTrue (are_bitstrings (record { words = ws; sums = appended [] (places ws) }))
first_fit ws fw =
    and_from (are_words ws) (are_sums (places ws ∷ [])) fw
    (are_sums_from (places ws ∷ []) (omega arith) (omega arith) (and_from _ _ (le-leb (places ws) 1024 (places_small ws fw)) refl))

pub radius_small : (ws sums : List ℕ) → IsTrue (are_bitstrings (record { words = ws; sums = sums })) → radius sums < 2 ^ 64
radius_small ws sums fits =
    let parts = and_parts _ _ (and_parts (are_words ws) (are_sums sums) fits).1 in
    let few = leb-true (length sums) 257 (and_parts _ _ parts.0).1 in
    omega (arith, prefix_len-le-length (λ s. not (leb (last_sum sums - s) 4)) sums)

-- what is read

if_digit : (P : ℕ → Type 0) (f : ℕ → Option ℕ) (o : Option ℕ) → IfSome o (λ d. d < 16) → ((d : ℕ) → d < 16 → IfSome (f d) P) → IfSome (option_and_then f o) P
if_digit P f None low each = tt
if_digit P f (Some d) low each = each d low

digit_of_small : (b : ℕ) (o : Option ℕ) → o ≡ digit_of b → IfSome o (λ d. d < 16)
digit_of_small b None is = tt
digit_of_small b (Some d) is = digit_small b d is

number_small : (bs : List ℕ) (a k : ℕ) → a < 2 ^ k → IfSome (number_after a bs) (λ n. n < 2 ^ (k + 4 * length bs))
number_small [] a k small = let e : k + 4 * 0 ≡ k = omega arith in rw e small
number_small (b ∷ bs) a k small =
    if_digit (λ n. n < 2 ^ (k + 4 * suc (length bs))) (λ d. number_after (16 * a + d) bs) (digit_of b) (digit_of_small b (digit_of b) refl)
    (λ d low.
    let power : 2 ^ (4 + k) ≡ 16 * 2 ^ k = pow-add 2 4 k in
    let next : 16 * a + d < 2 ^ (4 + k) = rw power (omega arith) in
    let e : 4 + k + 4 * length bs ≡ k + 4 * suc (length bs) = omega arith in
    subst (λ j. IfSome (number_after (16 * a + d) bs) (λ n. n < 2 ^ j)) e (number_small bs (16 * a + d) (4 + k) next))

take_few : (n : ℕ) (xs : List ℕ) → length (take n xs) ≤ n
take_few zero xs = omega arith
take_few (suc n) [] = omega arith
take_few (suc n) (x ∷ xs) = omega (arith, take_few n xs)

if_weaker : (P Q : ℕ → Type 0) (o : Option ℕ) → IfSome o P → ((n : ℕ) → P n → Q n) → IfSome o Q
if_weaker P Q None p each = tt
if_weaker P Q (Some n) p each = each n p

word_small : (text : List ℕ) (l : ℕ) → IfSome (word_at text l) (λ n. ltb n (2 ^ 32) ≡ true)
unfolding word_at
word_small text l =
    let digits = take 8 (drop (8 * l) text) in
    let few = take_few 8 (drop (8 * l) text) in
    if_weaker (λ n. n < 2 ^ (0 + 4 * length digits)) (λ n. ltb n (2 ^ 32) ≡ true) (number_after 0 digits) (number_small digits 0 0 (omega arith))
    (λ n lt. let le = pow-le-pow_right {n = 2} (omega arith) {i = 0 + 4 * length digits} {j = 32} (omega arith) in lt-ltb n (2 ^ 32) (omega arith))

-- values that are all there: as many, and each passes
AllPassAndAre : (ℕ → Bool) → ℕ → Option (List ℕ) → Type 0
AllPassAndAre p n o = IfSome o (λ xs. (length xs ≡ n) × (list_all p xs ≡ true))

one_more_passes : (p : ℕ → Bool) (n : ℕ) (o : Option ℕ) (os : Option (List ℕ)) → IfSome o (λ x. p x ≡ true) → AllPassAndAre p n os
    → AllPassAndAre p (suc n) (option_and_then (λ x. option_map (λ xs. x ∷ xs) os) o)
unfolding AllPassAndAre
one_more_passes p n None os here rest = tt
one_more_passes p n (Some x) None here rest = tt
one_more_passes p n (Some x) (Some xs) here rest = (ap suc rest.0, and_from _ _ here rest.1)

words_pass : (text : List ℕ) (l n : ℕ) → AllPassAndAre (λ w. ltb w (2 ^ 32)) n (words_from text l n)
unfolding words_from AllPassAndAre
words_pass text l zero = (refl, refl)
words_pass text l (suc n) = one_more_passes (λ w. ltb w (2 ^ 32)) n (word_at text l) (words_from text (l + 1) n) (word_small text l) (words_pass text (l + 1) n)

are_words_from : (o : Option (List ℕ)) → AllPassAndAre (λ w. ltb w (2 ^ 32)) 32 o → IfSome o (λ ws. IsTrue (are_words ws))
unfolding AllPassAndAre
are_words_from None all = tt
are_words_from (Some ws) all = and_from (eqb (length ws) 32) (list_all (λ w. ltb w (2 ^ 32)) ws) (eq-eqb (length ws) 32 all.0) all.1

pub words_of_fit : (text : List ℕ) → IfSome (words_of text) (λ ws. IsTrue (are_words ws))
unfolding words_of
words_of_fit text =
    cond_both (eqb (length text) 256) (words_from text 0 32) None (λ o. IfSome o (λ ws. IsTrue (are_words ws))) (λ _. are_words_from (words_from text 0 32) (words_pass text 0 32)) (λ _. tt)

sum_small : (o : Option ℕ) → IfSome (option_and_then bounded o) (λ s. leb s 1024 ≡ true)
sum_small None = tt
sum_small (Some n) = cond_both (leb n 1024) (Some n) None (λ o. IfSome o (λ s. leb s 1024 ≡ true)) (λ is. is) (λ _. tt)

sums_pass : (ps : List (List ℕ)) → AllPassAndAre (λ s. leb s 1024) (length ps) (all_some (map sum_of ps))
unfolding AllPassAndAre
sums_pass [] = (refl, refl)
sums_pass (p ∷ ps) = one_more_passes (λ s. leb s 1024) (length ps) (sum_of p) (all_some (map sum_of ps)) (sum_small (decimal_of p)) (sums_pass ps)

few_fit : (n : ℕ) (o : Option (List ℕ)) → 1 ≤ n → AllPassAndAre (λ s. leb s 1024) n o → IfSome (option_and_then few o) (λ ss. IsTrue (are_sums ss))
unfolding AllPassAndAre
few_fit n None some all = tt
few_fit n (Some ss) some all =
    cond_both (leb (length ss) 257) (Some ss) None (λ o. IfSome o (λ xs. IsTrue (are_sums xs)))
    (λ is. are_sums_from ss (omega (arith, all.0)) (leb-true (length ss) 257 is) all.1) (λ _. tt)

onto_some : (x : ℕ) (ps : List (List ℕ)) → 1 ≤ length (onto_first x ps)
onto_some x [] = omega arith
onto_some x (p ∷ ps) = omega arith

some_part : (p : ℕ → Bool) (xs : List ℕ) → 1 ≤ length (slice_split p xs)
some_part p [] = omega arith
some_part p (x ∷ xs) = cond_both (p x) ([] ∷ slice_split p xs) (onto_first x (slice_split p xs)) (λ ps. 1 ≤ length ps) (λ _. omega arith) (λ _. onto_some x (slice_split p xs))

pub sums_of_fit : (text : List ℕ) → IfSome (sums_of text) (λ ss. IsTrue (are_sums ss))
unfolding sums_of
sums_of_fit text =
    let ps = slice_split (λ b. eqb b 58) text in
    few_fit (length ps) (all_some (map sum_of ps)) (some_part (λ b. eqb b 58) text) (sums_pass ps)

both_fit : (o p : Option (List ℕ)) → IfSome o (λ ws. IsTrue (are_words ws)) → IfSome p (λ ss. IsTrue (are_sums ss)) → IfSome (both_some made_of o p) (λ v. IsTrue (are_bitstrings v))
both_fit None p fo fp = tt
both_fit (Some ws) None fo fp = tt
both_fit (Some ws) (Some ss) fo fp = and_from (are_words ws) (are_sums ss) fo fp

pub bitstrings_of_fit : (text : List ℕ) → IfSome (bitstrings_of text) (λ v. IsTrue (are_bitstrings v))
unfolding bitstrings_of
bitstrings_of_fit text =
    cond_both _ (both_some made_of (words_of (take 256 text)) (sums_of (drop 257 text))) None (λ o. IfSome o (λ v. IsTrue (are_bitstrings v)))
    (λ _. both_fit (words_of (take 256 text)) (sums_of (drop 257 text)) (words_of_fit (take 256 text)) (sums_of_fit (drop 257 text))) (λ _. tt)
