-- What digits write.
use Rattle.std.proofs.Common.{◌≡◌, ℕ, zero, suc, ◌+◌, ◌-◌, ◌*◌, ◌/◌, ◌%◌, ◌<◌, ◌≤◌, ◌^◌, List, [], ◌∷◌, ◌++◌, length, get_or, take, drop, Option, Some, None, refl, sym, ap, ◌∙◌, inl, inr, arith, mul_assoc, eqb, leb, map, ◌&&◌}
use Rattle.std.proofs.Math.Nat.{add-mul, mul_left_comm, pow-le-pow_right}
use Rattle.std.proofs.lemmas.Bool.{cases_lt, cases_Bool, lt-ltb, le-ltb, le-leb, lt-leb, leb-true, and_parts, cond-true, cond-false, eq-eqb, ne_eqb}
use Rattle.std.proofs.lemmas.List.{at_drop_more}
use Rattle.std.proofs.lemmas.Nat.{pow-add, mod-pow-add, mod_below}
use Rattle.std.specs.List.{range_with_len}
use Rattle.bitstrings.specs.Options.{all_some}
use Rattle.bitstrings.specs.Texts.{hex_digit, digit_of, hex_digits, number_after, word_at, words_from, words_of}
use Rattle.bitstrings.proofs.Lists.{prefixed, prefixed_more, prefixed_none, prefixed_all, prefixed_nil}

pub digit_reads_back : (d : ℕ) → d < 16 → digit_of (hex_digit d) ≡ Some d
digit_reads_back d small =
    elim (cases_lt d 10) [
      | inl lt ↦
          let test = lt-ltb d 10 lt in
          let low = le-leb 48 (48 + d) (omega arith) in
          let high = le-leb (48 + d) 57 (omega arith) in
          let value : 48 + d - 48 ≡ d = omega arith in rw (test, low, high, value) refl
      | inr ge ↦
          let test = le-ltb d 10 ge in
          let low = le-leb 48 (87 + d) (omega arith) in
          let high = lt-leb (87 + d) 57 (omega arith) in
          let low' = le-leb 97 (87 + d) (omega arith) in
          let high' = le-leb (87 + d) 102 (omega arith) in
          let value : 87 + d - 87 ≡ d = omega arith in rw (test, low, high, low', high', value) refl
    ]

last_digit : (a w : ℕ) → a ≡ a * 2 ^ (4 * 0) + w % 2 ^ (4 * 0)
last_digit a w = omega (arith, mod_below w 1 (omega arith))

spread : (a d p r q : ℕ) → q ≡ 16 * p → (16 * a + d) * p + r ≡ a * q + (d * p + r)
spread a d p r q is = rw is (omega (arith, add-mul (16 * a) d p, mul_assoc 16 a p, mul_left_comm a 16 p))

-- the digits of a number, read behind those of another one
pub digits_read_back : (n a w : ℕ) → number_after a (hex_digits n w) ≡ Some (a * 2 ^ (4 * n) + w % 2 ^ (4 * n))
digits_read_back zero a w = ap Some (last_digit a w)
digits_read_back (suc n) a w =
    let d = w / 2 ^ (4 * n) % 16 in
    let read = digit_reads_back d (mod_below (w / 2 ^ (4 * n)) 16 (omega arith)) in
    let rest = digits_read_back n (16 * a + d) w in
    let p = 2 ^ (4 * n) in
    let split : w % 2 ^ (4 + 4 * n) ≡ d * p + w % p = mod-pow-add w 4 (4 * n) in
    let power : 2 ^ (4 + 4 * n) ≡ 16 * p = pow-add 2 4 (4 * n) in
    let more : 4 * suc n ≡ 4 + 4 * n = omega arith in
    rw (read, rest, more) (ap Some (ap (λ x. (16 * a + d) * p + x) refl ∙ spread a d p (w % p) (2 ^ (4 + 4 * n)) power ∙ ap (λ x. a * 2 ^ (4 + 4 * n) + x) (sym split)))

-- a digit is below 16
pub digit_small : (b d : ℕ) → Some d ≡ digit_of b → d < 16
digit_small b d is =
    elim (cases_Bool (leb 48 b && leb b 57)) [
      | inl number ↦ let is' : Some d ≡ Some (b - 48) = is ∙ cond-true (leb 48 b && leb b 57) (Some (b - 48)) _ number in
          let high = leb-true b 57 (and_parts _ _ number).1 in let same : d ≡ b - 48 = cc in omega arith
      | inr other ↦ elim (cases_Bool (leb 97 b && leb b 102)) [
        | inl letter ↦ let is' : Some d ≡ Some (b - 87) = is ∙ cond-false (leb 48 b && leb b 57) _ _ other ∙ cond-true (leb 97 b && leb b 102) (Some (b - 87)) None letter in
            let high = leb-true b 102 (and_parts _ _ letter).1 in let same : d ≡ b - 87 = cc in omega arith
        | inr none ↦ let is' : Some d ≡ None = is ∙ cond-false (leb 48 b && leb b 57) _ _ other ∙ cond-false (leb 97 b && leb b 102) (Some (b - 87)) None none in cc
      ]
    ]

-- one more digit

pub number_after_more : (text : List ℕ) (i word d e : ℕ) → i < length text → Some d ≡ digit_of (get_or text i 0) → e ≡ d
    → number_after (16 * word + e) (drop (i + 1) text) ≡ number_after word (drop i text)
number_after_more text i word d e lt is same = sym (at_drop_more (number_after word) text i 0 lt ∙ rw (sym is, same) refl)

pub number_after_none : (text : List ℕ) (i word : ℕ) → i < length text → None ≡ digit_of (get_or text i 0) → number_after word (drop i text) ≡ None
number_after_none text i word lt is = at_drop_more (number_after word) text i 0 lt ∙ rw (sym is) refl

pub word_small : (i word b d e : ℕ) → word < 2 ^ (4 * i) → Some d ≡ digit_of b → e ≡ d → 16 * word + e < 2 ^ (4 * (i + 1))
word_small i word b d e small is same =
    let more : 4 * (i + 1) ≡ 4 + 4 * i = omega arith in
    let power : 2 ^ (4 + 4 * i) ≡ 16 * 2 ^ (4 * i) = pow-add 2 4 (4 * i) in
    let low = digit_small b d is in rw (more, power) (omega arith)

pub word_fits : (i word : ℕ) → i < 8 → word < 2 ^ (4 * i) → 16 * word < 2 ^ 32 - 15
word_fits i word few small =
    let most = pow-le-pow_right {n = 2} (omega arith) {i = 4 * i} {j = 28} (omega arith) in omega arith

pub digit_is_small : (b d e : ℕ) → Some d ≡ digit_of b → e ≡ d → e < 16
digit_is_small b d e is same = let low = digit_small b d is in omega arith

-- words one after another

pub word_at_is : (text : List ℕ) (l n m : ℕ) → m ≡ 8 * l → n ≡ 8 → number_after 0 (take n (drop m text)) ≡ word_at text l
unfolding word_at
word_at_is text l n m at eight = rw (at, eight) refl

words_from_first : (text : List ℕ) (l n m : ℕ) → m ≡ suc n → words_from text l m ≡ all_some (word_at text l ∷ map (word_at text) (range_with_len (l + 1) n))
unfolding words_from
words_from_first text l n m is = rw is refl

pub words_begun : (text : List ℕ) → prefixed [] (words_from text 0 32) ≡ words_from text 0 32
words_begun text = prefixed_nil (words_from text 0 32)

pub words_more : (text ws : List ℕ) (l w : ℕ) (all : Option (List ℕ)) → l < 32 → word_at text l ≡ Some w → prefixed ws (words_from text l (32 - l)) ≡ all
    → prefixed (ws ++ w ∷ []) (words_from text (l + 1) (32 - (l + 1))) ≡ all
unfolding words_from
words_more text ws l w all lt is so_far =
    prefixed_more ws w (word_at text l) (map (word_at text) (range_with_len (l + 1) (32 - (l + 1)))) is
    ∙ ap (prefixed ws) (sym (words_from_first text l (32 - (l + 1)) (32 - l) (omega arith))) ∙ so_far

pub words_none : (text ws : List ℕ) (l : ℕ) (all : Option (List ℕ)) → l < 32 → word_at text l ≡ None → prefixed ws (words_from text l (32 - l)) ≡ all → all ≡ None
words_none text ws l all lt is so_far =
    sym so_far ∙ ap (prefixed ws) (words_from_first text l (32 - (l + 1)) (32 - l) (omega arith))
    ∙ prefixed_none ws (word_at text l) (map (word_at text) (range_with_len (l + 1) (32 - (l + 1)))) is

pub words_done : (text ws : List ℕ) (l : ℕ) (all : Option (List ℕ)) → 32 ≤ l → prefixed ws (words_from text l (32 - l)) ≡ all → Some ws ≡ all
unfolding words_from
words_done text ws l all ge so_far =
    let none : 32 - l ≡ 0 = omega arith in
    sym (prefixed_all ws) ∙ ap (λ n. prefixed ws (all_some (map (word_at text) (range_with_len l n)))) (sym none) ∙ so_far

pub words_of_long : (text : List ℕ) → length text ≡ 256 → words_of text ≡ words_from text 0 32
unfolding words_of
words_of_long text long = cond-true (eqb (length text) 256) (words_from text 0 32) None (eq-eqb (length text) 256 long)

pub words_of_other : (text : List ℕ) → (length text ≡ 256 → ⊥) → words_of text ≡ None
unfolding words_of
words_of_other text other = cond-false (eqb (length text) 256) (words_from text 0 32) None (ne_eqb (length text) 256 other)
