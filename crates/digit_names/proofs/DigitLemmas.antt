-- Texts of digits: their length, their bytes, and what they say of the number.
use Rattle.std.proofs.Common.{◌≡◌, ℕ, zero, suc, ◌+◌, ◌-◌, ◌/◌, ◌%◌, ◌<◌, ◌≤◌, true, not, ◌&&◌, ◌==◌, List, [], ◌∷◌, ◌++◌, length, get_or, refl, sym, ◌∙◌, ap, arith, length-append}
use Rattle.std.specs.List.{list_all}
use Rattle.std.proofs.lemmas.Bool.{and_from, and_parts, false≢true, eq-eqb}
use Rattle.std.proofs.lemmas.Bool.Decides.{nat_tests}
use Rattle.std.proofs.lemmas.List.Folds.{list_all-append}
use Rattle.std.proofs.lemmas.List.Sums.{AllPass-from_list_all}
use Rattle.peg_base.specs.NameText.{is_name_byte, IsName}
use Rattle.digit_names.specs.Digits.{digits, begins_name, DigitsHaveTheirWidth, DigitsTellNumbers, DigitsByExample}

pub length-digits : DigitsHaveTheirWidth
unfolding digits
length-digits zero number = refl
length-digits (suc width) number =
    let fewer = length-digits width (number / 10) in
    omega (arith, length-append (digits width (number / 10)) ((48 + number % 10) ∷ []))

digit_is_name_byte : (b : ℕ) → 48 ≤ b → b < 58 → is_name_byte b ≡ true
digit_is_name_byte b low high = grind (arith, nat_tests)

pub digits_pass : (width number : ℕ) → list_all is_name_byte (digits width number) ≡ true
unfolding digits
digits_pass zero number = refl
digits_pass (suc width) number =
    list_all-append is_name_byte (digits width (number / 10)) ((48 + number % 10) ∷ []) ∙ and_from _ _ (digits_pass width (number / 10)) (and_from _ _ (digit_is_name_byte (48 + number % 10) (omega arith) (omega arith)) refl)

-- lists of one length that go on by one item each
same_ends : (xs ys : List ℕ) (x y : ℕ) → length xs ≡ length ys → xs ++ x ∷ [] ≡ ys ++ y ∷ [] → (xs ≡ ys) × (x ≡ y)
same_ends [] [] x y long same = (refl, cc)
same_ends [] (b ∷ ys) x y long same = absurd (omega arith)
same_ends (a ∷ xs) [] x y long same = absurd (omega arith)
same_ends (a ∷ xs) (b ∷ ys) x y long same =
    let first : a ≡ b = cc in
    let later : xs ++ x ∷ [] ≡ ys ++ y ∷ [] = cc in
    let rest = same_ends xs ys x y (omega arith) later in
    (cc, rest.1)

pub digits_tell_numbers : DigitsTellNumbers
unfolding digits
digits_tell_numbers zero one other small also same = omega arith
digits_tell_numbers (suc width) one other small also same =
    let ends = same_ends (digits width (one / 10)) (digits width (other / 10)) (48 + one % 10) (48 + other % 10) (length-digits width (one / 10) ∙ sym (length-digits width (other / 10))) same in
    let last : 48 + one % 10 ≡ 48 + other % 10 = ends.1 in
    let front : one / 10 ≡ other / 10 = digits_tell_numbers width (one / 10) (other / 10) (omega arith) (omega arith) ends.0 in
    omega arith

pub digits_by_example : DigitsByExample
unfolding digits
digits_by_example = (refl, refl, refl)

-- ---- one digit more

pub digits_last : (width number : ℕ) → 0 < width → digits width number ≡ digits (width - 1) (number / 10) ++ (48 + number % 10) ∷ []
unfolding digits
digits_last zero number some = absurd (omega arith)
digits_last (suc width) number some =
    let same : width ≡ suc width - 1 = omega arith in
    ap (λ (w : ℕ). digits w (number / 10) ++ (48 + number % 10) ∷ []) same

pub digits_none : (width number : ℕ) → width ≡ 0 → digits width number ≡ []
unfolding digits
digits_none zero number none = refl
digits_none (suc width) number none = absurd (omega arith)

-- ---- names

first_is_no_dot : (b : ℕ) → not (b == 46) ≡ true → b ≡ 46 → ⊥
first_is_no_dot b passes is =
    false≢true (sym (ap not (eq-eqb b 46 is)) ∙ passes)

pub begins_name-append : (front back : List ℕ) → begins_name front ≡ true → list_all is_name_byte back ≡ true → begins_name (front ++ back) ≡ true
begins_name-append [] back begins passes = absurd (false≢true begins)
begins_name-append (b ∷ front) back begins passes =
    let parts = and_parts (is_name_byte b && not (b == 46)) (list_all is_name_byte front) begins in
    and_from _ _ parts.0 (list_all-append is_name_byte front back ∙ and_from _ _ parts.1 passes)

pub name_from_front : (front back : List ℕ) → begins_name front ≡ true → list_all is_name_byte back ≡ true → length front + length back ≤ 64 → IsName (front ++ back)
name_from_front [] back begins passes short = absurd (false≢true begins)
name_from_front (b ∷ front) back begins passes short =
    let parts = and_parts (is_name_byte b && not (b == 46)) (list_all is_name_byte front) begins in
    let first = and_parts (is_name_byte b) (not (b == 46)) parts.0 in
    record {
      some = omega arith;
      short = omega (arith, length-append front back);
      bytes = AllPass-from_list_all is_name_byte (b ∷ front ++ back) (and_from _ _ first.0 (list_all-append is_name_byte front back ∙ and_from _ _ parts.1 passes));
      not_itself = λ is. first_is_no_dot b first.1 (ap (λ (t : List ℕ). get_or t 0 0) is);
      not_above = λ is. first_is_no_dot b first.1 (ap (λ (t : List ℕ). get_or t 0 0) is);
    }
