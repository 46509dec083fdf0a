-- The names of runs are names, and differ.
use Rattle.std.proofs.Common.{◌≡◌, ◌≢◌, ◌∙◌, sym, refl, subst, ℕ, ◌^◌, ◌<◌, true, false, ⊎_elim, List, [], ◌∷◌, ◌++◌, length, codes, arith, length-append}
use Rattle.std.proofs.lemmas.Bool.{false≢true, cases_Bool}
use Rattle.std.proofs.lemmas.List.{append_assoc}
use Rattle.peg_base.specs.Names.{Names, under, after_top}
use Rattle.peg_base.proofs.Under.{under-split, under-children, under-refl, under-trans}
use Rattle.digit_names.specs.Digits.{digits, begins_name}
use Rattle.digit_names.proofs.DigitLemmas.{length-digits, digits_pass, begins_name-append, digits_tell_numbers}
use Rattle.spill.specs.Runs.{run_name}

-- what stands before the number of the flush
abbrev pub run_front : ℕ → List ℕ
run_front part = codes "run-" ++ digits 5 part ++ 45 ∷ []

pub run_front_begins_name : (part : ℕ) → begins_name (run_front part) ≡ true
run_front_begins_name part =
    begins_name-append (codes "run-" ++ digits 5 part) (45 ∷ []) (begins_name-append (codes "run-") (digits 5 part) refl (digits_pass 5 part)) refl

pub length-run_front : (part : ℕ) → length (run_front part) ≡ 10
length-run_front part =
    let one = length-append (codes "run-") (digits 5 part) in
    let two = length-append (codes "run-" ++ digits 5 part) (45 ∷ []) in
    let five = length-digits 5 part in
    omega arith

-- two texts of which the fronts have one length
same_parts : (a b c d : List ℕ) → length a ≡ length c → a ++ b ≡ c ++ d → (a ≡ c) × (b ≡ d)
same_parts [] b [] d long same = (refl, same)
same_parts [] b (y ∷ c) d long same = absurd (omega arith)
same_parts (x ∷ a) b [] d long same = absurd (omega arith)
same_parts (x ∷ a) b (y ∷ c) d long same =
    let first : x ≡ y = cc in
    let later : a ++ b ≡ c ++ d = cc in
    let rest = same_parts a b c d (omega arith) later in
    (cc, rest.1)

-- parts and flushes of other numbers have runs of other names
pub run_names_tell : (part other flush another : ℕ) → part < 100000 → other < 100000 → flush < 2 ^ 64 → another < 2 ^ 64 → run_name part flush ≡ run_name other another → (part ≡ other) × (flush ≡ another)
unfolding run_name
run_names_tell part other flush another small also low too same =
    let five = length-digits 5 part in
    let five' = length-digits 5 other in
    let ten = length-run_front part in
    let ten' = length-run_front other in
    let whole = same_parts (run_front part) (digits 20 flush) (run_front other) (digits 20 another) (ten ∙ sym ten') same in
    let one = length-append (codes "run-") (digits 5 part) in
    let two = length-append (codes "run-") (digits 5 other) in
    let fronts = same_parts (codes "run-" ++ digits 5 part) (45 ∷ []) (codes "run-" ++ digits 5 other) (45 ∷ []) (omega arith) whole.0 in
    let numbers = same_parts (codes "run-") (digits 5 part) (codes "run-") (digits 5 other) refl fronts.0 in
    (digits_tell_numbers 5 part other (omega arith) (omega arith) numbers.1, digits_tell_numbers 20 flush another (omega arith) (omega arith) whole.1)

pub run_names_differ : (part other flush : ℕ) → part < 100000 → other < 100000 → part ≢ other → run_name part flush ≢ run_name other flush
unfolding run_name
run_names_differ part other flush small also differ same =
    let ten = length-run_front part in
    let ten' = length-run_front other in
    let five = length-digits 5 part in
    let five' = length-digits 5 other in
    let whole = same_parts (run_front part) (digits 20 flush) (run_front other) (digits 20 flush) (ten ∙ sym ten') same in
    let one = length-append (codes "run-") (digits 5 part) in
    let two = length-append (codes "run-") (digits 5 other) in
    let fronts = same_parts (codes "run-" ++ digits 5 part) (45 ∷ []) (codes "run-" ++ digits 5 other) (45 ∷ []) (omega arith) whole.0 in
    let numbers = same_parts (codes "run-") (digits 5 part) (codes "run-") (digits 5 other) refl fronts.0 in
    differ (digits_tell_numbers 5 part other (omega arith) (omega arith) numbers.1)

-- what lies at or under one child of a folder doesn't lie under another
pub children_apart : (folder : Names) (name other : List ℕ) (q : Names) → name ≢ other → under (folder ++ name ∷ []) q ≡ true → under (folder ++ other ∷ []) q ≡ false
children_apart folder name other q differ below =
    let rest : Names = after_top (folder ++ name ∷ []) q in
    let is : q ≡ folder ++ name ∷ rest = under-split (folder ++ name ∷ []) q below ∙ append_assoc folder (name ∷ []) rest in
    subst (λ (p : Names). under (folder ++ other ∷ []) p ≡ false) (sym is) (under-children folder other name [] rest (λ same. differ (sym same)))

-- nor does what lies above the other
pub child_not_above : (folder : Names) (name other : List ℕ) (q : Names) → name ≢ other → under q (folder ++ other ∷ []) ≡ true → under (folder ++ name ∷ []) q ≡ false
child_not_above folder name other q differ above =
    ⊎_elim (λ (below : under (folder ++ name ∷ []) q ≡ true). absurd (false≢true (sym (children_apart folder other name (folder ++ other ∷ []) (λ same. differ (sym same)) (under-refl (folder ++ other ∷ []))) ∙ under-trans (folder ++ name ∷ []) q (folder ++ other ∷ []) below above))) (λ (apart : under (folder ++ name ∷ []) q ≡ false). apart) (cases_Bool (under (folder ++ name ∷ []) q))
