-- A text is cut at its first blank.
use Rattle.std.proofs.Common.{◌≡◌, ℕ, ◌+◌, ◌<◌, List, [], ◌∷◌, ◌++◌, Option, Some, None, option_map, length, take, drop, cond, ltb, position, refl, sym, ap, ◌∙◌, arith, append_assoc}
use Rattle.std.specs.List.{position_or_len}
use Rattle.std.proofs.lemmas.Bool.{cond-true, lt-ltb, ne_eqb}
use Rattle.std.proofs.lemmas.List.{length-append, get_or_append_left, get_or_at, take_at, drop_at}
use Rattle.std.proofs.lemmas.List.Sums.{position_or_len_is}
use Rattle.gimv_core.specs.Texts.{HasNoBlank}
use Rattle.gimv_base.specs.Fields.{is_blank, parts_at, around_blank}

abbrev if_inside : ℕ → ℕ → Option ℕ
if_inside k n = cond (ltb k n) (Some k) None

pub around_blank-is : (front back : List ℕ) → HasNoBlank front → around_blank (front ++ (32 ∷ back)) ≡ Some (front, back)
around_blank-is front back unbroken =
    let text = front ++ (32 ∷ back) in
    let inside : length front < length text = omega (arith, length-append front (32 ∷ back)) in
    let parts : text ≡ (front ++ (32 ∷ [])) ++ back = sym (append_assoc front (32 ∷ []) back) in
    let at : position_or_len is_blank text ≡ length front =
    position_or_len_is is_blank text (length front) 0 (omega arith)
    (λ k low. ne_eqb _ 32 (λ there. unbroken k 0 low (sym (get_or_append_left front (32 ∷ back) 0 k low) ∙ there)))
    (λ _. ap (λ b. is_blank b) (get_or_at front 32 back 0 (length front) refl)) in
    let found : position is_blank text ≡ Some (length front) =
    ap (λ k. if_inside k (length text)) at ∙ cond-true _ _ _ (lt-ltb (length front) (length text) inside) in
    let before : take (length front) text ≡ front = take_at front (32 ∷ back) (length front) refl in
    let behind : drop (length front + 1) text ≡ back = ap (drop (length front + 1)) parts ∙ drop_at (front ++ (32 ∷ [])) back (length front + 1) (length-append front (32 ∷ [])) in
    ap (option_map (parts_at text)) found ∙ ap (λ (f : List ℕ). Some (f, drop (length front + 1) text)) before ∙ ap (λ (b : List ℕ). Some (front, b)) behind
