-- What records say together.
use Rattle.std.proofs.Common.{◌≡◌, ℕ, ◌+◌, Bool, true, false, List, [], ◌∷◌, ◌++◌, Option, Some, None, refl, sym, ap, ◌∙◌, arith}
use Rattle.std.specs.Prelude.{option_map, unwrap_or, nat_lt, if◌then◌else◌}
use Rattle.std.specs.List.{find, sum_by}
use Rattle.std.specs.Option.{option_or}
use Rattle.std.proofs.lemmas.List.Sums.{sum_by-append}
use Rattle.std.proofs.lemmas.List.Folds.{find-append}
use Rattle.store.specs.declared.changes.Place.{Place}
use Rattle.store.specs.Parts.{Record}
use Rattle.store.specs.Totals.{change_of, changed, counts, place_of, first_change}

option_map-or : {A B : Type 0} (f : A → B) (x y : Option A) → option_map f (option_or x y) ≡ option_or (option_map f x) (option_map f y)
option_map-or f None y = refl
option_map-or f (Some a) y = refl

changed-more : (rs : List Record) (r : Record) → changed (rs ++ r ∷ []) ≡ changed rs + unwrap_or (change_of r.text) 0
changed-more rs r =
    let f : Record → ℕ = λ (x : Record). unwrap_or (change_of x.text) 0 in
    let one : sum_by f (r ∷ []) ≡ f r = omega arith in
    omega (arith, sum_by-append f rs (r ∷ []), one)

first_one : (test : Bool) (r : Record) → option_map place_of (if test then Some r else None) ≡ (if test then Some (place_of r) else None)
first_one true r = refl
first_one false r = refl

first_change-more : (rs : List Record) (r : Record) → first_change (rs ++ r ∷ []) ≡ option_or (first_change rs) (if counts r then Some (place_of r) else None)
first_change-more rs r =
    ap (option_map place_of) (find-append counts rs (r ∷ [])) ∙ option_map-or place_of (find counts rs) (find counts (r ∷ [])) ∙ ap (option_or (first_change rs)) (first_one (counts r) r)

-- one record more
pub counted_more : (rs : List Record) (r : Record) (change count next : ℕ) (first : Option Place) → change_of r.text ≡ Some change → (count ≡ changed rs) × (first ≡ first_change rs) → next ≡ count + change → (next ≡ changed (rs ++ r ∷ [])) × (option_or first (if nat_lt 0 change then Some (place_of r) else None) ≡ first_change (rs ++ r ∷ []))
counted_more rs r change count next first is so_far more =
    let here : unwrap_or (change_of r.text) 0 ≡ change = ap (λ (c : Option ℕ). unwrap_or c 0) is in (
      omega (arith, so_far.0, more, changed-more rs r, here),
      ap (λ (f : Option Place). option_or f (if nat_lt 0 change then Some (place_of r) else None)) so_far.1 ∙ ap (λ (n : ℕ). option_or (first_change rs) (if nat_lt 0 n then Some (place_of r) else None)) (sym here) ∙ sym (first_change-more rs r),
    )
