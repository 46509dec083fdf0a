-- Several values, of which each may be missing.
use Rattle.std.specs.Prelude.{List, [], ◌∷◌, Option, Some, option_map, option_and_then}

-- all of the values, where none is missing
abbrev pub all_some : {A : Type 0} → List (Option A) → Option (List A)
all_some [] = Some []
all_some (o ∷ os) = option_and_then (λ x. option_map (λ xs. x ∷ xs) (all_some os)) o

-- two values, where neither is missing
abbrev pub both_some : {A B C : Type 0} → (A → B → C) → Option A → Option B → Option C
both_some f o p = option_and_then (λ x. option_map (f x) p) o
