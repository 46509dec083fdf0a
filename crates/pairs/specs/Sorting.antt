-- Lists in the order of a test.
use Rattle.std.specs.Prelude.{Bool, List, [], ◌∷◌, if◌then◌else◌}

-- an item goes in front of the first one that it may stand before
abbrev pub inserted : {A : Type 0} → (A → A → Bool) → A → List A → List A
inserted before x [] = x ∷ []
inserted before x (y ∷ ys) = if before x y then x ∷ y ∷ ys else y ∷ inserted before x ys

-- the items in the order of a test, each as often as the list has it
abbrev pub in_order : {A : Type 0} → (A → A → Bool) → List A → List A
in_order before [] = []
in_order before (x ∷ xs) = inserted before x (in_order before xs)
