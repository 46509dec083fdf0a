-- The bytes that come in and go out, as far as the outside tells them.
use Rattle.std.specs.Prelude.{◌≡◌, ℕ, List, [], ◌++◌, take, Option, Some, None}

-- these bytes, and then what is left
abbrev pub onto : List ℕ → Option (List ℕ) → Option (List ℕ)
onto bytes None = None
onto bytes (Some rest) = Some (bytes ++ rest)

-- nothing is left
abbrev pub AtEnd : Option (List ℕ) → Type 0
AtEnd None = Unit {0}
AtEnd (Some rest) = rest ≡ []

-- what went out, and then these bytes
abbrev pub added : Option (List ℕ) → List ℕ → Option (List ℕ)
added None bytes = None
added (Some before) bytes = Some (before ++ bytes)

-- some of these bytes, from their front, went out
pub record AddsPart (before now : Option (List ℕ)) (bytes : List ℕ) : Type 0 where
  pub len : ℕ
  pub is : now ≡ added before (take len bytes)
