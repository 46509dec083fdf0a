-- Records that are just two ids.
use Rattle.std.specs.Prelude.{◌≡◌, ℕ, ◌+◌, ◌-◌, ◌<◌, ◌≤◌, true, List, [], ◌∷◌, ◌++◌, length, take, drop, slice_index, ◌⊎◌}
use Rattle.std.specs.List.{list_all}
use Rattle.std.specs.Char.{is_ascii_digit}
use Rattle.std.specs.Str.Parse.{digits_value}

-- the bytes between two places
abbrev pub part : List ℕ → ℕ → ℕ → List ℕ
part bytes from end = take (end - from) (drop from bytes)

-- 1 to 10 digits stand between two places, and write this number
pub record HasDigits (bytes : List ℕ) (from end value : ℕ) : Type 0 where
  pub some : from < end
  pub few : end ≤ from + 10
  pub inside : end ≤ length bytes
  pub digits : list_all is_ascii_digit (part bytes from end) ≡ true
  pub writes : value ≡ digits_value 10 (part bytes from end)

-- an LF stands at the end of a line or behind a CR there, and the next line begins behind it
pub record EndsLine (bytes : List ℕ) (end next : ℕ) : Type 0 where
  pub cr : List ℕ
  pub one : (cr ≡ []) ⊎ (cr ≡ 13 ∷ [])
  pub rest : drop end bytes ≡ cr ++ (10 ∷ drop next bytes)
  pub inside : next ≤ length bytes

-- a record of two ids begins at `start`, and the next record at `next`
pub record HasPlainRecord (bytes : List ℕ) (start source target next : ℕ) : Type 0 where
  pub tab : ℕ
  pub end : ℕ
  pub first : HasDigits bytes start tab source
  pub between : slice_index bytes tab ≡ 9
  pub second : HasDigits bytes (tab + 1) end target
  pub ends : EndsLine bytes end next
