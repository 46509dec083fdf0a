-- A number at the front of a text.
use Rattle.std.specs.Prelude.{◌≡◌, ℕ, List, ◌∷◌, ◌++◌, Option, Some, option_map, true}
use Rattle.std.specs.Char.{is_ascii_digit}
use Rattle.std.specs.List.{list_all}
use Rattle.peg_text.specs.Decimal.{decimal_of}
use Rattle.gimv_base.specs.Fields.{number_below}

-- a text begins with the digits of this number, which this byte ends, and this is what follows
pub record BeginsWithNumber (text : List ℕ) (mark number : ℕ) (rest : List ℕ) : Type 0 where
  pub digits : List ℕ
  pub is : text ≡ digits ++ (mark ∷ rest)
  pub all : list_all is_ascii_digit digits ≡ true
  pub reads : decimal_of digits ≡ Some number

-- two fields, of which the first one is a number below n
abbrev pub with_number : ℕ → (List ℕ × List ℕ) → Option (ℕ × List ℕ)
with_number n fields = option_map (λ k. (k, fields.1)) (number_below n fields.0)
