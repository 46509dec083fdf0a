-- The messages to the rows of a block, put together as they come.
use Rattle.std.specs.Prelude.{ℕ, List, [], ◌∷◌, Bool, true, Option, Some, None, get_or, set, length, All, IfSome}
use Rattle.std.specs.List.{flat_map, list_all, range_with_len}
use Rattle.gimv_core.specs.Algebras.{Algebra, FitsMsg}

-- one more message
abbrev pub with_one : {Val Msg Weight : Type 0} → Algebra Val Msg Weight → Option Msg → Msg → Msg
with_one a None m = m
with_one a (Some all) m = a.algorithm.combine all m

-- one more message to the row at its offset
abbrev pub take_in : {Val Msg Weight : Type 0} → Algebra Val Msg Weight → List (Option Msg) → (ℕ × Msg) → List (Option Msg)
take_in a rows sent = set rows sent.0 (Some (with_one a (get_or rows sent.0 None) sent.1))

-- what is put together for a row, if anything is
abbrev pub part_from : {Msg : Type 0} → ℕ → Option Msg → List (ℕ × Msg)
part_from row None = []
part_from row (Some m) = (row, m) ∷ []

abbrev pub part_at : {Msg : Type 0} → List (Option Msg) → ℕ → List (ℕ × Msg)
part_at rows row = part_from row (get_or rows row None)

-- and for all rows
abbrev pub parts_in : {Msg : Type 0} → List (Option Msg) → List (ℕ × Msg)
parts_in rows = flat_map (part_at rows) (range_with_len 0 (length rows))

-- what is put together so far fits
abbrev pub RowsFit : {Val Msg Weight : Type 0} → Algebra Val Msg Weight → List (Option Msg) → Type 0
RowsFit {Val} {Msg} {Weight} a rows = All (λ (row : Option Msg). IfSome row (FitsMsg a)) rows

-- the same as a test
abbrev pub row_fits : {Val Msg Weight : Type 0} → Algebra Val Msg Weight → Option Msg → Bool
row_fits a None = true
row_fits a (Some m) = a.fits_msg m

abbrev pub rows_fit : {Val Msg Weight : Type 0} → Algebra Val Msg Weight → List (Option Msg) → Bool
rows_fit a rows = list_all (row_fits a) rows
