-- How the children of a site in memory end.
use Rattle.std.specs.Prelude.{ℕ, ℤ, pos, negsuc, ◌^◌, ◌&&◌, nat_eq, nat_lt, Bool, false, List, [], ◌∷◌, length, if◌then◌else◌}
use Rattle.dir_disk.specs.Lent.{Loan, IsNoOutput}

-- no two children write the same file
abbrev pub WriteApart : List Loan → Type 0
WriteApart [] = Unit {0}
WriteApart (loan ∷ lent) = IsNoOutput lent loan.output × WriteApart lent

-- a file can't have the answer: it has more than 2^50 bytes
abbrev pub is_too_long : List ℕ → Bool
is_too_long answer = nat_lt (2 ^ 50) (length answer)

-- the status of a child that has done its work
abbrev pub is_zero : ℤ → Bool
is_zero (pos number) = nat_eq number 0
is_zero (negsuc number) = false

-- how a child ends that is to end with this status if it can do its work
abbrev pub end_status : ℤ → List ℕ → ℤ
end_status status answer = if is_zero status && is_too_long answer then pos 66 else status
