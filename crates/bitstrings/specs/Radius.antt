-- The effective radius of a node, after HADI (Kang, Tsourakakis, Appel, Faloutsos and Leskovec 2011).
use Rattle.std.specs.Prelude.{ℕ, ◌-◌, ◌*◌, ◌≤◌, ◌^◌, ◌↔◌, nat_lt, nat_le, List, [], ◌∷◌, ◌++◌, length, slice_index, if◌then◌else◌}
use Rattle.std.specs.List.{position_or_len}

-- the last of the sums
abbrev pub last_sum : List ℕ → ℕ
last_sum sums = slice_index sums (length sums - 1)

-- the first step after which the sum is within 4 of the last one
abbrev pub radius : List ℕ → ℕ
radius sums = position_or_len (λ s. nat_le (last_sum sums - s) 4) sums

-- the sums with one more, unless there are 257
abbrev pub appended : List ℕ → ℕ → List ℕ
appended sums sum = if nat_lt (length sums) 257 then sums ++ sum ∷ [] else sums

-- a sum is within 4 of another one exactly where the estimate that it stands for, 2^(sum/32), is at least 9/10 of the other's
abbrev pub WithinFourIsNineTenths : Type 0
WithinFourIsNineTenths = (sum last : ℕ) → sum ≤ last → (last - sum ≤ 4) ↔ (9 ^ 32 * 2 ^ last ≤ 10 ^ 32 * 2 ^ sum)
