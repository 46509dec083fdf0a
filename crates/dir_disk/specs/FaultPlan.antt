-- The calls of a double in memory: which fail, and how many were made.
use Rattle.std.specs.Prelude.{ℕ, ◌+◌, ◌-◌, ◌^◌, ◌==◌, min, Bool, List, if◌then◌else◌}
use Rattle.std.specs.List.{list_any}

-- the numbers of the calls that fail, how many calls were made, and how many of them failed
pub record Plan : Type 0 where
  pub fail : List ℕ
  pub calls : ℕ
  pub faults : ℕ

-- no call was made yet
abbrev pub planned : List ℕ → Plan
planned fail = record { fail = fail; calls = 0; faults = 0 }

-- the next call fails
abbrev pub is_due : Plan → Bool
is_due p = list_any (λ k. k == p.calls) p.fail

-- one more, as far as a count of 64 bits goes
abbrev pub one_more : ℕ → ℕ
one_more count = min (count + 1) (2 ^ 64 - 1)

-- after the next call
abbrev pub counted : Plan → Plan
counted p = record p { calls = one_more p.calls; faults = if is_due p then one_more p.faults else p.faults }
