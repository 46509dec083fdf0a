-- What is written for a list of records, and the first bad one of them.
use Rattle.std.specs.Prelude.{ℕ, ◌+◌, List, [], ◌++◌, Option, Some, None, option_map}

-- the text for some records, and the first bad one by its number from 1, where 0 is the record before them;
-- where one is bad, the text is what is certain before it
pub record Part : Type 0 where
  pub out : List ℕ
  pub bad : Option ℕ

abbrev pub nothing : Part
nothing = record { out = []; bad = None }

abbrev pub written : List ℕ → Part
written out = record { out = out; bad = None }

abbrev pub refused : ℕ → Part
refused n = record { out = []; bad = Some n }

-- the part of the records that follow n others, for which this text was written
abbrev pub after : List ℕ → ℕ → Part → Part
after out n later = record { out = out ++ later.out; bad = option_map (λ k. n + k) later.bad }

-- what n records give, and then the later ones, unless one of the n is bad
abbrev pub unless_stopped : Option ℕ → Part → ℕ → Part → Part
unless_stopped None first n later = after first.out n later
unless_stopped (Some k) first n later = first

abbrev pub joined : Part → ℕ → Part → Part
joined first n later = unless_stopped first.bad first n later
