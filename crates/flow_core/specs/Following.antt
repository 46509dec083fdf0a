-- Children that follow a rule.
use Rattle.std.specs.Prelude.{◌≡◌, List, ℕ}
use Rattle.peg_text.specs.Records.{records_of}
use Rattle.gimv_base.specs.Parts.{written}
use Rattle.gimv_base.specs.Rules.{Rule, role_out}

-- what children of some words write for an input
abbrev pub Giving : Type 0
Giving = List (List ℕ) → List ℕ → List ℕ

-- a child of these words writes what the rule gives, wherever no record is bad
abbrev pub Follows : Giving → List (List ℕ) → Rule → Type 0
Follows gives words rule =
    (bytes out : List ℕ) → role_out rule (records_of bytes) ≡ written out → gives words bytes ≡ out
