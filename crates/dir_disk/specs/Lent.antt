-- The paths that are lent to children.
use Rattle.std.specs.Prelude.{◌≡◌, false, List, All}
use Rattle.peg_base.specs.Names.{Names, under, same_path}

-- a child reads the input and writes the output
pub record Loan : Type 0 where
  pub input : Names
  pub output : Names

-- no child writes the path
abbrev pub IsNoOutput : List Loan → Names → Type 0
IsNoOutput lent path = All (λ loan. same_path path loan.output ≡ false) lent

-- nothing at or under the path is lent
abbrev pub IsFree : List Loan → Names → Type 0
IsFree lent path = All (λ loan. (under path loan.input ≡ false) × (under path loan.output ≡ false)) lent
