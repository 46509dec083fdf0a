-- How a loan ends, and what is lent then.
use Rattle.std.specs.Prelude.{◌≡◌, Bool, true, ◌&&◌, List, ◌∷◌, ◌++◌, if◌then◌else◌}
use Rattle.std.specs.List.{list_any}
use Rattle.peg_base.specs.Names.{Names, same_path}
use Rattle.dir_disk.specs.Lent.{Loan}
use Rattle.dir_disk.specs.State.{Content, Held, State}

-- the child has ended, and has left this at its output
abbrev pub left_with : Content → Held → Held
left_with content held = record { now = content; may = held.may }

abbrev pub after_loan : Names → Content → State → State
after_loan output content state path =
    if same_path output path then left_with content (state path) else state path

-- the same two paths
abbrev pub is_loan : Loan → Loan → Bool
is_loan loan other = same_path other.input loan.input && same_path other.output loan.output

-- the loan is one of these
abbrev pub IsLent : Loan → List Loan → Type 0
IsLent loan lent = list_any (is_loan loan) lent ≡ true

-- one loan fewer is lent, and the others in their order
pub record TakesOff (loan : Loan) (old new : List Loan) : Type 0 where
  pub before : List Loan
  pub after : List Loan
  pub was : old ≡ before ++ loan ∷ after
  pub is : new ≡ before ++ after
