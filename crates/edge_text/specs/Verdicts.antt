-- What one record of an edge list says.
use Rattle.std.specs.Prelude.{◌-◌, ℕ, Bool, true, List, [], ◌∷◌, Option, None, Some, ◌==◌, length, take, nat_le, slice_index, if◌then◌else◌}
use Rattle.peg_text.specs.Decimal.{decimal_of}
use Rattle.peg_text.specs.Pairs.{key_of, value_of}
use Rattle.edge_text.specs.declared.verdict.Verdict.{Verdict}
use Rattle.edge_text.specs.declared.verdict.Verdict.TheVariants.{Skipped, Accepted, Bad, Big}

-- a record without one CR at its end
abbrev pub without_cr : List ℕ → List ℕ
without_cr text = if slice_index text (length text - 1) == 13 then take (length text - 1) text else text

-- an empty record, or a comment
abbrev pub says_nothing : List ℕ → Bool
says_nothing [] = true
says_nothing (b ∷ bs) = b == 35

-- the number that 1 to 10 digits write
abbrev pub id_of : List ℕ → Option ℕ
id_of text = if nat_le (length text) 10 then decimal_of text else None

-- what two ids say where there are n nodes: both have to be well formed before one is too big
abbrev pub pair_verdict : ℕ → Option ℕ → Option ℕ → Verdict
pair_verdict n None target = Bad
pair_verdict n (Some source) None = Bad
pair_verdict n (Some source) (Some target) =
    if nat_le n source then Big source
    else (if nat_le n target then Big target else Accepted (record { source = source; target = target }))

-- what a record says where there are n nodes
abbrev pub verdict_of : ℕ → List ℕ → Verdict
verdict_of n text =
    let said = without_cr text in
    if says_nothing said then Skipped else pair_verdict n (id_of (key_of said)) (id_of (value_of said))
