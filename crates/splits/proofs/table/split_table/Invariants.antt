use Rattle.std.proofs.Common.{◌≡◌, map}
use Rattle.std.specs.List.{range_with_len}
use Rattle.splits.specs.Table.{split_at}
use Rattle.splits.proofs.table.split_table.Given as goal

abbrev pub invariant-loop-number : goal.invariant-loop-number
invariant-loop-number l =
    l.splits.items ≡ map (split_at l.len l.length) (range_with_len 0 l.number)
