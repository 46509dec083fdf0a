use Rattle.std.proofs.Common.{◌≡◌, ◌<◌, ◌^◌}
use Rattle.pairs.specs.Prefixes.{front_number}
use Rattle.spill.proofs.entry.front_of.Given as goal

abbrev pub invariant-loop-at : goal.invariant-loop-at
invariant-loop-at l = record {
  number_is : l.number ≡ front_number l.at l.text;
  fits : l.number < 256 ^ l.at;
}
