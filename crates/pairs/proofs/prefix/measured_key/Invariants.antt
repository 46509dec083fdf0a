use Rattle.std.proofs.Common.{◌≡◌, ◌<◌, ◌^◌, length, min}
use Rattle.peg_text.specs.Pairs.{key_of}
use Rattle.pairs.specs.Prefixes.{front_number}
use Rattle.pairs.proofs.prefix.measured_key.Given as goal

abbrev pub invariant-loop-at : goal.invariant-loop-at
invariant-loop-at l = record {
  length_is : l.length ≡ min l.at (length (key_of l.line));
  number_is : l.number ≡ front_number l.at (key_of l.line);
  fits : l.number < 256 ^ l.at;
}
