use Rattle.std.proofs.Common.{◌≡◌, ◌*◌, ◌^◌, ◌<◌, drop}
use Rattle.bitstrings.specs.Texts.{number_after}
use Rattle.bitstrings.proofs.read.read_word.Given as goal

abbrev pub invariant-loop-byte : goal.invariant-loop-byte
invariant-loop-byte l = record {
  on : number_after l.word (drop l.byte-index l.text) ≡ number_after 0 l.text;
  small : l.word < 2 ^ (4 * l.byte-index);
}
