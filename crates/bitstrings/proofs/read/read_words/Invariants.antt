use Rattle.std.proofs.Common.{◌≡◌, ◌-◌, length, take}
use Rattle.bitstrings.specs.Texts.{words_from}
use Rattle.bitstrings.proofs.Lists.{prefixed}
use Rattle.bitstrings.proofs.read.read_words.Given as goal

abbrev pub invariant-loop-l : goal.invariant-loop-l
invariant-loop-l l = record {
  long : length l.words ≡ 32;
  on : prefixed (take l.l l.words) (words_from l.text l.l (32 - l.l)) ≡ words_from l.text 0 32;
}
