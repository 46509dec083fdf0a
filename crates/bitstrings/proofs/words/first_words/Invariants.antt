use Rattle.std.proofs.Common.{◌≡◌, ℕ, ◌+◌, ◌*◌, ◌<◌, length, get_or}
use Rattle.rand_pcg.specs.Lcg.{advance}
use Rattle.rand_pcg.specs.Pcg.{multiplier_64}
use Rattle.bitstrings.specs.Stream.{bit_of, stream_of, stream_word}
use Rattle.bitstrings.proofs.words.first_words.Given as goal

abbrev pub invariant-loop-l : goal.invariant-loop-l
invariant-loop-l l = record {
  long : length l.words ≡ 32;
  at : l.stream ≡ advance 64 multiplier_64 (32 * l.node + l.l) (stream_of l.seed);
  drawn : (k : ℕ) → k < l.l → get_or l.words k 0 ≡ bit_of (stream_word l.seed (32 * l.node + k));
}
