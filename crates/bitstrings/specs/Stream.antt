-- The words that a node begins with, from a stream of random words (O'Neill 2014).
use Rattle.std.specs.Prelude.{ℕ, ◌+◌, ◌*◌, ◌^◌, min, List, map}
use Rattle.std.specs.Int.{w32, trailing_zeros}
use Rattle.std.specs.List.{range_with_len}
use Rattle.rand_pcg.specs.Lcg.{Lcg, advance, started, increment_of}
use Rattle.rand_pcg.specs.Pcg.{multiplier_64, pcg32}

-- the generator of the seed, before its first word
abbrev pub stream_of : ℕ → Lcg
stream_of seed = started 64 multiplier_64 seed (increment_of 64 54)

-- a word of the stream, counted from 0
abbrev pub stream_word : ℕ → ℕ → ℕ
stream_word seed index = (pcg32 (advance 64 multiplier_64 index (stream_of seed))).0

-- the bit at the place of a word's lowest 1, so that each bit comes half as often as the one below it; the last one stands for all higher places
abbrev pub bit_of : ℕ → ℕ
bit_of word = 2 ^ min (trailing_zeros w32 word) 31

-- the words of a node before the first step, each with one bit
unfoldable pub first_words : ℕ → ℕ → List ℕ
first_words seed node = map (λ l. bit_of (stream_word seed (32 * node + l))) (range_with_len 0 32)
