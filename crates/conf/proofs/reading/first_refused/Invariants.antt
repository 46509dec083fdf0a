use Rattle.std.proofs.Common.{◌≡◌, ℕ, ◌<◌, map, false}
use Rattle.std.specs.String.{string_bytes}
use Rattle.conf.specs.Rules.{refuses_word}
use Rattle.conf.proofs.reading.first_refused.Given as goal

abbrev pub invariant-loop-at : goal.invariant-loop-at
invariant-loop-at l = (j : ℕ) → j < l.at → refuses_word (map string_bytes l.words) j ≡ false
