use Rattle.std.proofs.Common.{◌≡◌, ◌==◌, length, drop, map}
use Rattle.std.specs.List.{slice_split}
use Rattle.bitstrings.specs.Options.{all_some}
use Rattle.bitstrings.specs.Texts.{sum_of}
use Rattle.bitstrings.proofs.Lists.{prefixed}
use Rattle.bitstrings.proofs.read.read_sums.Given as goal

abbrev pub invariant-loop-part : goal.invariant-loop-part
invariant-loop-part l =
    prefixed l.sums.items (all_some (map sum_of (drop (length l.yielded) (slice_split (λ b. b == 58) l.text)))) ≡ all_some (map sum_of (slice_split (λ b. b == 58) l.text))
