use Rattle.std.proofs.Common.{◌≡◌, map, take}
use Rattle.std.specs.String.{string_bytes}
use Rattle.run_mem.proofs.bundled.strings_of.Given as goal

abbrev pub invariant-loop-at : goal.invariant-loop-at
invariant-loop-at l = map string_bytes l.strings.items ≡ take l.at l.words
