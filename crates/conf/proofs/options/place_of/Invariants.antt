use Rattle.std.proofs.Common.{◌≡◌, map, drop}
use Rattle.std.specs.String.{string_bytes}
use Rattle.conf.specs.Options.{place_from, place_of}
use Rattle.conf.proofs.options.place_of.Given as goal

abbrev pub invariant-loop-at : goal.invariant-loop-at
invariant-loop-at l =
    let words = map string_bytes l.words in place_from l.setting l.at (drop l.at words) ≡ place_of words l.setting
