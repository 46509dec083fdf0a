use Rattle.std.proofs.Common.{◌≡◌, take, fold}
use Rattle.partition.specs.Hash.{with_byte}
use Rattle.partition.proofs.hash.Given as goal

abbrev pub invariant-loop-byte : goal.invariant-loop-byte
invariant-loop-byte l = l.hash ≡ fold with_byte 1 (take l.byte-index l.key)
