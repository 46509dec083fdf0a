-- The hash of a key, and the part that the key belongs to.
use Rattle.std.specs.Prelude.{ℕ, ◌+◌, ◌*◌, ◌%◌, ◌^◌, List, fold, bit_and}

-- a hash with one more byte
abbrev pub with_byte : ℕ → ℕ → ℕ
with_byte h byte = (31 * h + byte) % 2 ^ 32

-- the hash begins at 1 and takes the bytes of the key, first to last
abbrev pub hash_of : List ℕ → ℕ
hash_of key = fold with_byte 1 key

-- the low 31 bits of the hash, spread over the parts
abbrev pub part_among : List ℕ → ℕ → ℕ
part_among key reducers = bit_and (hash_of key) 0x7fffffff % reducers
