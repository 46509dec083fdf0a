-- The splits of a file of some length.
use Rattle.std.specs.Prelude.{◌≡◌, ℕ, ◌+◌, ◌*◌, ◌<◌, List, [], ◌∷◌, map, min, max}
use Rattle.std.specs.Int.{div_ceil}
use Rattle.std.specs.List.{range_with_len}
use Rattle.splits.specs.declared.table.Split.{Split}

-- how long each split is but the last one: longer than is asked for where there would be more than 4,096
abbrev pub split_length : ℕ → ℕ → ℕ
split_length len split = max split (div_ceil len 4096)

-- the split of this number, in a file of `len` bytes
abbrev pub split_at : ℕ → ℕ → ℕ → Split
split_at len length number =
    record { start = number * length; end = min ((number + 1) * length) len }

-- the splits of a file of `len` bytes, where splits of `split` bytes are asked for
unfoldable pub splits_of : ℕ → ℕ → List Split
splits_of len split =
    let length = split_length len split in map (split_at len length) (range_with_len 0 (div_ceil len length))

-- each split begins where the one before it ends, and none is empty
abbrev pub FollowEachOther : ℕ → List Split → ℕ → Type 0
FollowEachOther start [] end = start ≡ end
FollowEachOther start (split ∷ splits) end =
    (split.start ≡ start) × (start < split.end) × FollowEachOther split.end splits end
