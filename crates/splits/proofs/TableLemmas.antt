-- The splits of a file follow each other, and are few.
use Rattle.std.proofs.Common.{◌≡◌, ℕ, zero, suc, ◌+◌, ◌*◌, ◌<◌, ◌≤◌, List, [], ◌∷◌, ◌++◌, length, map, min, max, sym, ap, ◌∙◌, subst, arith}
use Rattle.std.specs.Int.{div_ceil}
use Rattle.std.specs.List.{range_with_len}
use Rattle.std.proofs.Math.Nat.{mul-le-mul_right, lt_of_mul-lt-mul_right, min-eq_left, min-eq_right, le-max_left, le-max_right}
use Rattle.std.proofs.lemmas.Grind.{div_ceil_times}
use Rattle.std.proofs.lemmas.List.FromFn.{length-map-range_with_len, map-range_with_len_more}
use Rattle.splits.specs.declared.table.Split.{Split}
use Rattle.splits.specs.Table.{split_length, split_at, splits_of, FollowEachOther}

module _ (len size total : ℕ) where
  pub follow_from : ((k : ℕ) → k < total → k * size < len) → len ≤ total * size → 1 ≤ size → (n a : ℕ) → a + n ≡ total → FollowEachOther (min (a * size) len) (map (split_at len size) (range_with_len a n)) len
  follow_from below over some zero a is =
      let all : a ≡ total = omega arith in
      min-eq_right (subst (λ t. len ≤ t * size) (sym all) over)
  follow_from below over some (suc n) a is =
      let inside : a < total = omega arith in
      let starts : a * size < len = below a inside in
      let low : a * size ≤ len = omega arith in (
        sym (min-eq_left low),
        omega (arith, starts),
        follow_from below over some n (a + 1) (omega arith),
      )

-- a number below the count is a split that begins in the file
below_count : (len size : ℕ) → 1 ≤ size → (k : ℕ) → k < div_ceil len size → k * size < len
below_count len size some k low =
    let times = div_ceil_times len size (omega arith) in
    let more = mul-le-mul_right {m = k + 1} {n = div_ceil len size} size (omega arith) in
    omega (arith, times.1, more)

some_length : (len split : ℕ) → 1 ≤ split → 1 ≤ split_length len split
some_length len split some = omega (arith, le-max_left split (div_ceil len 4096))

pub few_splits : (len size : ℕ) → 1 ≤ size → div_ceil len 4096 ≤ size → div_ceil len size ≤ 4096
few_splits len size some long =
    let most = div_ceil_times len 4096 (omega arith) in
    let times = div_ceil_times len size (omega arith) in
    let enough = mul-le-mul_right 4096 long in
    let few : div_ceil len size < 4097 = lt_of_mul-lt-mul_right size (omega (arith, most.0, times.1, enough)) in
    omega arith

pub splits_follow : (len split : ℕ) → 1 ≤ split → FollowEachOther 0 (splits_of len split) len
unfolding splits_of
splits_follow len split some =
    let size = split_length len split in
    let is_some : 1 ≤ size = some_length len split some in
    let none : min (0 * size) len ≡ 0 = omega arith in
    subst (λ start. FollowEachOther start (map (split_at len size) (range_with_len 0 (div_ceil len size))) len) none (follow_from len size (div_ceil len size) (below_count len size is_some) (div_ceil_times len size (omega arith)).0 is_some (div_ceil len size) 0 (omega arith))

pub splits_are_few : (len split : ℕ) → 1 ≤ split → length (splits_of len split) ≤ 4096
unfolding splits_of
splits_are_few len split some =
    let size = split_length len split in
    let count = length-map-range_with_len (split_at len size) 0 (div_ceil len size) in
    omega (arith, count, few_splits len size (some_length len split some) (le-max_right split (div_ceil len 4096)))

-- a list of the first splits, at the numbers that the code computes
pub splits_made : (len split least size count number : ℕ) → least ≡ div_ceil len 4096 → size ≡ max split least → count ≡ div_ceil len size → number ≡ count → map (split_at len size) (range_with_len 0 number) ≡ splits_of len split
unfolding splits_of
splits_made len split least size count number is_least is_size is_count all =
    let long : size ≡ split_length len split = is_size ∙ ap (max split) is_least in
    ap (λ s. map (split_at len s) (range_with_len 0 number)) long ∙ ap (λ n. map (split_at len (split_length len split)) (range_with_len 0 n)) (all ∙ is_count ∙ ap (div_ceil len) long)

pub one_split_more : (len size number end : ℕ) (splits : List Split) → splits ≡ map (split_at len size) (range_with_len 0 number) → end ≡ min ((number + 1) * size) len → splits ++ record { start = number * size; end = end } ∷ [] ≡ map (split_at len size) (range_with_len 0 (number + 1))
one_split_more len size number end splits sofar is =
    ap (λ (s : List Split). s ++ record { start = number * size; end = end } ∷ []) sofar ∙ ap (λ (e : ℕ). let s : Split = record { start = number * size; end = e } in map (split_at len size) (range_with_len 0 number) ++ s ∷ []) is ∙ sym (map-range_with_len_more (split_at len size) 0 number number (omega arith))
