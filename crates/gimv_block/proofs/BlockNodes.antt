-- The nodes of blocks.
use Rattle.std.proofs.Common.{◌≡◌, sym, ap, ◌∙◌, ℕ, zero, suc, ◌+◌, ◌-◌, ◌*◌, ◌/◌, ◌<◌, ◌≤◌, min, List, ◌∷◌, ◌++◌, inl, inr, arith}
use Rattle.std.specs.List.{All, flat_map, range_with_len}
use Rattle.std.proofs.Math.Nat.{mul-le-mul_right, suc-mul}
use Rattle.std.proofs.lemmas.Bool.{cases_lt}
use Rattle.std.proofs.lemmas.Nat.{div-add-mod', mod_below, mul-le}
use Rattle.std.proofs.lemmas.Grind.{div_ceil_times}
use Rattle.gimv_block.specs.Blocks.{block_count, block_size, block_of, offset_of, node_at, nodes_of_block, all_blocks, HasOffset, NodesHaveOffsets, BlocksAreAllNodes}
use Rattle.std.proofs.lemmas.List.Elements.{All-nil, All-cons, All-weaker}

-- the numbers of a range lie in it
pub all_in_range : (a n : ℕ) → All (λ i. (a ≤ i) × (i < a + n)) (range_with_len a n)
all_in_range a zero = All-nil (λ i. (a ≤ i) × (i < a + 0))
all_in_range a (suc n) =
    All-cons (λ i. (a ≤ i) × (i < a + suc n)) a (range_with_len (a + 1) n) (omega arith, omega arith)
    (All-weaker (λ i. (a + 1 ≤ i) × (i < (a + 1) + n)) (λ i. (a ≤ i) × (i < a + suc n)) (λ i h. (omega (arith, h.0), omega (arith, h.1))) (range_with_len (a + 1) n) (all_in_range (a + 1) n))

pub range_append : (a x y : ℕ) → range_with_len a (x + y) ≡ range_with_len a x ++ range_with_len (a + x) y
range_append a zero y = let none : 0 + y ≡ y = omega arith in let here : a ≡ a + 0 = omega arith in ap (range_with_len a) none ∙ ap (λ (k : ℕ). range_with_len k y) here
range_append a (suc x) y =
    let more : suc x + y ≡ suc (x + y) = omega arith in
    let next : (a + 1) + x ≡ a + suc x = omega arith in
    ap (range_with_len a) more ∙ ap (λ (l : List ℕ). a ∷ l) (range_append (a + 1) x y ∙ ap (λ (k : ℕ). range_with_len (a + 1) x ++ range_with_len k y) next)

-- where a block stands among the nodes
pub record IsPlaced (len n j : ℕ) : Type 0 where
  pub start : j * len < n
  pub some : 1 ≤ block_size len n j
  pub short : block_size len n j ≤ len
  pub end : j * len + block_size len n j ≤ n

pub block_placed : (len n j : ℕ) → 1 ≤ len → j < block_count len n → IsPlaced len n j
block_placed len n j some low =
    let times = div_ceil_times n len (omega arith) in
    let most : suc j * len ≤ block_count len n * len = mul-le-mul_right len (omega arith) in
    let start : j * len < n = omega (arith, times.1, most, suc-mul j len) in record {
      start = start;
      some = omega (arith, start);
      short = omega arith;
      end = omega (arith, start);
    }

-- a node's block is one of all, and its place there below the block's size
pub block_low : (len n i : ℕ) → 1 ≤ len → i < n → block_of len i < block_count len n
block_low len n i some low =
    let times = div_ceil_times n len (omega arith) in
    elim (cases_lt (i / len) (block_count len n)) [
      | inl lt ↦ lt
      | inr ge ↦ let most : block_count len n * len ≤ i / len * len = mul-le-mul_right len ge in absurd (omega (arith, times.0, most, div-add-mod' i len))
    ]

pub offset_low : (len n i : ℕ) → 1 ≤ len → i < n → offset_of len i < block_size len n (block_of len i)
offset_low len n i some low = omega (arith, div-add-mod' i len, mod_below i len (omega arith))

pub offset_short : (len i : ℕ) → 1 ≤ len → offset_of len i < len
offset_short len i some = mod_below i len (omega arith)

pub node_back : (len i : ℕ) → node_at len (block_of len i) (offset_of len i) ≡ i
node_back len i = div-add-mod' i len

pub count_low : (len n : ℕ) → 1 ≤ len → block_count len n ≤ n
count_low len n some =
    let times = div_ceil_times n len (omega arith) in
    elim (cases_lt n (block_count len n)) [
      | inl lt ↦ let most : suc n * len ≤ block_count len n * len = mul-le-mul_right len (omega arith) in
          let own : n * 1 ≤ n * len = mul-le n 1 n len (omega arith) some in absurd (omega (arith, times.1, most, own, suc-mul n len))
      | inr ge ↦ ge
    ]

-- the nodes of a block are these
pub nodes_in_block : (len n j : ℕ) → 1 ≤ len → j < block_count len n → All (λ i. (j * len ≤ i) × (i < n)) (nodes_of_block len n j)
nodes_in_block len n j some low =
    let placed = block_placed len n j some low in
    All-weaker (λ i. (j * len ≤ i) × (i < j * len + block_size len n j)) (λ i. (j * len ≤ i) × (i < n)) (λ i h. (h.0, omega (arith, h.1, placed.end))) (nodes_of_block len n j) (all_in_range (j * len) (block_size len n j))

-- those of blocks that follow each other are nodes that follow each other
following : (len n j c : ℕ) → flat_map (nodes_of_block len n) (range_with_len j c) ≡ range_with_len (j * len) (min (c * len) (n - j * len))
following len n j zero = let none : min (0 * len) (n - j * len) ≡ 0 = omega arith in ap (range_with_len (j * len)) (sym none)
following len n j (suc c) =
    let size = block_size len n j in
    let rest = min (c * len) (n - (j + 1) * len) in
    let next : (j + 1) * len ≡ j * len + len = ap (λ k. k * len) (omega arith) ∙ suc-mul j len ∙ omega arith in
    let same : range_with_len ((j + 1) * len) rest ≡ range_with_len (j * len + size) rest =
    elim (cases_lt size len) [
      | inl lt ↦ let none : rest ≡ 0 = omega (arith, lt, next) in ap (range_with_len ((j + 1) * len)) none ∙ ap (range_with_len (j * len + size)) (sym none)
      | inr ge ↦ ap (λ k. range_with_len k rest) (omega (arith, ge, next))
    ] in
    ap (λ (l : List ℕ). nodes_of_block len n j ++ l) (following len n (j + 1) c ∙ same)
    ∙ sym (range_append (j * len) size rest) ∙ ap (range_with_len (j * len)) (omega (arith, next, suc-mul c len))

pub all_nodes_of_blocks : BlocksAreAllNodes
all_nodes_of_blocks len n some =
    let times = div_ceil_times n len (omega arith) in
    let most = block_count len n * len in
    let none : 0 * len ≡ 0 = omega arith in
    let all : min most (n - 0 * len) ≡ n = omega (arith, times.0) in
    following len n 0 (block_count len n) ∙ ap (λ (k : ℕ). range_with_len k (min most (n - 0 * len))) none ∙ ap (range_with_len 0) all

pub nodes_have_offsets : NodesHaveOffsets
nodes_have_offsets len n i some low = record { block = block_low len n i some low; offset = offset_low len n i some low; back = node_back len i }
