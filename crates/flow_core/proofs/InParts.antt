-- The parts of a folder: each pair is in just one, and each part is sorted, so that only the pairs count and not their order.
use Rattle.std.proofs.Common.{◌≡◌, Bool, ℕ, ◌<◌, ◌≤◌, eqb, List, arith}
use Rattle.std.specs.Prelude.{bit_and}
use Rattle.std.specs.List.{All, flat_map, range_with_len}
use Rattle.std.specs.List.Sorted.{IsPermutation}
use Rattle.std.proofs.lemmas.Nat.{mod_below}
use Rattle.std.proofs.lemmas.List.Elements.{All-filter}
use Rattle.std.proofs.lemmas.List.Sorted.{All-permutation, IsPermutation-trans}
use Rattle.partition.specs.Hash.{part_among, hash_of}
use Rattle.spill.specs.Runs.{of_part}
use Rattle.pairs.specs.Pairs.{Pair, pair_before, sorted_pairs}
use Rattle.pairs.proofs.PairLemmas.{pair_order, sorted_is_permutation, permutations_sort_alike}
use Rattle.list_laws.proofs.Alls.{all_each}
use Rattle.list_laws.proofs.Ranges.{once_in_range}
use Rattle.list_laws.specs.Classes.{IsOnce}
use Rattle.list_laws.proofs.Classes.{classes}
use Rattle.list_laws.proofs.Orders.{permuted_filter}
use Rattle.list_laws.proofs.Permutations.{permuted_each}

part_small : (key : List ℕ) (reducers : ℕ) → 1 ≤ reducers → part_among key reducers < reducers
part_small key reducers some = mod_below (bit_and (hash_of key) 0x7fffffff) reducers (omega arith)

pub part_once : (key : List ℕ) (reducers : ℕ) → 1 ≤ reducers → IsOnce (λ r. eqb (part_among key reducers) r) (range_with_len 0 reducers)
part_once key reducers some = record {
  one = part_among key reducers;
  is = once_in_range (part_among key reducers) 0 reducers (omega arith) (omega (arith, part_small key reducers some));
}

-- the sorted pairs of all parts are the pairs
pub all_parts : (reducers : ℕ) (ps : List Pair) → 1 ≤ reducers → IsPermutation ps (flat_map (λ r. sorted_pairs (of_part reducers r ps)) (range_with_len 0 reducers))
all_parts reducers ps some =
    let same : Pair → ℕ → Bool = λ (p : Pair) r. eqb (part_among p.0 reducers) r in
    let parts = range_with_len 0 reducers in
    IsPermutation-trans ps (flat_map (λ r. of_part reducers r ps) parts) (flat_map (λ r. sorted_pairs (of_part reducers r ps)) parts) (classes same parts ps (all_each (λ p. IsOnce (same p) parts) (λ p. part_once p.0 reducers some) ps)) (permuted_each (λ r. of_part reducers r ps) (λ r. sorted_pairs (of_part reducers r ps)) parts (all_each (λ r. IsPermutation (of_part reducers r ps) (sorted_pairs (of_part reducers r ps))) (λ r. sorted_is_permutation (of_part reducers r ps)) parts))

pub same_part : (reducers r : ℕ) (ps qs : List Pair) → IsPermutation ps qs → sorted_pairs (of_part reducers r ps) ≡ sorted_pairs (of_part reducers r qs)
same_part reducers r ps qs moved =
    permutations_sort_alike (of_part reducers r ps) (of_part reducers r qs) (permuted_filter pair_before pair_order (λ (p : Pair). eqb (part_among p.0 reducers) r) ps qs moved)

pub all_of_part : (P : Pair → Type 0) (reducers r : ℕ) (ps : List Pair) → All P ps → All P (sorted_pairs (of_part reducers r ps))
all_of_part P reducers r ps all =
    All-permutation P (of_part reducers r ps) (sorted_pairs (of_part reducers r ps)) (sorted_is_permutation (of_part reducers r ps)) (All-filter (λ (p : Pair). eqb (part_among p.0 reducers) r) P ps all)
