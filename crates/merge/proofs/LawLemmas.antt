-- The laws of merges.
use Rattle.std.proofs.Common.{refl, ℕ, ◌*◌, length, arith, length-drop}
use Rattle.digit_names.specs.Digits.{digits}
use Rattle.merge.specs.Laws.{LeastFirstPairComesFirst, MergeNamesByExample, PassesAreNeeded, TenAreLeftAtMost}
use Rattle.merge.specs.Runs.{after_passes, merge_name, passes}
use Rattle.merge.proofs.MergeLemmas.{merged_step}
use Rattle.merge.proofs.PassLemmas.{length_after}

pub least_first_pair_comes_first : LeastFirstPairComesFirst
least_first_pair_comes_first lists list least others ordered inside is first =
    merged_step lists list least others inside is ordered first

pub ten_are_left_at_most : TenAreLeftAtMost
ten_are_left_at_most lists =
    let count : ℕ = passes (length lists) in
    let long = length_after count lists in
    let left = length-drop (10 * count) (after_passes count lists) in
    omega (arith, long, left)

pub passes_are_needed : PassesAreNeeded
passes_are_needed runs = (λ few. omega arith, λ many. omega arith)

pub names_by_example : MergeNamesByExample
unfolding merge_name digits
names_by_example = (refl, refl)
