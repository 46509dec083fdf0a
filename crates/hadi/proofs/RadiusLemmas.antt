-- The sums that a node keeps are those of its words after each step, so its number is its radius.
use Rattle.std.proofs.Common.{◌≡◌, ℕ, zero, suc, ◌+◌, ◌-◌, ◌<◌, ◌≤◌, Bool, ltb, leb, List, [], ◌∷◌, ◌++◌, length, get_or, map, refl, sym, ap, subst, ◌∙◌, inl, inr, arith}
use Rattle.std.specs.List.{range_with_len, position_or_len}
use Rattle.std.proofs.lemmas.Bool.{cond-true, lt-ltb, leb-true, leb-false, cases_lt}
use Rattle.std.proofs.lemmas.List.FromFn.{length-map-range_with_len, get_or-map-range_with_len, map-range_with_len_more}
use Rattle.std.proofs.lemmas.List.Sums.{passes_at_first, fails_before_first}
use Rattle.graph.specs.declared.edges.One.{One}
use Rattle.graph.specs.Entries.{Entry}
use Rattle.bitstrings.specs.Radius.{last_sum, radius, appended}
use Rattle.hadi.specs.Radii.{kept_after, sum_after, IsRadius, NumbersAreRadii}

appended_one : (sums : List ℕ) (s : ℕ) → length sums < 257 → appended sums s ≡ sums ++ s ∷ []
appended_one sums s few = cond-true (ltb (length sums) 257) (sums ++ s ∷ []) sums (lt-ltb (length sums) 257 few)

module _ (seed : ℕ) (entries : List (Entry One)) (node : ℕ) where
  sums_to : ℕ → List ℕ
  sums_to k = map (λ h. sum_after seed entries h node) (range_with_len 0 (k + 1))

  long : (k : ℕ) → length (sums_to k) ≡ k + 1
  unfolding sums_to
  long k = length-map-range_with_len (λ h. sum_after seed entries h node) 0 (k + 1)

  at : (k h : ℕ) → h ≤ k → get_or (sums_to k) h 0 ≡ sum_after seed entries h node
  unfolding sums_to
  at k h le = get_or-map-range_with_len (λ j. sum_after seed entries j node) 0 (k + 1) h h 0 (omega arith) (omega arith)

  sums_are : (k : ℕ) → k ≤ 256 → (kept_after seed entries k node).sums ≡ sums_to k
  unfolding sums_to
  sums_are zero few = refl
  sums_are (suc k) few =
      let before = sums_are k (omega arith) in
      let s = sum_after seed entries (suc k) node in
      let e : suc k + 1 ≡ k + 1 + 1 = omega arith in
      ap (λ xs. appended xs s) before ∙ appended_one (sums_to k) s (omega (arith, long k))
      ∙ sym (ap (λ n. map (λ h. sum_after seed entries h node) (range_with_len 0 n)) e ∙ map-range_with_len_more (λ h. sum_after seed entries h node) 0 (k + 1) (suc k) (omega arith))

  last_is : (k : ℕ) → last_sum (sums_to k) ≡ sum_after seed entries k node
  last_is k =
      let e : length (sums_to k) - 1 ≡ k = omega (arith, long k) in
      ap (λ i. get_or (sums_to k) i 0) e ∙ at k k (omega arith)

  is_radius : (k : ℕ) → IsRadius seed entries k node (radius (sums_to k))
  is_radius k =
      let xs = sums_to k in
      let last = last_sum xs in
      let test : ℕ → Bool = λ s. leb (last - s) 4 in
      let h = position_or_len test xs in
      let is = last_is k in
      let inside : h ≤ k =
      elim (cases_lt k h) [
        | inl past ↦
            let fails = leb-false (last - get_or xs k 0) 4 (fails_before_first test xs k 0 past) in
            let here = at k k (omega arith) in absurd (omega arith)
        | inr le ↦ le
      ] in
      let found = leb-true (last - get_or xs h 0) 4 (passes_at_first test xs 0 (omega (arith, long k))) in
      record {
        within = inside;
        near = omega (arith, found, is, at k h inside);
        apart = λ j lt. omega (arith, leb-false (last - get_or xs j 0) 4 (fails_before_first test xs j 0 lt), is, at k j (omega arith));
      }

pub numbers_are_radii : NumbersAreRadii
numbers_are_radii seed entries k node few =
    subst (λ sums. IsRadius seed entries k node (radius sums)) (sym (sums_are seed entries node k few)) (is_radius seed entries node k)
