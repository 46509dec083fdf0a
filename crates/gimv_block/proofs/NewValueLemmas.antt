-- New values, node by node.
use Rattle.std.proofs.Common.{◌≡◌, ℕ, zero, suc, ◌+◌, ◌<◌, List, ◌∷◌, [], map, sum_by, refl, sym, ap, ◌∙◌, arith}
use Rattle.std.specs.List.{range_with_len}
use Rattle.std.proofs.lemmas.List.Sums.{sum_by-cons}
use Rattle.graph.specs.Steps.{Vector}
use Rattle.gimv_core.specs.Algebras.{Algebra}
use Rattle.gimv_block.specs.BlockRules.{new_values, changed_values}
use Rattle.gimv_block.specs.BlockValues.{differs, NewValuesAreMade}

module _ {Val Msg Weight : Type 0} (a : Algebra Val Msg Weight) where
  values_made : (all : ℕ → Msg) (v next : Vector Val) (row i c : ℕ) → ((o : ℕ) → o < c → a.algorithm.assign (v (i + o)) (all (row + o)) ≡ next (i + o)) → new_values a all row (map v (range_with_len i c)) ≡ map next (range_with_len i c)
  values_made all v next row i zero each = refl
  values_made all v next row i (suc c) each =
      let node : i + 0 ≡ i = omega arith in
      let there : row + 0 ≡ row = omega arith in
      let first : a.algorithm.assign (v i) (all row) ≡ next i =
      sym (ap (λ (k : ℕ). a.algorithm.assign (v k) (all (row + 0))) node ∙ ap (λ (k : ℕ). a.algorithm.assign (v i) (all k)) there) ∙ each 0 (omega arith) ∙ ap next node in
      ap (λ (w : Val). w ∷ new_values a all (row + 1) (map v (range_with_len (i + 1) c))) first
      ∙ ap (λ (ws : List Val). next i ∷ ws) (values_made all v next (row + 1) (i + 1) c (λ o low.
      let node : i + suc o ≡ (i + 1) + o = omega arith in
      let there : row + suc o ≡ (row + 1) + o = omega arith in
      sym (ap (λ (k : ℕ). a.algorithm.assign (v k) (all (row + suc o))) node ∙ ap (λ (k : ℕ). a.algorithm.assign (v ((i + 1) + o)) (all k)) there) ∙ each (suc o) (omega arith) ∙ ap next node))

  changes_made : (v next : Vector Val) (is : List ℕ) → changed_values a (map v is) (map next is) ≡ sum_by (differs a.algorithm v next) is
  changes_made v next [] = refl
  changes_made v next (i ∷ is) = ap (λ (k : ℕ). differs a.algorithm v next i + k) (changes_made v next is) ∙ sym (sum_by-cons (differs a.algorithm v next) i is)

pub new_values_are_made : {Val Msg Weight : Type 0} → NewValuesAreMade Val Msg Weight
new_values_are_made {Val} {Msg} {Weight} a all old new start size each = record {
  values = values_made a all old new 0 start size (λ o low. let there : 0 + o ≡ o = omega arith in ap (λ (k : ℕ). a.algorithm.assign (old (start + o)) (all k)) there ∙ each o low);
  changed = changes_made a old new (range_with_len start size);
}
