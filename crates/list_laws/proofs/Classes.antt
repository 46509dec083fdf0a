-- Items of which each is in just one class.
use Rattle.std.proofs.Common.{◌≡◌, refl, sym, ap, ◌∙◌, Bool, List, [], ◌∷◌, ◌++◌, inl, inr}
use Rattle.std.specs.List.{All, filter, flat_map}
use Rattle.std.specs.List.Sorted.{IsPermutation}
use Rattle.std.proofs.lemmas.Bool.{cases_Bool}
use Rattle.std.proofs.lemmas.List.{append_assoc}
use Rattle.std.proofs.lemmas.List.Elements.{All-head, All-tail}
use Rattle.std.proofs.lemmas.List.Sorted.{IsPermutation-cons, IsPermutation-trans, IsPermutation-sym, IsPermutation-middle, IsPermutation-append_right}
use Rattle.list_laws.specs.Classes.{IsOnce, class}
use Rattle.list_laws.proofs.Permutations.{same_items, turned}

module _ {A K : Type 0} (same : A → K → Bool) where
  in_no_class : (x : A) (xs : List A) (ks : List K) → filter (same x) ks ≡ [] → flat_map (class same (x ∷ xs)) ks ≡ flat_map (class same xs) ks
  in_no_class x xs [] none = refl
  in_no_class x xs (k ∷ ks) none =
      elim (cases_Bool (same x k)) [
        | inl is ↦ let none' = rw is at none in cc
        | inr isnt ↦ let none' = rw isnt at none in rw isnt (ap (λ ys. class same xs k ++ ys) (in_no_class x xs ks none'))
      ]

  in_one_class : (x : A) (xs : List A) (ks : List K) (one : K) → filter (same x) ks ≡ one ∷ [] → IsPermutation (x ∷ flat_map (class same xs) ks) (flat_map (class same (x ∷ xs)) ks)
  in_one_class x xs [] one is = cc
  in_one_class x xs (k ∷ ks) one once =
      elim (cases_Bool (same x k)) [
        | inl is ↦
            let rest : filter (same x) ks ≡ [] = tail_is (filter (same x) ks) (rw is at once) in
            rw is (same_items (x ∷ (class same xs k ++ flat_map (class same xs) ks)) (x ∷ (class same xs k ++ flat_map (class same (x ∷ xs)) ks)) (ap (λ ys. x ∷ (class same xs k ++ ys)) (sym (in_no_class x xs ks rest))))
        | inr isnt ↦
            let once' = rw isnt at once in
            rw isnt (IsPermutation-trans (x ∷ (class same xs k ++ flat_map (class same xs) ks)) (class same xs k ++ (x ∷ flat_map (class same xs) ks)) (class same xs k ++ flat_map (class same (x ∷ xs)) ks) (IsPermutation-sym (class same xs k ++ (x ∷ flat_map (class same xs) ks)) (x ∷ (class same xs k ++ flat_map (class same xs) ks)) (IsPermutation-middle (class same xs k) x (flat_map (class same xs) ks))) (IsPermutation-append_right (class same xs k) (x ∷ flat_map (class same xs) ks) (flat_map (class same (x ∷ xs)) ks) (in_one_class x xs ks one once')))
      ]
    where
      tail_is : (l : List K) → k ∷ l ≡ one ∷ [] → l ≡ []
      tail_is l e = cc

  -- items, each of which is in just one class, class by class
  pub classes : (ks : List K) (xs : List A) → All (λ x. IsOnce (same x) ks) xs → IsPermutation xs (flat_map (class same xs) ks)
  classes ks [] all = same_items [] (flat_map (class same []) ks) (sym (nothing ks))
    where
      nothing : (ls : List K) → flat_map (class same []) ls ≡ []
      nothing [] = refl
      nothing (l ∷ ls) = nothing ls
  classes ks (x ∷ xs) all =
      let here = All-head (λ y. IsOnce (same y) ks) x xs all in
      IsPermutation-trans (x ∷ xs) (x ∷ flat_map (class same xs) ks) (flat_map (class same (x ∷ xs)) ks) (IsPermutation-cons x xs (flat_map (class same xs) ks) (classes ks xs (All-tail (λ y. IsOnce (same y) ks) x xs all))) (in_one_class x xs ks here.one here.is)

-- what is made of such items, class by class
module _ {A K B : Type 0} (same : A → K → Bool) (g : A → List B) where
  abbrev of_class : List A → K → List B
  of_class xs k = flat_map g (class same xs k)

  made_in_no_class : (x : A) (xs : List A) (ks : List K) → filter (same x) ks ≡ [] → flat_map (of_class (x ∷ xs)) ks ≡ flat_map (of_class xs) ks
  made_in_no_class x xs [] none = refl
  made_in_no_class x xs (k ∷ ks) none =
      elim (cases_Bool (same x k)) [
        | inl is ↦ let none' = rw is at none in cc
        | inr isnt ↦ let none' = rw isnt at none in rw isnt (ap (λ ys. of_class xs k ++ ys) (made_in_no_class x xs ks none'))
      ]

  made_in_one_class : (x : A) (xs : List A) (ks : List K) (one : K) → filter (same x) ks ≡ one ∷ [] → IsPermutation (g x ++ flat_map (of_class xs) ks) (flat_map (of_class (x ∷ xs)) ks)
  made_in_one_class x xs [] one is = cc
  made_in_one_class x xs (k ∷ ks) one once =
      elim (cases_Bool (same x k)) [
        | inl is ↦
            let rest : filter (same x) ks ≡ [] = tail_is (filter (same x) ks) (rw is at once) in
            rw is (same_items (g x ++ (of_class xs k ++ flat_map (of_class xs) ks)) ((g x ++ of_class xs k) ++ flat_map (of_class (x ∷ xs)) ks) (sym (append_assoc (g x) (of_class xs k) (flat_map (of_class xs) ks)) ∙ ap (λ ys. (g x ++ of_class xs k) ++ ys) (sym (made_in_no_class x xs ks rest))))
        | inr isnt ↦
            let once' = rw isnt at once in
            rw isnt (IsPermutation-trans (g x ++ (of_class xs k ++ flat_map (of_class xs) ks)) (of_class xs k ++ (g x ++ flat_map (of_class xs) ks)) (of_class xs k ++ flat_map (of_class (x ∷ xs)) ks) (turned [] (g x) (of_class xs k) (flat_map (of_class xs) ks)) (IsPermutation-append_right (of_class xs k) (g x ++ flat_map (of_class xs) ks) (flat_map (of_class (x ∷ xs)) ks) (made_in_one_class x xs ks one once')))
      ]
    where
      tail_is : (l : List K) → k ∷ l ≡ one ∷ [] → l ≡ []
      tail_is l e = cc

  pub made_by_class : (ks : List K) (xs : List A) → All (λ x. IsOnce (same x) ks) xs → IsPermutation (flat_map g xs) (flat_map (of_class xs) ks)
  made_by_class ks [] all = same_items [] (flat_map (of_class []) ks) (sym (nothing ks))
    where
      nothing : (ls : List K) → flat_map (of_class []) ls ≡ []
      nothing [] = refl
      nothing (l ∷ ls) = nothing ls
  made_by_class ks (x ∷ xs) all =
      let here = All-head (λ y. IsOnce (same y) ks) x xs all in
      IsPermutation-trans (g x ++ flat_map g xs) (g x ++ flat_map (of_class xs) ks) (flat_map (of_class (x ∷ xs)) ks) (IsPermutation-append_right (g x) (flat_map g xs) (flat_map (of_class xs) ks) (made_by_class ks xs (All-tail (λ y. IsOnce (same y) ks) x xs all))) (made_in_one_class x xs ks here.one here.is)
