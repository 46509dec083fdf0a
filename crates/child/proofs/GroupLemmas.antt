-- The complete groups of records, where one more comes.
use Rattle.std.proofs.Common.{◌≡◌, ℕ, Bool, true, false, ◌&&◌, List, [], ◌∷◌, ◌++◌, Some, None, refl, sym, ap, ◌∙◌, inl, inr}
use Rattle.std.specs.List.{list_all}
use Rattle.std.proofs.lemmas.Bool.{cases_Bool, cond-true, cond-false, and_parts, and_from}
use Rattle.std.proofs.lemmas.List.Folds.{list_all-append}
use Rattle.std.proofs.lemmas.Slice.Eq.{bytes_eq-Decides}
use Rattle.peg_text.specs.Pairs.{key_of}
use Rattle.gimv_base.specs.Rules.{has_key, complete_groups}
use Rattle.child.specs.Handing.{last_key}

same_key : (key r : List ℕ) → has_key key r ≡ true → key_of r ≡ key
same_key key r is = (bytes_eq-Decides (key_of r) key).0 is

some_key : (a b : List ℕ) → Some a ≡ Some b → a ≡ b
some_key a b e = cc

none_is_some : (a : List ℕ) → None ≡ Some a → ⊥
none_is_some a e = cc

-- where all records have the key of the first, the last one has
last_of_one_group : (s : List ℕ) (rs : List (List ℕ)) (key : List ℕ) → last_key (s ∷ rs) ≡ Some key → list_all (has_key (key_of s)) rs ≡ true → key_of s ≡ key
last_of_one_group s [] key last all = some_key (key_of s) key last
last_of_one_group s (t ∷ rs) key last all =
    let parts = and_parts (has_key (key_of s) t) (list_all (has_key (key_of s)) rs) all in
    let same : key_of t ≡ key_of s = same_key (key_of s) t parts.0 in
    sym same ∙ last_of_one_group t rs key last (ap (λ (k : List ℕ). list_all (has_key k) rs) same ∙ parts.1)

pub last_key-more : (rs : List (List ℕ)) (r : List ℕ) → last_key (rs ++ (r ∷ [])) ≡ Some (key_of r)
last_key-more [] r = refl
last_key-more (s ∷ []) r = refl
last_key-more (s ∷ t ∷ rs) r = last_key-more (t ∷ rs) r

both_false : (x y : Bool) → x ≡ false → (x && y) ≡ false
both_false x y is = ap (λ (b : Bool). b && y) is

second_false : (x y : Bool) → x ≡ true → y ≡ false → (x && y) ≡ false
second_false x y is isnt = ap (λ (b : Bool). b && y) is ∙ isnt

one_more : (p : List ℕ → Bool) (rs : List (List ℕ)) (r : List ℕ) → list_all p (rs ++ (r ∷ [])) ≡ (list_all p rs && (p r && true))
one_more p rs r = list_all-append p rs (r ∷ [])

module _ (s t : List ℕ) (rs : List (List ℕ)) (r : List ℕ) where
  abbrev p : List ℕ → Bool
  p = has_key (key_of s)

  -- where some record has another key than the first, that one is complete
  first_complete : list_all p (t ∷ rs) ≡ false → complete_groups (s ∷ t ∷ (rs ++ (r ∷ []))) ≡ s ∷ complete_groups (t ∷ (rs ++ (r ∷ [])))
  first_complete other = cond-false _ _ _ (one_more p (t ∷ rs) r ∙ both_false _ _ other)

  still_open : list_all p (t ∷ rs) ≡ true → p r ≡ true → complete_groups (s ∷ t ∷ (rs ++ (r ∷ []))) ≡ []
  still_open all of_s = cond-true _ _ _ (one_more p (t ∷ rs) r ∙ and_from _ _ all (and_from _ _ of_s refl))

  now_complete : p r ≡ false → complete_groups (s ∷ t ∷ (rs ++ (r ∷ []))) ≡ s ∷ complete_groups (t ∷ (rs ++ (r ∷ [])))
  now_complete isnt =
      elim (cases_Bool (list_all p (t ∷ rs))) [
        | inl all ↦ cond-false _ _ _ (one_more p (t ∷ rs) r ∙ second_false _ _ all (both_false _ _ isnt))
        | inr other ↦ first_complete other
      ]

-- a record of the key of the last one goes on with its group
pub complete_groups-same : (rs : List (List ℕ)) (r key : List ℕ) → last_key rs ≡ Some key → has_key key r ≡ true → complete_groups (rs ++ (r ∷ [])) ≡ complete_groups rs
complete_groups-same [] r key last same = absurd (none_is_some key last)
complete_groups-same (s ∷ []) r key last same =
    let of_s : has_key (key_of s) r ≡ true = ap (λ (k : List ℕ). has_key k r) (some_key (key_of s) key last) ∙ same in
    cond-true _ _ _ (and_from _ _ of_s refl)
complete_groups-same (s ∷ t ∷ rs) r key last same =
    elim (cases_Bool (list_all (has_key (key_of s)) (t ∷ rs))) [
      | inl all ↦
          let of_s : has_key (key_of s) r ≡ true = ap (λ (k : List ℕ). has_key k r) (last_of_one_group s (t ∷ rs) key last all) ∙ same in
          still_open s t rs r all of_s ∙ sym (cond-true _ _ _ all)
      | inr other ↦
          first_complete s t rs r other ∙ ap (λ (gs : List (List ℕ)). s ∷ gs) (complete_groups-same (t ∷ rs) r key last same) ∙ sym (cond-false _ _ _ other)
    ]

-- a record of another key than the last one completes all before it
pub complete_groups-other : (rs : List (List ℕ)) (r key : List ℕ) → last_key rs ≡ Some key → has_key key r ≡ false → complete_groups (rs ++ (r ∷ [])) ≡ rs
complete_groups-other [] r key last isnt = absurd (none_is_some key last)
complete_groups-other (s ∷ []) r key last isnt =
    let of_s : has_key (key_of s) r ≡ false = ap (λ (k : List ℕ). has_key k r) (some_key (key_of s) key last) ∙ isnt in
    cond-false _ _ _ (both_false _ _ of_s)
complete_groups-other (s ∷ t ∷ rs) r key last isnt =
    let rest = ap (λ (gs : List (List ℕ)). s ∷ gs) (complete_groups-other (t ∷ rs) r key last isnt) in
    elim (cases_Bool (list_all (has_key (key_of s)) (t ∷ rs))) [
      | inl all ↦
          let of_s : has_key (key_of s) r ≡ false = ap (λ (k : List ℕ). has_key k r) (last_of_one_group s (t ∷ rs) key last all) ∙ isnt in
          now_complete s t rs r of_s ∙ rest
      | inr other ↦ first_complete s t rs r other ∙ rest
    ]
