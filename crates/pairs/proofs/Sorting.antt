-- Lists in the order of a test that orders all items.
use Rattle.std.proofs.Common.{◌≡◌, ◌∙◌, ap, sym, refl, ℕ, zero, suc, ◌<◌, Bool, true, false, if◌then◌else◌, ◌⊎◌, inl, inr, ⊎_elim, List, [], ◌∷◌, length, get_or, set, arith}
use Rattle.std.specs.List.{All, swap}
use Rattle.std.specs.List.Sorted.{IsPermutation}
use Rattle.std.proofs.lemmas.Bool.{false≢true, cases_Bool, cases_eq}
use Rattle.std.proofs.lemmas.List.{length-set, get_or-set_same, get_or-set_other}
use Rattle.std.proofs.lemmas.List.Edits.{swap_is}
use Rattle.std.proofs.lemmas.List.Elements.{All-head}
use Rattle.std.proofs.lemmas.List.Sorted.{IsPermutation-refl, IsPermutation-cons, IsPermutation-trans, IsPermutation-sym, IsPermutation-middle, IsPermutation-keeps}
use Rattle.pairs.specs.Sorting.{inserted, in_order}

-- a test that orders all items: of two it lets one at least stand before the other, and both only where they are one
pub record IsOrder {A : Type 0} (before : A → A → Bool) : Type 0 where
  pub total : (x y : A) → before x y ≡ false → before y x ≡ true
  pub same : (x y : A) → before x y ≡ true → before y x ≡ true → x ≡ y
  pub further : (x y z : A) → before x y ≡ true → before y z ≡ true → before x z ≡ true

-- each item may stand before the next
pub data Rises {A : Type 0} (before : A → A → Bool) : List A → Type 0 where
  RisesNone : Rises before []
  RisesOne : (x : A) → Rises before (x ∷ [])
  RisesMore : (x y : A) (ys : List A) → before x y ≡ true → Rises before (y ∷ ys) → Rises before (x ∷ y ∷ ys)

module _ {A : Type 0} (before : A → A → Bool) (order : IsOrder before) where
  itself : (x : A) → before x x ≡ true
  itself x =
      ⊎_elim (λ yes. yes) (λ no. order.total x x no) (cases_Bool (before x x))

  -- ---- two items go in in any order

  both_in : (x y : A) (zs : List A) → before x y ≡ true → before y x ≡ true → x ∷ y ∷ zs ≡ y ∷ x ∷ zs
  both_in x y zs xy yx =
      let one : x ≡ y = order.same x y xy yx in
      ap (λ (v : A). v ∷ y ∷ zs) one ∙ ap (λ (v : A). y ∷ v ∷ zs) (sym one)

  front_comm : (x y : A) (zs : List A) → (if before x y then x ∷ y ∷ zs else y ∷ x ∷ zs) ≡ (if before y x then y ∷ x ∷ zs else x ∷ y ∷ zs)
  front_comm x y zs =
      ⊎_elim (λ (xy : before x y ≡ true). ⊎_elim (λ (yx : before y x ≡ true). rw (xy, yx) (both_in x y zs xy yx)) (λ (not_yx : before y x ≡ false). rw (xy, not_yx) refl) (cases_Bool (before y x))) (λ (not_xy : before x y ≡ false). let yx : before y x ≡ true = order.total x y not_xy in rw (not_xy, yx) refl) (cases_Bool (before x y))

  not_before : (x y z : A) → before y z ≡ true → before x z ≡ false → before x y ≡ false
  not_before x y z yz not_xz =
      ⊎_elim (λ xy. absurd (false≢true (sym not_xz ∙ order.further x y z xy yz))) (λ no. no) (cases_Bool (before x y))

  pub inserted_comm : (x y : A) (zs : List A) → inserted before x (inserted before y zs) ≡ inserted before y (inserted before x zs)
  inserted_comm x y [] = front_comm x y []
  inserted_comm x y (z ∷ zs) =
      ⊎_elim (λ (yz : before y z ≡ true). ⊎_elim (λ (xz : before x z ≡ true). rw (yz, xz, yz) (front_comm x y (z ∷ zs))) (λ (not_xz : before x z ≡ false). let not_xy : before x y ≡ false = not_before x y z yz not_xz in rw (yz, not_xz, not_xy, yz) refl) (cases_Bool (before x z))) (λ (not_yz : before y z ≡ false). ⊎_elim (λ (xz : before x z ≡ true). let not_yx : before y x ≡ false = not_before y x z xz not_yz in rw (not_yz, xz, not_yx, not_yz) refl) (λ (not_xz : before x z ≡ false). rw (not_yz, not_xz, not_yz) (ap (λ (ws : List A). z ∷ ws) (inserted_comm x y zs))) (cases_Bool (before x z))) (cases_Bool (before y z))

  -- ---- an item that went in comes out again

  abbrev taken : A → List A → List A
  taken x [] = []
  taken x (y ∷ ys) = if before x y then ys else y ∷ taken x ys

  taken_inserted : (x : A) (ys : List A) → taken x (inserted before x ys) ≡ ys
  taken_inserted x [] = let own : before x x ≡ true = itself x in rw own refl
  taken_inserted x (y ∷ ys) =
      let own : before x x ≡ true = itself x in
      ⊎_elim (λ (yes : before x y ≡ true). rw (yes, own) refl) (λ (no : before x y ≡ false). rw (no, no) (ap (λ (ws : List A). y ∷ ws) (taken_inserted x ys))) (cases_Bool (before x y))

  cancelled : (x : A) (us vs : List A) → inserted before x us ≡ inserted before x vs → us ≡ vs
  cancelled x us vs same = sym (taken_inserted x us) ∙ ap (taken x) same ∙ taken_inserted x vs

  -- ---- the order in which the items stand at first doesn't matter

  set_in_order : (xs : List A) (i : ℕ) (v d : A) → i < length xs → inserted before (get_or xs i d) (in_order before (set xs i v)) ≡ inserted before v (in_order before xs)
  set_in_order [] i v d inside = absurd (omega arith)
  set_in_order (x ∷ xs) zero v d inside = inserted_comm x v (in_order before xs)
  set_in_order (x ∷ xs) (suc i) v d inside =
      inserted_comm (get_or xs i d) x (in_order before (set xs i v)) ∙ ap (inserted before x) (set_in_order xs i v d (omega arith)) ∙ inserted_comm x v (in_order before xs)

  first_or : (xs : List A) → 0 < length xs → A
  first_or [] some = absurd (omega arith)
  first_or (x ∷ xs) some = x

  swap_in_order : (xs : List A) (i j : ℕ) → i < length xs → j < length xs → in_order before (swap xs i j) ≡ in_order before xs
  swap_in_order xs i j p q =
      let d : A = first_or xs (omega arith) in
      let a : A = get_or xs i d in
      let b : A = get_or xs j d in
      let zs : List A = set xs i b in
      let long = length-set xs i b in
      let there : get_or zs j d ≡ b = ⊎_elim (λ e. ap (λ (n : ℕ). get_or zs n d) e ∙ get_or-set_same xs i b d p) (λ n. get_or-set_other xs i j b d n) (cases_eq j i) in
      let first : inserted before a (in_order before zs) ≡ inserted before b (in_order before xs) = set_in_order xs i b d p in
      let second : inserted before (get_or zs j d) (in_order before (set zs j a)) ≡ inserted before a (in_order before zs) = set_in_order zs j a d (omega arith) in
      ap (in_order before) (sym (swap_is xs i j d p q)) ∙ cancelled b (in_order before (set zs j a)) (in_order before xs) (ap (λ (v : A). inserted before v (in_order before (set zs j a))) (sym there) ∙ second ∙ first)

  pub in_order-IsPermutation : (xs ys : List A) → IsPermutation xs ys → in_order before xs ≡ in_order before ys
  in_order-IsPermutation xs ys same =
      sym (IsPermutation-keeps xs (λ (l : List A). in_order before l ≡ in_order before xs) refl (λ l i j p q is. swap_in_order l i j p q ∙ is) ys same)

  -- ---- the sorted list

  inserted_rises : (x : A) (ys : List A) → Rises before ys → Rises before (inserted before x ys)
  inserted_rises x [] rises = RisesOne x
  inserted_rises x (y ∷ []) rises =
      ⊎_elim (λ (yes : before x y ≡ true). rw yes (RisesMore x y [] yes rises)) (λ (no : before x y ≡ false). rw no (RisesMore y x [] (order.total x y no) (RisesOne x))) (cases_Bool (before x y))
  inserted_rises x (y ∷ z ∷ zs) (RisesMore a b cs yz rest) =
      ⊎_elim (λ (yes : before x y ≡ true). rw yes (RisesMore x y (z ∷ zs) yes (RisesMore y z zs yz rest))) (λ (no : before x y ≡ false). rw no (behind (order.total x y no) (inserted_rises x (z ∷ zs) rest) (cases_Bool (before x z)))) (cases_Bool (before x y))
    where
      behind : before y x ≡ true → Rises before (inserted before x (z ∷ zs)) → (before x z ≡ true) ⊎ (before x z ≡ false) → Rises before (y ∷ inserted before x (z ∷ zs))
      behind yx later (inl xz) = rw xz (RisesMore y x (z ∷ zs) yx (RisesMore x z zs xz rest))
      behind yx later (inr not_xz) = rw not_xz (RisesMore y z (inserted before x zs) yz (rw not_xz at later))

  pub in_order_rises : (xs : List A) → Rises before (in_order before xs)
  in_order_rises [] = RisesNone
  in_order_rises (x ∷ xs) = inserted_rises x (in_order before xs) (in_order_rises xs)

  inserted-IsPermutation : (x : A) (ys : List A) → IsPermutation (x ∷ ys) (inserted before x ys)
  inserted-IsPermutation x [] = IsPermutation-refl (x ∷ [])
  inserted-IsPermutation x (y ∷ ys) =
      ⊎_elim (λ (yes : before x y ≡ true). rw yes (IsPermutation-refl (x ∷ y ∷ ys))) (λ (no : before x y ≡ false). rw no (IsPermutation-trans (x ∷ y ∷ ys) (y ∷ x ∷ ys) (y ∷ inserted before x ys) (IsPermutation-sym (y ∷ x ∷ ys) (x ∷ y ∷ ys) (IsPermutation-middle (y ∷ []) x ys)) (IsPermutation-cons y (x ∷ ys) (inserted before x ys) (inserted-IsPermutation x ys)))) (cases_Bool (before x y))

  pub IsPermutation-in_order : (xs : List A) → IsPermutation xs (in_order before xs)
  IsPermutation-in_order [] = IsPermutation-refl []
  IsPermutation-in_order (x ∷ xs) =
      IsPermutation-trans (x ∷ xs) (x ∷ in_order before xs) (inserted before x (in_order before xs)) (IsPermutation-cons x xs (in_order before xs) (IsPermutation-in_order xs)) (inserted-IsPermutation x (in_order before xs))

  -- what is in order already is as it is
  pub in_order-same : (xs : List A) → Rises before xs → in_order before xs ≡ xs
  in_order-same [] rises = refl
  in_order-same (x ∷ []) rises = refl
  in_order-same (x ∷ y ∷ ys) (RisesMore a b cs xy rest) =
      ap (inserted before x) (in_order-same (y ∷ ys) rest) ∙ rw xy refl

  pub in_order-unique : (xs ys : List A) → IsPermutation xs ys → Rises before ys → ys ≡ in_order before xs
  in_order-unique xs ys same rises = sym (in_order-same ys rises) ∙ sym (in_order-IsPermutation xs ys same)

  -- an item that may stand before all others comes first
  pub inserted_first : (x : A) (ys : List A) → All (λ y. before x y ≡ true) ys → inserted before x ys ≡ x ∷ ys
  inserted_first x [] all = refl
  inserted_first x (y ∷ ys) all = let first = All-head (λ z. before x z ≡ true) y ys all in rw first refl
