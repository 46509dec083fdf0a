-- Paths at and under other paths, the same path, and paths that are put together.
use Rattle.std.proofs.Common.{◌≡◌, ◌≢◌, ℕ, ◌<◌, ◌≤◌, Bool, true, false, ◌&&◌, List, [], ◌∷◌, ◌++◌, length, take, refl, sym, ◌∙◌, ap, subst, arith}
use Rattle.std.proofs.lemmas.Bool.{false≢true, and_parts, and_from}
use Rattle.std.proofs.lemmas.Bool.Decides.{same_from_decides}
use Rattle.std.proofs.lemmas.List.{append-nil}
use Rattle.std.proofs.lemmas.Slice.Eq.{bytes_eq-Decides, slice_eq-Decides}
use Rattle.std.specs.Bool.{Decides}
use Rattle.std.specs.Str.{bytes_eq}
use Rattle.std.specs.Cmp.Lexicographic.{pointwise}
use Rattle.peg_base.specs.Names.{Names, under, same_path, after_top}

pub bytes_eq-refl : (n : List ℕ) → bytes_eq n n ≡ true
bytes_eq-refl n = (bytes_eq-Decides n n).1 refl

bool_not_true : (b : Bool) → (b ≡ true → ⊥) → b ≡ false
bool_not_true true h = absurd (h refl)
bool_not_true false h = refl

pub bytes_eq-other : (n m : List ℕ) → n ≢ m → bytes_eq n m ≡ false
bytes_eq-other n m other = bool_not_true (bytes_eq n m) (λ e. other ((bytes_eq-Decides n m).0 e))

-- the same path is the same list of names
pub same_path-Decides : (p q : Names) → Decides (same_path p q) (p ≡ q)
same_path-Decides p q = slice_eq-Decides bytes_eq-Decides p q (same_path p q) refl

pub same_path-true : (p q : Names) → same_path p q ≡ true → p ≡ q
same_path-true p q same = (same_path-Decides p q).0 same

pub same_path-refl : (p : Names) → same_path p p ≡ true
same_path-refl p = (same_path-Decides p p).1 refl

pub same_path-other : (p q : Names) → p ≢ q → same_path p q ≡ false
same_path-other p q other = bool_not_true (same_path p q) (λ same. other (same_path-true p q same))

pub same_path-false : (p q : Names) → same_path p q ≡ false → p ≢ q
same_path-false p q apart same = false≢true (sym apart ∙ (same_path-Decides p q).1 same)

pub same_path_comm : (p q : Names) → same_path p q ≡ same_path q p
same_path_comm p q =
    same_from_decides (same_path p q) (same_path q p) (same_path-Decides p q) (λ e. sym ((same_path-Decides q p).0 e), λ e. (same_path-Decides q p).1 (sym e))

pub under-append : (p rest : Names) → under p (p ++ rest) ≡ true
under-append [] rest = refl
under-append (n ∷ p) rest = and_from _ _ (bytes_eq-refl n) (under-append p rest)

pub under-refl : (p : Names) → under p p ≡ true
under-refl p = subst (λ (q : Names). under p q ≡ true) (append-nil p) (under-append p [])

pub under-same : (p q : Names) → same_path p q ≡ true → under p q ≡ true
under-same p q same = subst (λ (r : Names). under p r ≡ true) (same_path-true p q same) (under-refl p)

pub after_top-append : (top rest : Names) → after_top top (top ++ rest) ≡ rest
after_top-append [] rest = refl
after_top-append (n ∷ top) rest = after_top-append top rest

-- what lies under a path is the path and more names
pub under-split : (top q : Names) → under top q ≡ true → q ≡ top ++ after_top top q
under-split [] q below = refl
under-split (n ∷ top) [] below = absurd (false≢true below)
under-split (n ∷ top) (m ∷ q) below =
    let parts = and_parts (bytes_eq n m) (under top q) below in
    let same : n ≡ m = (bytes_eq-Decides n m).0 parts.0 in
    ap (λ (r : Names). m ∷ r) (under-split top q parts.1) ∙ ap (λ (x : List ℕ). x ∷ (top ++ after_top top q)) (sym same)

pub under-trans : (a b c : Names) → under a b ≡ true → under b c ≡ true → under a c ≡ true
under-trans [] b c below further = refl
under-trans (x ∷ a) [] c below further = absurd (false≢true below)
under-trans (x ∷ a) (y ∷ b) [] below further = absurd (false≢true further)
under-trans (x ∷ a) (y ∷ b) (z ∷ c) below further =
    let first = and_parts (bytes_eq x y) (under a b) below in
    let second = and_parts (bytes_eq y z) (under b c) further in
    let same : x ≡ z = (bytes_eq-Decides x y).0 first.0 ∙ (bytes_eq-Decides y z).0 second.0 in
    and_from _ _ ((bytes_eq-Decides x z).1 same) (under-trans a b c first.1 second.1)

pub under-short : (top q : Names) → under top q ≡ true → length top ≤ length q
under-short [] q below = omega arith
under-short (n ∷ top) [] below = absurd (false≢true below)
under-short (n ∷ top) (m ∷ q) below =
    let shorter = under-short top q (and_parts (bytes_eq n m) (under top q) below).1 in omega arith

pub under-long : (top q : Names) → length q < length top → under top q ≡ false
under-long top q long =
    bool_not_true (under top q) (λ below. let short : length top ≤ length q = under-short top q below in absurd (omega arith))

-- two paths of which each lies under the other are one
pub under-antisymm : (a b : Names) → under a b ≡ true → under b a ≡ true → a ≡ b
under-antisymm [] [] below above = refl
under-antisymm [] (y ∷ b) below above = absurd (false≢true above)
under-antisymm (x ∷ a) [] below above = absurd (false≢true below)
under-antisymm (x ∷ a) (y ∷ b) below above =
    let first = and_parts (bytes_eq x y) (under a b) below in
    let second = and_parts (bytes_eq y x) (under b a) above in
    ap (λ (r : Names). x ∷ r) (under-antisymm a b first.1 second.1) ∙ ap (λ (n : List ℕ). n ∷ b) ((bytes_eq-Decides x y).0 first.0)

-- of two paths with something under both, one lies under the other
pub under-nested : (a b q : Names) → under a q ≡ true → under b q ≡ true → length a ≤ length b → under a b ≡ true
under-nested [] b q below other short = refl
under-nested (x ∷ a) [] q below other short = absurd (omega arith)
under-nested (x ∷ a) (y ∷ b) [] below other short = absurd (false≢true below)
under-nested (x ∷ a) (y ∷ b) (z ∷ q) below other short =
    let first = and_parts (bytes_eq x z) (under a q) below in
    let second = and_parts (bytes_eq y z) (under b q) other in
    let same : x ≡ y = (bytes_eq-Decides x z).0 first.0 ∙ sym ((bytes_eq-Decides y z).0 second.0) in
    and_from _ _ ((bytes_eq-Decides x y).1 same) (under-nested a b q first.1 second.1 (omega arith))

pub under-append_left : (top a b : Names) → under (top ++ a) (top ++ b) ≡ under a b
under-append_left [] a b = refl
under-append_left (n ∷ top) a b =
    ap (λ (same : Bool). same && under (top ++ a) (top ++ b)) (bytes_eq-refl n) ∙ under-append_left top a b

pub same_path-append_left : (top a b : Names) → same_path (top ++ a) (top ++ b) ≡ same_path a b
same_path-append_left [] a b = refl
same_path-append_left (n ∷ top) a b =
    ap (λ (same : Bool). same && same_path (top ++ a) (top ++ b)) (bytes_eq-refl n) ∙ same_path-append_left top a b

-- a path at or under two children of one path is under one name alone
pub under-children : (p : Names) (n m : List ℕ) (a b : Names) → n ≢ m → under (p ++ n ∷ a) (p ++ m ∷ b) ≡ false
under-children p n m a b other =
    under-append_left p (n ∷ a) (m ∷ b) ∙ ap (λ (same : Bool). same && under a b) (bytes_eq-other n m other)

pub children_apart : (p : Names) (n m : List ℕ) (q : Names) → n ≢ m → under (p ++ n ∷ []) q ≡ true → under (p ++ m ∷ []) q ≡ false
children_apart p n m q other below =
    let is : q ≡ p ++ n ∷ after_top (p ++ n ∷ []) q = under-split (p ++ n ∷ []) q below ∙ joined p n (after_top (p ++ n ∷ []) q) in
    ap (λ (r : Names). under (p ++ m ∷ []) r) is ∙ under-children p m n [] (after_top (p ++ n ∷ []) q) (λ same. other (sym same))
  where
    joined : (p : Names) (n : List ℕ) (rest : Names) → (p ++ n ∷ []) ++ rest ≡ p ++ n ∷ rest
    joined [] n rest = refl
    joined (x ∷ p) n rest = ap (λ (r : Names). x ∷ r) (joined p n rest)

-- a path is under another where its first names are those of the other
pub under-take : (top q : Names) → under top q ≡ pointwise bytes_eq top (take (length top) q)
under-take [] q = refl
under-take (n ∷ top) [] = refl
under-take (n ∷ top) (m ∷ q) = ap (λ (below : Bool). bytes_eq n m && below) (under-take top q)
