-- What a role of groups writes for pairs that stand key by key.
use Rattle.std.proofs.Common.{◌≡◌, refl, sym, ap, ◌∙◌, subst, true, false, ℕ, List, [], ◌∷◌, ◌++◌, map, length}
use Rattle.std.specs.Str.{bytes_eq}
use Rattle.std.specs.List.{All, flat_map}
use Rattle.std.specs.declared.cmp.Ordering.TheVariants.{Less}
use Rattle.std.proofs.lemmas.List.{map-append}
use Rattle.std.proofs.lemmas.List.Elements.{All-head, All-tail, All-weaker, All-map}
use Rattle.std.proofs.lemmas.Slice.Eq.{bytes_eq-Decides}
use Rattle.peg_text.specs.Pairs.{key_of}
use Rattle.peg_text.proofs.PairLemmas.{pairs_split_back}
use Rattle.pairs.specs.Pairs.{Pair, IsPlain, bytes_cmp}
use Rattle.flow_core.specs.Holding.{record_of}
use Rattle.gimv_base.specs.Parts.{Part, written, joined}
use Rattle.gimv_base.specs.Rules.{has_key, groups_of, by_group}
use Rattle.gimv_base.specs.Standings.{while_key, past_key}
use Rattle.gimv_base.proofs.GroupLemmas.{groups_of-first}
use Rattle.list_laws.proofs.Alls.{all_flat_map, all_both}
use Rattle.flow_core.proofs.Keys.{Climbs, ClimbsNone, ClimbsMore, less_apart}

module _ (key : List ℕ) where
  while_all : (xs ys : List (List ℕ)) → All (λ r. has_key key r ≡ true) xs → All (λ r. has_key key r ≡ false) ys → while_key key (xs ++ ys) ≡ xs
  while_all [] [] mine others = refl
  while_all [] (y ∷ ys) mine others = let no = All-head (λ r. has_key key r ≡ false) y ys others in rw no refl
  while_all (x ∷ xs) ys mine others =
      let yes = All-head (λ r. has_key key r ≡ true) x xs mine in rw yes (ap (λ rs. x ∷ rs) (while_all xs ys (All-tail (λ r. has_key key r ≡ true) x xs mine) others))

  past_all : (xs ys : List (List ℕ)) → All (λ r. has_key key r ≡ true) xs → All (λ r. has_key key r ≡ false) ys → past_key key (xs ++ ys) ≡ ys
  past_all [] [] mine others = refl
  past_all [] (y ∷ ys) mine others = let no = All-head (λ r. has_key key r ≡ false) y ys others in rw no refl
  past_all (x ∷ xs) ys mine others =
      let yes = All-head (λ r. has_key key r ≡ true) x xs mine in rw yes (past_all xs ys (All-tail (λ r. has_key key r ≡ true) x xs mine) others)

key_back : (p : Pair) → IsPlain p → key_of (record_of p) ≡ p.0
key_back p plain = (pairs_split_back p.0 p.1 plain.key_tab).0

-- a group of pairs writes this; without pairs there is no group
abbrev pub WritesRun : (List (List ℕ) → Part) → List Pair → List ℕ → Type 0
WritesRun part [] out = out ≡ []
WritesRun part (p ∷ ps) out = part (map record_of (p ∷ ps)) ≡ written out

module _ {I : Type 0} (key : I → List ℕ) (part : List (List ℕ) → Part) (run : I → List Pair) (out : I → List ℕ) where
  -- the pairs of an item have its key, and their group writes what the item's output is
  pub record Writes (i : I) : Type 0 where
    pub keyed : All (λ (p : Pair). (p.0 ≡ key i) × IsPlain p) (run i)
    pub is : WritesRun part (run i) (out i)

  abbrev records : List I → List (List ℕ)
  records is = map record_of (flat_map run is)

  one_more : (i : I) (is : List I) (qs : List Pair) → All (λ (p : Pair). (p.0 ≡ key i) × IsPlain p) qs → WritesRun part qs (out i)
      → All (λ r. has_key (key i) r ≡ false) (records is)
      → by_group part (groups_of (records is)) ≡ written (flat_map out is)
      → by_group part (groups_of (map record_of qs ++ records is)) ≡ written (out i ++ flat_map out is)
  one_more i is [] keyed writes others later = later ∙ ap (λ (l : List ℕ). written (l ++ flat_map out is)) (sym writes)
  one_more i is (q ∷ qs) keyed writes others later =
      let first = All-head (λ (p : Pair). (p.0 ≡ key i) × IsPlain p) q qs keyed in
      let is_key : key_of (record_of q) ≡ key i = key_back q first.1 ∙ first.0 in
      let mine : All (λ r. has_key (key i) r ≡ true) (map record_of qs) =
      All-map (λ r. has_key (key i) r ≡ true) record_of qs (All-weaker (λ (p : Pair). (p.0 ≡ key i) × IsPlain p) (λ (p : Pair). has_key (key i) (record_of p) ≡ true) (λ p h. (bytes_eq-Decides (key_of (record_of p)) (key i)).1 (key_back p h.1 ∙ h.0)) qs (All-tail (λ (p : Pair). (p.0 ≡ key i) × IsPlain p) q qs keyed)) in
      let parted : groups_of (map record_of (q ∷ qs) ++ records is) ≡ map record_of (q ∷ qs) ∷ groups_of (records is) =
      groups_of-first (record_of q) (map record_of qs ++ records is)
      ∙ ap (λ (k : List ℕ). (record_of q ∷ while_key k (map record_of qs ++ records is)) ∷ groups_of (past_key k (map record_of qs ++ records is))) is_key
      ∙ ap (λ (g : List (List ℕ)). (record_of q ∷ g) ∷ groups_of (past_key (key i) (map record_of qs ++ records is))) (while_all (key i) (map record_of qs) (records is) mine others)
      ∙ ap (λ (g : List (List ℕ)). map record_of (q ∷ qs) ∷ groups_of g) (past_all (key i) (map record_of qs) (records is) mine others) in
      ap (by_group part) parted
      ∙ ap (λ (first' : Part). joined first' (length (map record_of (q ∷ qs))) (by_group part (groups_of (records is)))) writes
      ∙ ap (λ (rest : Part). joined (written (out i)) (length (map record_of (q ∷ qs))) rest) later

  pub by_group-runs : (is : List I) → Climbs key is → All Writes is → by_group part (groups_of (map record_of (flat_map run is))) ≡ written (flat_map out is)
  by_group-runs [] ClimbsNone all = refl
  by_group-runs (i ∷ is) (ClimbsMore _ _ above rest) all =
      let here = All-head Writes i is all in
      let later = All-tail Writes i is all in
      let others : All (λ r. has_key (key i) r ≡ false) (records is) =
      All-map (λ r. has_key (key i) r ≡ false) record_of (flat_map run is) (all_flat_map (λ (p : Pair). has_key (key i) (record_of p) ≡ false) run is (All-weaker (λ j. (bytes_cmp (key i) (key j) ≡ Less) × Writes j) (λ j. All (λ (p : Pair). has_key (key i) (record_of p) ≡ false) (run j)) (λ j h. All-weaker (λ (p : Pair). (p.0 ≡ key j) × IsPlain p) (λ (p : Pair). has_key (key i) (record_of p) ≡ false) (λ p k. subst (λ (l : List ℕ). bytes_eq l (key i) ≡ false) (sym (key_back p k.1 ∙ k.0)) (less_apart (key i) (key j) h.0)) (run j) h.1.keyed) is (all_both (λ j. bytes_cmp (key i) (key j) ≡ Less) Writes is above later))) in
      ap (λ (rs : List (List ℕ)). by_group part (groups_of rs)) (map-append record_of (run i) (flat_map run is)) ∙ one_more i is (run i) here.keyed here.is others (by_group-runs is rest later)
