-- What is read of the records of folders that hold pairs.
use Rattle.std.proofs.Common.{◌≡◌, refl, sym, ap, ◌∙◌, Bool, true, ◌&&◌, ℕ, ◌+◌, List, [], ◌∷◌, ◌++◌, map, fold, max, arith}
use Rattle.std.specs.List.{All, flat_map, list_all, sum_by}
use Rattle.std.specs.List.Sorted.{IsPermutation}
use Rattle.std.proofs.lemmas.List.{map-append}
use Rattle.std.proofs.lemmas.List.Elements.{All-head, All-tail}
use Rattle.std.proofs.lemmas.List.Sorted.{All-permutation, IsPermutation-sym, sum_by-IsPermutation}
use Rattle.peg_text.specs.Records.{records_of}
use Rattle.graph.proofs.Order.{fold-IsPermutation}
use Rattle.pairs.specs.Pairs.{Pair, IsPlain}
use Rattle.store.specs.Parts.{Record, numbered}
use Rattle.mining.specs.Flow.{records_from}
use Rattle.list_laws.proofs.Alls.{all_each}
use Rattle.list_laws.proofs.Sums.{sum-of_map}
use Rattle.flow_core.specs.Holding.{Holds, record_of}
use Rattle.flow_core.proofs.Records.{all_records}

abbrev text_of : Record → List ℕ
text_of r = r.text

numbered_texts : (part line : ℕ) (texts : List (List ℕ)) → map text_of (numbered part line texts) ≡ texts
numbered_texts part line [] = refl
numbered_texts part line (t ∷ ts) = ap (λ (us : List (List ℕ)). t ∷ us) (numbered_texts part (line + 1) ts)

texts_from : (part : ℕ) (parts : List (List ℕ)) → map text_of (records_from part parts) ≡ flat_map records_of parts
texts_from part [] = refl
texts_from part (bytes ∷ parts) =
    map-append text_of (numbered part 1 (records_of bytes)) (records_from (part + 1) parts)
    ∙ ap (λ (ts : List (List ℕ)). ts ++ map text_of (records_from (part + 1) parts)) (numbered_texts part 1 (records_of bytes))
    ∙ ap (λ (ts : List (List ℕ)). records_of bytes ++ ts) (texts_from (part + 1) parts)

all_good : (good : List ℕ → Bool) (rs : List Record) → list_all (λ (r : Record). good r.text) rs ≡ list_all good (map text_of rs)
all_good good [] = refl
all_good good (r ∷ rs) = ap (λ (b : Bool). good r.text && b) (all_good good rs)

all_true : (good : List ℕ → Bool) (ps : List Pair) → All (λ p. good (record_of p) ≡ true) ps → list_all good (map record_of ps) ≡ true
all_true good [] all = refl
all_true good (p ∷ ps) all =
    let here = All-head (λ q. good (record_of q) ≡ true) p ps all in rw here (all_true good ps (All-tail (λ q. good (record_of q) ≡ true) p ps all))

most_of_map : {I A : Type 0} (f : A → ℕ) (g : I → A) (n : ℕ) (is : List I) → fold (λ m a. max m (f a)) n (map g is) ≡ fold (λ m i. max m (f (g i))) n is
most_of_map f g n [] = refl
most_of_map f g n (i ∷ is) = most_of_map f g (max n (f (g i))) is

module _ (texts : List (List ℕ)) (ps : List Pair) (holds : Holds texts ps) where
  abbrev found : List Pair
  found = flat_map (λ (l : List Pair). l) holds.lists

  back : IsPermutation ps found
  back = IsPermutation-sym found ps holds.all

  abbrev records : List Record
  records = records_from 0 texts

  read_texts : map text_of records ≡ map record_of found
  read_texts =
      texts_from 0 texts ∙ ap (λ (ts : List (List ℕ)). flat_map records_of ts) holds.are ∙ all_records holds.lists (All-permutation IsPlain ps found back holds.plain)

  pub good_held : (good : List ℕ → Bool) → All (λ p. good (record_of p) ≡ true) ps → list_all (λ (r : Record). good r.text) records ≡ true
  good_held good all =
      all_good good records ∙ ap (list_all good) read_texts ∙ all_true good found (All-permutation (λ p. good (record_of p) ≡ true) ps found back all)

  pub sum_held : (f : List ℕ → ℕ) → sum_by (λ (r : Record). f r.text) records ≡ sum_by (λ p. f (record_of p)) ps
  sum_held f =
      sym (sum-of_map f text_of records) ∙ ap (sum_by f) read_texts ∙ sum-of_map f record_of found ∙ sum_by-IsPermutation (λ p. f (record_of p)) ps found back

  pub most_held : (f : List ℕ → ℕ) → fold (λ m (r : Record). max m (f r.text)) 0 records ≡ fold (λ m p. max m (f (record_of p))) 0 ps
  most_held f =
      sym (most_of_map f text_of 0 records) ∙ ap (λ (ts : List (List ℕ)). fold (λ (m : ℕ) t. max m (f t)) 0 ts) read_texts ∙ most_of_map f record_of 0 found
      ∙ sym (fold-IsPermutation (λ (m : ℕ) (p : Pair). max m (f (record_of p))) (λ m. Unit {0}) (λ p. Unit {0}) (λ m p _ _. tt) (λ m p q _ _ _. omega arith) 0 ps found tt (all_each (λ p. Unit {0}) (λ p. tt) ps) back)
