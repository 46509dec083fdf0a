-- Runs that are opened one after the other.
use Rattle.std.proofs.Common.{◌≡◌, ◌∙◌, ap, sym, refl, subst, ℕ, zero, suc, ◌+◌, ◌*◌, ◌<◌, List, [], ◌∷◌, ◌++◌, length, get_or, take, drop, map, arith}
use Rattle.std.specs.List.{All}
use Rattle.std.proofs.lemmas.List.{map-append, map_more, take_more, take-map, get_or-map, length-map}
use Rattle.std.proofs.lemmas.List.Elements.{All-get_or}
use Rattle.peg_base.specs.Names.{Names}
use Rattle.dir_disk.specs.State.{State, bytes_at}
use Rattle.dir_disk.specs.Lent.{Loan, IsNoOutput}
use Rattle.dir_disk.proofs.Keeping.{other_path}
use Rattle.pairs.specs.Pairs.{Pair, pairs_in, sorted_pairs, IsInOrder}
use Rattle.merge.specs.declared.source.Source.{Source}
use Rattle.merge.specs.Runs.{IsRun, lists_at, merged_at, ten_merged}
use Rattle.merge.specs.Sources.{all_of, left_of, lefts, IsSource}
use Rattle.pieces.specs.Pieces.{IsVacant}

abbrev pub path_of : Source → Names
path_of source = source.path

abbrev pub pairs_at : State → Names → List Pair
pairs_at state path = pairs_in (bytes_at state path)

pub paths_more : (sources : List Source) (source : Source) (runs : List Names) (i : ℕ) (d : Names) → map path_of sources ≡ take i runs → i < length runs → source.path ≡ get_or runs i d → map path_of (sources ++ source ∷ []) ≡ take (i + 1) runs
paths_more sources source runs i d so_far inside is =
    map-append path_of sources (source ∷ []) ∙ ap (λ (l : List Names). l ++ source.path ∷ []) so_far ∙ ap (λ (p : Names). take i runs ++ p ∷ []) is ∙ sym (take_more runs i d inside)

pub lefts_more : (state : State) (sources : List Source) (source : Source) (runs : List Names) (i : ℕ) (d : Names) → lefts state sources ≡ lists_at state (take i runs) → i < length runs → left_of state source ≡ pairs_at state (get_or runs i d) → lefts state (sources ++ source ∷ []) ≡ lists_at state (take (i + 1) runs)
lefts_more state sources source runs i d so_far inside is =
    map-append (left_of state) sources (source ∷ []) ∙ ap (λ (l : List (List Pair)). l ++ left_of state source ∷ []) so_far ∙ ap (λ (ps : List Pair). lists_at state (take i runs) ++ ps ∷ []) is ∙ sym (map_more (pairs_at state) runs i d inside)

-- what holds of the runs' paths holds of those of the sources
pub sources_lent : (lent : List Loan) (runs : List Names) (sources : List Source) → map path_of sources ≡ runs → All (IsNoOutput lent) runs → All (λ source. IsNoOutput lent source.path) sources
sources_lent lent runs sources is all k d low =
    let long = length-map sources path_of in
    let here : k < length (map path_of sources) = omega arith in
    subst (λ (q : Names). IsNoOutput lent q) (get_or-map path_of sources k d d.path low) (All-get_or (IsNoOutput lent) (map path_of sources) k d.path here (subst (λ (l : List Names). All (IsNoOutput lent) l) (sym is) all))

pub sources_ready : (out : Names) (state : State) (runs : List Names) (sources : List Source) → map path_of sources ≡ runs → lefts state sources ≡ lists_at state runs → All (IsRun state) runs → IsVacant out state → All (IsSource out state) sources
sources_ready out state runs sources is is_left all vacant k d low =
    let long = length-map sources path_of in
    let long' = ap length is in
    let here : k < length runs = omega arith in
    let source : Source = get_or sources k d in
    let path : get_or runs k d.path ≡ source.path = ap (λ (l : List Names). get_or l k d.path) (sym is) ∙ get_or-map path_of sources k d d.path low in
    let run : IsRun state source.path = subst (λ (q : Names). IsRun state q) path (All-get_or (IsRun state) runs k d.path here all) in
    let left : left_of state source ≡ pairs_at state source.path = sym (get_or-map (left_of state) sources k d [] low) ∙ ap (λ (l : List (List Pair)). get_or l k []) is_left ∙ get_or-map (pairs_at state) runs k d.path [] here ∙ ap (pairs_at state) path in
    record {
      there = run.there;
      other = other_path out source.path run.there.0 state vacant.none run.there.1;
      in_order = subst (λ (l : List Pair). IsInOrder l) (sym left) run.in_order;
    }

drop-map : {X Y : Type 0} (f : X → Y) (n : ℕ) (xs : List X) → drop n (map f xs) ≡ map f (drop n xs)
drop-map f zero xs = refl
drop-map f (suc n) [] = refl
drop-map f (suc n) (x ∷ xs) = drop-map f n xs

-- the lists of paths from a place on
pub lists_from : (state : State) (n : ℕ) (paths : List Names) → lists_at state (drop n paths) ≡ drop n (lists_at state paths)
lists_from state n paths = sym (drop-map (pairs_at state) n paths)

-- ten of the paths
pub ten_of : (state : State) (number few : ℕ) (paths all : List Names) → few ≡ 10 → paths ≡ all → merged_at state (take few (drop (10 * number) paths)) ≡ ten_merged number (lists_at state all)
ten_of state number few paths all ten is =
    ap (λ (n : ℕ). merged_at state (take n (drop (10 * number) paths))) ten ∙ ap (λ (l : List Names). merged_at state (take 10 (drop (10 * number) l))) is ∙ ap (λ (ls : List (List Pair)). sorted_pairs (all_of ls)) (sym (take-map (pairs_at state) 10 (drop (10 * number) all)) ∙ ap (take 10) (lists_from state (10 * number) all))
