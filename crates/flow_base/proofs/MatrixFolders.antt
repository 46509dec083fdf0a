-- The folders of the matrices: what they hold, and what a step asks of their entries.
use Rattle.std.proofs.Common.{◌≡◌, refl, sym, ap, ◌∙◌, subst, Bool, true, false, cond, ℕ, ◌<◌, ◌≤◌, ◌^◌, eqb, List, [], ◌∷◌, ◌++◌, map, length, count_by, decimal, Some, option_and_then, arith}
use Rattle.std.specs.List.{All}
use Rattle.std.proofs.lemmas.Bool.{lt-ltb, le-leb, eq-eqb, and_from, cond-true}
use Rattle.std.proofs.lemmas.List.{append_assoc}
use Rattle.std.proofs.lemmas.List.Elements.{All-nil, All-cons, All-weaker, All-map}
use Rattle.std.proofs.lemmas.List.Sums.{sum_by-cons, sum_by-append, count_by-le-length}
use Rattle.peg_text.specs.Decimal.{decimal_of}
use Rattle.peg_text.proofs.DecimalLemmas.{decimals_read_back}
use Rattle.graph.specs.declared.edges.Edge.{Edge}
use Rattle.graph.specs.declared.edges.One.{One}
use Rattle.graph.specs.Edges.{AreBelow}
use Rattle.graph.specs.Entries.{Entry, plain_entry, out_degree, by_degree, hadi_entries}
use Rattle.graph.proofs.Messages.{All-both_ways}
use Rattle.gimv_core.specs.Algebras.{Algebra, FitsWeight, EntryFits}
use Rattle.gimv_core.specs.Laws.{IsLawful}
use Rattle.gimv_core.specs.Consequences.{first_nodes}
use Rattle.pagerank.specs.Ranks.{positive, page_rank_algebra}
use Rattle.pagerank.specs.Lawful.{page_rank_is_lawful}
use Rattle.edge_text.specs.Edges.{text_of}
use Rattle.pairs.specs.Pairs.{IsPlain}
use Rattle.gimv_base.specs.BaseRules.{id_rule, entries_rule, degrees_rule}
use Rattle.flow_core.specs.Following.{Giving, Follows}
use Rattle.flow_core.specs.Jobs.{Cut, job_by}
use Rattle.flow_core.specs.Holding.{Holds}
use Rattle.flow_base.proofs.Stages.{entry_plain}
use Rattle.flow_core.proofs.Folders.{holds_parts}
use Rattle.flow_base.proofs.Matrices.{short_edges, entries_are, degrees_hold}
use Rattle.list_laws.proofs.Alls.{all_both}
use Rattle.flow_base.specs.Matrices.{HasMatrix, Weighs, entry_pair, one_number}

pub same_matrix : {Val Msg Weight : Type 0} (a : Algebra Val Msg Weight) (number : Weight → ℕ) (n : ℕ) (entries : List (Entry Weight)) (texts others : List (List ℕ)) → texts ≡ others → HasMatrix a number n entries texts → HasMatrix a number n entries others
same_matrix a number n entries texts others is has = subst (HasMatrix a number n entries) is has

-- ---- each edge's source has a degree of at least 1

count_some : {A : Type 0} (p : A → Bool) (front : List A) (x : A) (back : List A) → p x ≡ true → 1 ≤ count_by p (front ++ (x ∷ back))
count_some p front x back is =
    let whole = sum_by-append (λ y. cond (p y) 1 0) front (x ∷ back) in
    let later = sum_by-cons (λ y. cond (p y) 1 0) x back in
    let here : ◌≡◌ {A = ℕ} (cond (p x) 1 0) 1 = cond-true _ _ _ is in
    omega (arith, whole, later, here)

pub degrees_some : (front es : List Edge) → All (λ (e : Edge). 1 ≤ out_degree (front ++ es) e.source) es
degrees_some front [] = All-nil (λ (e : Edge). 1 ≤ out_degree (front ++ []) e.source)
degrees_some front (e ∷ es) =
    All-cons (λ (d : Edge). 1 ≤ out_degree (front ++ (e ∷ es)) d.source) e es (count_some (λ (d : Edge). eqb d.source e.source) front e es (eq-eqb e.source e.source refl)) (subst (λ all. All (λ (d : Edge). 1 ≤ out_degree all d.source) es) (append_assoc front (e ∷ []) es) (degrees_some (front ++ (e ∷ [])) es))

degree_read : (d : ℕ) → 1 ≤ d → d < 2 ^ 64 → option_and_then positive (decimal_of (decimal d)) ≡ Some d
degree_read d some small = ap (option_and_then positive) (decimals_read_back d small) ∙ cond-true _ _ _ (le-leb 1 d some)

module _ (gives : Giving) (copy : List (List ℕ)) (copies : Follows gives copy id_rule) (cut : Cut) (some_bytes : 1 ≤ cut.split) (some_reducers : 1 ≤ cut.reducers)
    (n : ℕ) (few : n ≤ 2 ^ 32) (edges : List Edge) (below : AreBelow n edges) where
  -- ---- entries of weight 1

  module _ {Val Msg : Type 0} (a : Algebra Val Msg One) (laws : IsLawful a) (one_fits : (w : One) → FitsWeight a w) (one_read : (w : One) → a.weight_of (decimal 1) ≡ Some w)
      (both : Bool) (words : List (List ℕ)) (follows : Follows gives words (entries_rule both)) where
    abbrev Good : Entry One → Type 0
    Good e = EntryFits a (first_nodes n) e × Weighs a one_number e

    good_entry : (i j : ℕ) → i < n → j < n → Good (plain_entry i j)
    good_entry i j low other = (record { row_in = lt-ltb i n low; column_in = lt-ltb j n other; weight_fits = one_fits (record {}) }, record { small = omega arith; is = one_read (record {}) })

    abbrev IsBelow : Edge → Type 0
    IsBelow e = (e.source < n) × (e.target < n)

    good_entries : (sides : Bool) → All Good (hadi_entries sides edges)
    good_entries true = All-both_ways Good edges (All-weaker IsBelow (λ (e : Edge). Good (plain_entry e.source e.target) × Good (plain_entry e.target e.source)) (λ e h. (good_entry e.source e.target h.0 h.1, good_entry e.target e.source h.1 h.0)) edges below)
    good_entries false = All-map Good (λ (e : Edge). plain_entry e.source e.target) edges (All-weaker IsBelow (λ (e : Edge). Good (plain_entry e.source e.target)) (λ e h. good_entry e.source e.target h.0 h.1) edges below)

    abbrev pair_plain : Entry One → Type 0
    pair_plain e = IsPlain (entry_pair one_number e)

    plain_of : (e : Entry One) → Good e → pair_plain e
    plain_of e h = entry_plain a laws n few one_number e h.0 h.1

    plain_edges : All (λ (e : Edge). pair_plain (plain_entry e.source e.target) × pair_plain (plain_entry e.target e.source)) edges
    plain_edges =
        All-weaker IsBelow (λ (e : Edge). pair_plain (plain_entry e.source e.target) × pair_plain (plain_entry e.target e.source)) (λ e h. (plain_of (plain_entry e.source e.target) (good_entry e.source e.target h.0 h.1), plain_of (plain_entry e.target e.source) (good_entry e.target e.source h.1 h.0))) edges below

    pub one_matrix : HasMatrix a one_number n (hadi_entries both edges) (job_by gives cut words copy (text_of edges ∷ []))
    one_matrix =
        let entries = hadi_entries both edges in
        let plain : All IsPlain (map (entry_pair one_number) entries) = All-map IsPlain (entry_pair one_number) entries (All-weaker Good pair_plain plain_of entries (good_entries both)) in record {
          good = good_entries both;
          heavy = All-weaker Good (λ e. 1 ≤ one_number e.weight) (λ e h. omega arith) entries (good_entries both);
          holds = subst (λ ts. Holds ts (map (entry_pair one_number) entries)) (sym (entries_are gives copy copies cut some_bytes some_reducers edges (short_edges n edges few below) both words follows plain_edges)) (holds_parts cut.reducers (map (entry_pair one_number) entries) some_reducers plain);
        }

  -- ---- entries weighed by degree

  module _ (short : length edges < 2 ^ 64) (words : List (List ℕ)) (follows : Follows gives words degrees_rule) where
    abbrev weighed : Edge → Entry ℕ
    weighed e = record { row = e.target; column = e.source; weight = out_degree edges e.source }

    abbrev GoodRank : Entry ℕ → Type 0
    GoodRank e = EntryFits (page_rank_algebra n) (first_nodes n) e × Weighs (page_rank_algebra n) (λ m. m) e

    good_rank : (e : Edge) → (e.source < n) × (e.target < n) → 1 ≤ out_degree edges e.source → GoodRank (weighed e)
    good_rank e low some =
        let few = count_by-le-length (λ (d : Edge). eqb d.source e.source) edges in
        let small : out_degree edges e.source < 2 ^ 64 = omega arith in (
          record { row_in = lt-ltb e.target n low.1; column_in = lt-ltb e.source n low.0; weight_fits = and_from _ _ (le-leb 1 (out_degree edges e.source) some) (lt-ltb (out_degree edges e.source) (2 ^ 64) small) },
          record { small = small; is = degree_read (out_degree edges e.source) some small },
        )

    good_ranks : All GoodRank (by_degree edges)
    good_ranks =
        All-map GoodRank weighed edges (All-weaker (λ (e : Edge). ((e.source < n) × (e.target < n)) × (1 ≤ out_degree edges e.source)) (λ e. GoodRank (weighed e)) (λ e h. good_rank e h.0 h.1) edges (all_both (λ (e : Edge). (e.source < n) × (e.target < n)) (λ (e : Edge). 1 ≤ out_degree edges e.source) edges below (degrees_some [] edges)))

    pub rank_matrix : HasMatrix (page_rank_algebra n) (λ m. m) n (by_degree edges) (job_by gives cut copy words (text_of edges ∷ []))
    rank_matrix =
        let a = page_rank_algebra n in record {
          good = good_ranks;
          heavy = All-map (λ (e : Entry ℕ). 1 ≤ e.weight) weighed edges (degrees_some [] edges);
          holds = degrees_hold gives copy copies cut some_bytes some_reducers edges (short_edges n edges few below) words follows n few below (All-weaker GoodRank (λ e. IsPlain (entry_pair (λ (m : ℕ). m) e)) (λ e h. entry_plain a (page_rank_is_lawful n) n few (λ m. m) e h.0 h.1) (by_degree edges) good_ranks);
        }
