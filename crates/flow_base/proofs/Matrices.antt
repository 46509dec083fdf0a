-- The matrices of the algorithms, from the lines of edges.
use Rattle.std.proofs.Common.{◌≡◌, refl, sym, ap, ◌∙◌, subst, Bool, true, false, cond, ℕ, ◌<◌, ◌≤◌, ◌^◌, eqb, leb, List, [], ◌∷◌, ◌++◌, map, length, decimal, Some, None, option_map, arith}
use Rattle.std.specs.List.{All, flat_map, range_with_len}
use Rattle.std.specs.List.Sorted.{IsPermutation}
use Rattle.std.proofs.lemmas.List.{append-nil}
use Rattle.std.proofs.lemmas.List.Elements.{All-nil, All-cons, All-head, All-tail, All-weaker, All-map}
use Rattle.std.proofs.lemmas.List.Sums.{length-filter}
use Rattle.std.proofs.lemmas.List.Sorted.{IsPermutation-map, IsPermutation-sym, IsPermutation-trans, length_permutation}
use Rattle.peg_text.specs.Pairs.{pair_line}
use Rattle.graph.specs.declared.edges.Edge.{Edge}
use Rattle.graph.specs.Edges.{AreBelow}
use Rattle.graph.specs.Entries.{Entry, plain_entry, out_degree, by_degree, hadi_entries}
use Rattle.edge_text.specs.Edges.{text_of}
use Rattle.gimv_base.specs.Parts.{written}
use Rattle.gimv_base.specs.Rules.{groups_of, by_group}
use Rattle.gimv_base.specs.Lines.{entry_line}
use Rattle.gimv_base.specs.Records.{edge_record_of}
use Rattle.gimv_base.specs.BaseRules.{Reading, read_first, read_all, edge_entries, degree_lines, degree_part, unless_bad}
use Rattle.pairs.specs.Pairs.{Pair, IsPlain, pairs_text, sorted_pairs}
use Rattle.spill.specs.Runs.{of_part}
use Rattle.gimv_base.specs.BaseRules.{id_rule, entries_rule, degrees_rule}
use Rattle.flow_core.specs.Holding.{Holds, record_of}
use Rattle.flow_core.specs.Parts.{parts_with}
use Rattle.list_laws.proofs.Alls.{all_both, all_each, all_flat_map}
use Rattle.list_laws.proofs.Images.{flat_map_agree, map-map, flat_map-flat_map, map-flat_map}
use Rattle.std.proofs.lemmas.List.Folds.{flat_map-map}
use Rattle.std.proofs.lemmas.List.Concat.{flat_map_single}
use Rattle.list_laws.proofs.Orders.{permuted_flat}
use Rattle.flow_core.proofs.Groups.{WritesRun, Writes, by_group-runs}
use Rattle.flow_core.proofs.InParts.{all_of_part}
use Rattle.flow_core.proofs.Nodes.{part_nodes, nodes_climb, all_nodes, sorted_at, sorted_at_all, sorted_at_permuted, items_at, IsAtNode, runs_of_nodes, items_by_node, leb_order}
use Rattle.flow_core.proofs.Records.{pairs_text-map, pairs_text-flat}
use Rattle.flow_core.proofs.Folders.{holds_one}
use Rattle.flow_core.proofs.MapPhase.{Gives}
use Rattle.flow_core.proofs.Jobs.{reduces_by_group, copied, gathered}
use Rattle.flow_base.proofs.RecordsBack.{edge_pair, edge_back, numbered_plain}
use Rattle.flow_core.specs.Following.{Giving, Follows}
use Rattle.flow_core.specs.Jobs.{Cut, job_by}
use Rattle.flow_base.specs.Matrices.{entry_pair, one_number}

-- both nodes of an edge are numbers of 32 bits
abbrev pub IsShort : Edge → Type 0
IsShort e = (e.source < 2 ^ 32) × (e.target < 2 ^ 32)

pub short_edges : (n : ℕ) (edges : List Edge) → n ≤ 2 ^ 32 → AreBelow n edges → All IsShort edges
short_edges n edges few below = All-weaker (λ (e : Edge). (e.source < n) × (e.target < n)) IsShort (λ e h. (omega (arith, h.0), omega (arith, h.1))) edges below

edge_plain : (e : Edge) → IsShort e → IsPlain (edge_pair e)
edge_plain e short = numbered_plain e.source e.target (omega (arith, short.0)) (omega (arith, short.1))

edges_hold : (edges : List Edge) → All IsShort edges → Holds (text_of edges ∷ []) (map edge_pair edges)
edges_hold edges short =
    subst (λ (t : List ℕ). Holds (t ∷ []) (map edge_pair edges)) (sym (pairs_text-map edge_pair edges)) (holds_one (map edge_pair edges) (All-map IsPlain edge_pair edges (All-weaker IsShort (λ e. IsPlain (edge_pair e)) edge_plain edges short)))

module _ (gives : Giving) (copy : List (List ℕ)) (copies : Follows gives copy id_rule) (cut : Cut) (some_bytes : 1 ≤ cut.split) (some_reducers : 1 ≤ cut.reducers) (edges : List Edge) (short : All IsShort edges) where
  -- ---- entries of weight 1

  abbrev there : Edge → Pair
  there e = entry_pair one_number (plain_entry e.source e.target)

  abbrev back : Edge → Pair
  back e = entry_pair one_number (plain_entry e.target e.source)

  abbrev both_of : Bool → Edge → List Pair
  both_of both e = there e ∷ (cond both (back e ∷ []) [])

  entries_of : (both : Bool) → flat_map (both_of both) edges ≡ map (entry_pair one_number) (hadi_entries both edges)
  entries_of true = sym (map-flat_map (entry_pair one_number) (λ (e : Edge). plain_entry e.source e.target ∷ plain_entry e.target e.source ∷ []) edges)
  entries_of false = flat_map_single there edges ∙ sym (map-map (entry_pair one_number) (λ (e : Edge). plain_entry e.source e.target) edges)

  entries_text : (both : Bool) (e : Edge) → edge_entries both e ≡ pairs_text (both_of both e)
  entries_text true e = ap (λ (t : List ℕ). pair_line (there e).0 (there e).1 ++ t) (sym (append-nil (pair_line (back e).0 (back e).1)))
  entries_text false e = refl

  own_plain : (both : Bool) (e : Edge) → IsPlain (there e) → IsPlain (back e) → All IsPlain (both_of both e)
  own_plain true e one other = All-cons IsPlain (there e) (back e ∷ []) one (All-cons IsPlain (back e) [] other (All-nil IsPlain))
  own_plain false e one other = All-cons IsPlain (there e) [] one (All-nil IsPlain)

  pub entries_are : (both : Bool) (words : List (List ℕ)) → Follows gives words (entries_rule both) → All (λ e. IsPlain (there e) × IsPlain (back e)) edges → job_by gives cut words copy (text_of edges ∷ []) ≡ parts_with cut.reducers (map (entry_pair one_number) (hadi_entries both edges))
  entries_are both words follows plain =
      gathered gives copy copies cut some_bytes (λ r. option_map (edge_entries both) (edge_record_of r)) (text_of edges ∷ []) words edge_pair (both_of both) edges (map (entry_pair one_number) (hadi_entries both edges)) follows (edges_hold edges short)
      (All-weaker (λ e. IsShort e × (IsPlain (there e) × IsPlain (back e))) (λ e. Gives (λ r. option_map (edge_entries both) (edge_record_of r)) (record_of (edge_pair e)) (both_of both e)) (λ e h. record {
        is = ap (option_map (edge_entries both)) (edge_back e h.0.0 h.0.1) ∙ ap Some (entries_text both e);
        plain = own_plain both e h.1.0 h.1.1;
      }) edges (all_both IsShort (λ e. IsPlain (there e) × IsPlain (back e)) edges short plain))
      (entries_of both) (subst (All IsPlain) (entries_of both) (all_flat_map IsPlain (both_of both) edges (All-weaker (λ e. IsPlain (there e) × IsPlain (back e)) (λ e. All IsPlain (both_of both e)) (λ e h. own_plain both e h.0 h.1) edges plain)))

  -- ---- entries weighed by degree

  module _ (words : List (List ℕ)) (follows : Follows gives words degrees_rule) (n : ℕ) (few : n ≤ 2 ^ 32) (below : AreBelow n edges) where
    abbrev source_of : Edge → ℕ
    source_of e = e.source

    abbrev weighed : Edge → Entry ℕ
    weighed e = record { row = e.target; column = e.source; weight = out_degree edges e.source }

    abbrev entry_of : Edge → Pair
    entry_of e = entry_pair (λ (m : ℕ). m) (weighed e)

    at_sources : All (IsAtNode edge_pair source_of n) edges
    at_sources = All-weaker (λ (e : Edge). (e.source < n) × (e.target < n)) (IsAtNode edge_pair source_of n) (λ e h. record { has_key = refl; inside = h.0 }) edges below

    abbrev mine : ℕ → List Edge
    mine i = sorted_at edge_pair source_of edges i

    degree_is : (i : ℕ) → length (mine i) ≡ out_degree edges i
    degree_is i = length_permutation (items_at edge_pair source_of edges i) (mine i) (sorted_at_permuted edge_pair source_of edges i) ∙ length-filter (λ (e : Edge). eqb e.source i) edges

    read_edges : (es : List Edge) → All IsShort es → read_all edge_record_of (map record_of (map edge_pair es)) ≡ record { items = es; bad = None }
    read_edges [] all = refl
    read_edges (e ∷ es) all =
        let here = All-head IsShort e es all in
        ap (λ found. read_first found (read_all edge_record_of (map record_of (map edge_pair es)))) (edge_back e here.0 here.1) ∙ ap (read_first (Some e)) (read_edges es (All-tail IsShort e es all))

    lines_are : (i d : ℕ) (es : List Edge) → d ≡ out_degree edges i → All (λ (e : Edge). (e.source ≡ i) × IsShort e) es → flat_map (λ (e : Edge). entry_line e.source e.target d) es ≡ pairs_text (map entry_of es)
    lines_are i d es is all =
        flat_map_agree (λ (e : Edge). entry_line e.source e.target d) (λ (e : Edge). pair_line (entry_of e).0 (entry_of e).1) es (All-weaker (λ (e : Edge). (e.source ≡ i) × IsShort e) (λ (e : Edge). entry_line e.source e.target d ≡ pair_line (entry_of e).0 (entry_of e).1) (λ e h. ap (λ (m : ℕ). entry_line e.source e.target m) (is ∙ ap (out_degree edges) (sym h.0))) es all) ∙ pairs_text-map entry_of es

    group_writes : (i : ℕ) (es : List Edge) → length es ≡ out_degree edges i → All (λ (e : Edge). (e.source ≡ i) × IsShort e) es → WritesRun (degree_part []) (map edge_pair es) (pairs_text (map entry_of es))
    group_writes i [] len all = refl
    group_writes i (e ∷ es) len all =
        ap (λ (read : Reading Edge). unless_bad read.bad (degree_lines ([] ++ read.items))) (read_edges (e ∷ es) (All-weaker (λ (d : Edge). (d.source ≡ i) × IsShort d) IsShort (λ d h. h.1) (e ∷ es) all))
        ∙ ap written (lines_are i (length (e ∷ es)) (e ∷ es) len all)

    abbrev run : ℕ → List Pair
    run i = map edge_pair (mine i)

    abbrev out : ℕ → List Pair
    out i = map entry_of (mine i)

    degrees_group : (i : ℕ) → Writes decimal (degree_part []) run (λ j. pairs_text (out j)) i
    degrees_group i =
        let here = sorted_at_all edge_pair source_of IsShort edges i short in record {
          keyed = All-map (λ (p : Pair). (p.0 ≡ decimal i) × IsPlain p) edge_pair (mine i) (All-weaker (λ (e : Edge). (e.source ≡ i) × IsShort e) (λ (e : Edge). ((edge_pair e).0 ≡ decimal i) × IsPlain (edge_pair e)) (λ e h. (ap decimal h.0, edge_plain e h.1)) (mine i) here);
          is = group_writes i (mine i) (degree_is i) here;
        }

    abbrev written_in : ℕ → List Pair
    written_in r = flat_map out (part_nodes cut.reducers n r)

    abbrev parts : List ℕ
    parts = range_with_len 0 cut.reducers

    degrees_are : job_by gives cut copy words (text_of edges ∷ []) ≡ map (λ r. pairs_text (written_in r)) parts
    degrees_are =
        let plain = (edges_hold edges short).plain in
        copied gives copy copies cut some_bytes (text_of edges ∷ []) words (map edge_pair edges) (λ r. pairs_text (written_in r)) (edges_hold edges short) (λ r.
        reduces_by_group gives words (degree_part []) (sorted_pairs (of_part cut.reducers r (map edge_pair edges))) (pairs_text (written_in r)) follows (all_of_part IsPlain cut.reducers r (map edge_pair edges) plain)
        (ap (λ (ps : List Pair). by_group (degree_part []) (groups_of (map record_of ps))) (runs_of_nodes edge_pair source_of cut.reducers n (omega arith) edges at_sources r)
        ∙ by_group-runs decimal (degree_part []) run (λ j. pairs_text (out j)) (part_nodes cut.reducers n r) (nodes_climb cut.reducers n (omega arith) r) (all_each (Writes decimal (degree_part []) run (λ j. pairs_text (out j))) degrees_group (part_nodes cut.reducers n r))
        ∙ ap written (pairs_text-flat out (part_nodes cut.reducers n r))))

    all_degrees : IsPermutation (flat_map written_in parts) (map (entry_pair (λ (m : ℕ). m)) (by_degree edges))
    all_degrees =
        let nodes = range_with_len 0 n in
        let flat = flat_map (part_nodes cut.reducers n) parts in
        let one : IsPermutation (flat_map out flat) (flat_map out nodes) = permuted_flat leb out leb_order flat nodes (IsPermutation-sym nodes flat (all_nodes cut.reducers n (omega arith) some_reducers)) in
        let two : IsPermutation (flat_map out nodes) (map entry_of edges) =
        subst (λ zs. IsPermutation zs (map entry_of edges)) (map-flat_map entry_of mine nodes) (IsPermutation-map entry_of (flat_map mine nodes) edges (IsPermutation-sym edges (flat_map mine nodes) (items_by_node edge_pair source_of n (omega arith) edges (All-weaker (λ (e : Edge). (e.source < n) × (e.target < n)) (λ (e : Edge). e.source < n) (λ e h. h.0) edges below)))) in
        subst (λ zs. IsPermutation zs (map (entry_pair (λ (m : ℕ). m)) (by_degree edges))) (flat_map-flat_map out (part_nodes cut.reducers n) parts) (subst (λ zs. IsPermutation (flat_map out flat) zs) (sym (map-map (entry_pair (λ (m : ℕ). m)) weighed edges)) (IsPermutation-trans (flat_map out flat) (flat_map out nodes) (map entry_of edges) one two))

    pub degrees_hold : All (λ e. IsPlain (entry_pair (λ (m : ℕ). m) e)) (by_degree edges) → Holds (job_by gives cut copy words (text_of edges ∷ [])) (map (entry_pair (λ (m : ℕ). m)) (by_degree edges))
    degrees_hold plain = record {
      lists = map written_in parts;
      are = degrees_are ∙ sym (map-map pairs_text written_in parts);
      all = subst (λ zs. IsPermutation zs (map (entry_pair (λ (m : ℕ). m)) (by_degree edges))) (sym (flat_map-map (λ (l : List Pair). l) written_in parts)) all_degrees;
      plain = All-map IsPlain (entry_pair (λ (m : ℕ). m)) (by_degree edges) plain;
    }
