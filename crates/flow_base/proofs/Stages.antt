-- What the two roles of a step write for the sorted pairs of a part.
use Rattle.std.proofs.Common.{◌≡◌, refl, sym, ap, ◌∙◌, subst, true, ℕ, ◌<◌, ◌≤◌, ◌^◌, eqb, List, [], ◌∷◌, map, fold, decimal, Some, arith}
use Rattle.std.specs.List.{All, range_with_len}
use Rattle.std.specs.declared.cmp.Ordering.{Ordering}
use Rattle.std.specs.Ordering.{ordering_then, is_le}
use Rattle.std.proofs.lemmas.Bool.{ltb-true, lt-ltb}
use Rattle.std.proofs.lemmas.Cmp.{nat_list_cmp_total, tied_itself}
use Rattle.std.proofs.lemmas.List.{append-nil}
use Rattle.std.proofs.lemmas.List.Elements.{All-nil, All-cons, All-tail, All-weaker, All-filter, All-map}
use Rattle.std.proofs.lemmas.List.Sorted.{IsPermutation-map}
use Rattle.peg_text.specs.Pairs.{pair_line}
use Rattle.peg_text.specs.Records.{HasNoLf}
use Rattle.graph.specs.Entries.{Entry}
use Rattle.graph.specs.Steps.{Vector, messages_to, all_of, step}
use Rattle.graph.proofs.GatherLemmas.{messages_in_any_order}
use Rattle.gimv_core.specs.Algebras.{Algebra, FitsVal, FitsMsg, VectorFits, EntryFits, EntriesFit}
use Rattle.gimv_core.specs.Laws.{IsLawful}
use Rattle.gimv_core.specs.Consequences.{first_nodes}
use Rattle.gimv_core.proofs.DecimalTexts.{decimal_plain}
use Rattle.gimv_base.specs.Records.{value_record_of, entry_record_of, message_record_of}
use Rattle.gimv_base.specs.BaseRules.{passed_line}
use Rattle.gimv_base.proofs.ReadBackLemmas.{values_read_back, entries_read_back, messages_read_back}
use Rattle.pairs.specs.Pairs.{Pair, IsPlain, bytes_cmp, pair_before, pairs_text}
use Rattle.flow_base.proofs.Lines.{message_pair, node_pair}
use Rattle.list_laws.proofs.Alls.{all_right}
use Rattle.flow_core.specs.Holding.{record_of}
use Rattle.flow_core.proofs.Nodes.{items_at, sorted_at, sorted_at_permuted}
use Rattle.flow_core.proofs.Joins.{Joins}
use Rattle.flow_base.specs.Matrices.{Weighs, entry_pair}

-- a pair whose key is a node's
pub plain_from : (p : Pair) (i : ℕ) → p.0 ≡ decimal i → i < 2 ^ 64 → HasNoLf (record_of p) → IsPlain p
plain_from p i is small unbroken =
    let digits = decimal_plain i small in record {
      key_tab = subst (λ (k : List ℕ). All (λ b. b ≡ 9 → ⊥) k) (sym is) digits.as_val.no_tab;
      key_lf = subst HasNoLf (sym is) digits.as_val.no_lf;
      value_lf = All-tail (λ b. b ≡ 10 → ⊥) 9 p.1 (all_right (λ b. b ≡ 10 → ⊥) p.0 (9 ∷ p.1) unbroken);
    }

-- where two keys are the same the values decide
pub before_by_values : (p q : Pair) → p.0 ≡ q.0 → is_le (bytes_cmp p.1 q.1) ≡ true → pair_before p q ≡ true
before_by_values p q same le =
    let tied = subst (λ (k : List ℕ). bytes_cmp p.0 k ≡ bytes_cmp p.0 p.0) same refl ∙ tied_itself nat_list_cmp_total p.0 in
    ap (λ (o : Ordering). is_le (ordering_then o (bytes_cmp p.1 q.1))) tied ∙ le

module _ {Val Msg Weight : Type 0} (a : Algebra Val Msg Weight) (laws : IsLawful a) (n : ℕ) (few : n ≤ 2 ^ 32) where
  pub small : n ≤ 2 ^ 64
  small = omega arith

  row_low : (e : Entry Weight) → EntryFits a (first_nodes n) e → e.row < n
  row_low e fit = ltb-true e.row n fit.row_in

  column_low : (e : Entry Weight) → EntryFits a (first_nodes n) e → e.column < n
  column_low e fit = ltb-true e.column n fit.column_in

  module _ (number : Weight → ℕ) where
    pub entry_plain : (e : Entry Weight) → EntryFits a (first_nodes n) e → Weighs a number e → IsPlain (entry_pair number e)
    entry_plain e fit weighs =
        let low = column_low e fit in
        plain_from (entry_pair number e) e.column refl (omega arith) (entries_read_back a n e.column e.row (number e.weight) e.weight (omega arith) (row_low e fit) few weighs.small weighs.is).one_record

    entry_reads : (e : Entry Weight) → EntryFits a (first_nodes n) e → Weighs a number e → entry_record_of a n (record_of (entry_pair number e)) ≡ Some (e.row, e.weight)
    entry_reads e fit weighs =
        let low = column_low e fit in
        (entries_read_back a n e.column e.row (number e.weight) e.weight (omega arith) (row_low e fit) few weighs.small weighs.is).is

  module _ (counts : ℕ → ℕ) (most : (i : ℕ) → counts i ≤ 256) (v : Vector Val) (vector : VectorFits a (first_nodes n) v) where
    abbrev pub head : ℕ → Pair
    head i = node_pair a counts v i

    value_fits : (i : ℕ) → i < n → FitsVal a (v i)
    value_fits i low = vector i (lt-ltb i n low)

    pub head_plain : (i : ℕ) → i < n → IsPlain (head i)
    head_plain i low = plain_from (head i) i refl (omega arith) (values_read_back a laws n i (counts i) (v i) low few (most i) (value_fits i low)).one_record

    pub head_reads : (i : ℕ) → i < n → value_record_of a n (record_of (head i)) ≡ Some (i, v i)
    head_reads i low = (values_read_back a laws n i (counts i) (v i) low few (most i) (value_fits i low)).is

    abbrev pub msg : Entry Weight → Msg
    msg e = a.algorithm.combine2 e.weight (v e.column)

    pub message_fits : (e : Entry Weight) → EntryFits a (first_nodes n) e → FitsMsg a (msg e)
    message_fits e fit = laws.combine2_fits e.weight (v e.column) fit.weight_fits (vector e.column fit.column_in)

    pub message_plain : (e : Entry Weight) → EntryFits a (first_nodes n) e → IsPlain (message_pair a v e)
    message_plain e fit =
        let low = row_low e fit in
        plain_from (message_pair a v e) e.row refl (omega arith) (messages_read_back a laws e.row (msg e) (omega arith) (message_fits e fit)).one_record

    message_reads : (e : Entry Weight) → EntryFits a (first_nodes n) e → message_record_of a (record_of (message_pair a v e)) ≡ Some (msg e)
    message_reads e fit = let low = row_low e fit in (messages_read_back a laws e.row (msg e) (omega arith) (message_fits e fit)).is

    -- ---- the first stage

    abbrev nodes : List ℕ
    nodes = range_with_len 0 n

    abbrev node_at : ℕ → ℕ × Val
    node_at i = (i, v i)

    pub heads_good : (i : ℕ) → i < n → IsPlain (head i) × (value_record_of a n (record_of (head i)) ≡ Some (node_at i))
    heads_good i low = (head_plain i low, head_reads i low)

    module _ (number : Weight → ℕ) (entries : List (Entry Weight)) (good : All (λ e. EntryFits a (first_nodes n) e × Weighs a number e) entries) where
      abbrev column_of : Entry Weight → ℕ
      column_of e = e.column

      abbrev entry_at : Entry Weight → ℕ × Weight
      entry_at e = (e.row, e.weight)

      abbrev Joins1 : Entry Weight → Type 0
      Joins1 = Joins decimal eqb (λ i. i < n) head node_at (entry_pair number) column_of entry_at (λ node. entry_record_of a n)

      pub joins1 : All Joins1 entries
      joins1 =
          All-weaker (λ e. EntryFits a (first_nodes n) e × Weighs a number e) Joins1 (λ e h. record {
            behind = record { is_at = record { has_key = refl; inside = column_low e h.0 }; behind = before_by_values (head e.column) (entry_pair number e) refl refl };
            plain = entry_plain number e h.0 h.1;
            reads = entry_reads number e h.0 h.1;
          }) entries good

      abbrev sent_for : Entry Weight → List Pair
      sent_for e = message_pair a v e ∷ []

      pub passes1 : All (λ e. (passed_line a (v e.column) (entry_at e) ≡ pairs_text (sent_for e)) × All IsPlain (sent_for e)) entries
      passes1 =
          All-weaker (λ e. EntryFits a (first_nodes n) e × Weighs a number e) (λ e. (passed_line a (v e.column) (entry_at e) ≡ pairs_text (sent_for e)) × All IsPlain (sent_for e)) (λ e h. (sym (append-nil (pair_line (message_pair a v e).0 (message_pair a v e).1)), All-cons IsPlain (message_pair a v e) [] (message_plain e h.0) (All-nil IsPlain))) entries good

    -- ---- the second stage

    module _ (entries : List (Entry Weight)) (fits : EntriesFit a (first_nodes n) entries) where
      abbrev pub next : Vector Val
      next = step a.algorithm entries v

      abbrev row_of : Entry Weight → ℕ
      row_of e = e.row

      abbrev Joins2 : Entry Weight → Type 0
      Joins2 = Joins decimal eqb (λ i. i < n) head node_at (message_pair a v) row_of msg (λ node. message_record_of a)

      pub joins2 : All Joins2 entries
      joins2 =
          All-weaker (EntryFits a (first_nodes n)) Joins2 (λ e fit. record {
            behind = record { is_at = record { has_key = refl; inside = row_low e fit }; behind = before_by_values (head e.row) (message_pair a v e) refl refl };
            plain = message_plain e fit;
            reads = message_reads e fit;
          }) entries fits

      pub messages_all : (i : ℕ) → fold a.algorithm.combine a.algorithm.unit (map msg (sorted_at (message_pair a v) row_of entries i)) ≡ all_of a.algorithm (messages_to a.algorithm entries v i)
      messages_all i =
          let es = items_at (message_pair a v) row_of entries i in
          sym (messages_in_any_order a.algorithm a.fits_msg laws.in_any_order (map msg es) (map msg (sorted_at (message_pair a v) row_of entries i))
          (All-map (FitsMsg a) msg es (All-weaker (EntryFits a (first_nodes n)) (λ e. FitsMsg a (msg e)) message_fits es (All-filter (λ (e : Entry Weight). eqb e.row i) (EntryFits a (first_nodes n)) entries fits)))
          (IsPermutation-map msg es (sorted_at (message_pair a v) row_of entries i) (sorted_at_permuted (message_pair a v) row_of entries i)))
