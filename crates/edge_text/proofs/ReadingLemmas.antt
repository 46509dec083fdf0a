-- Readers and whole edge lists.
use Rattle.std.proofs.Common.{◌≡◌, ℕ, ◌+◌, ◌<◌, ◌≤◌, List, [], ◌∷◌, ◌++◌, Option, Some, None, All, length, take, refl, sym, ap, ◌∙◌, arith, inl, inr, leb, add-zero}
use Rattle.std.specs.List.{concat}
use Rattle.std.proofs.lemmas.Bool.{cases_Bool, cond-true, cond-false, leb-true, leb-false}
use Rattle.std.proofs.lemmas.List.{append_assoc, append-nil, take_all}
use Rattle.std.proofs.lemmas.List.Elements.{All-nil}
use Rattle.graph.specs.declared.edges.Edge.{Edge}
use Rattle.peg_text.specs.Records.{cut_of, unended, records_of}
use Rattle.edge_text.specs.declared.fault.EdgeFault.{EdgeFault}
use Rattle.edge_text.specs.declared.verdict.Verdict.{Verdict}
use Rattle.edge_text.specs.declared.verdict.Verdict.TheVariants.{Skipped, Accepted, Bad, Big}
use Rattle.edge_text.specs.Verdicts.{verdict_of}
use Rattle.edge_text.specs.Edges.{Reading, read_first, reading_of, most_bytes, or_too_large, edges_so_far, edges_of}
use Rattle.edge_text.specs.Feeding.{State, begun, after_record, edge_in, fed, fed_edges, ended, ended_edges, fault_of, reading_in_pieces}
use Rattle.edge_text.specs.Laws.{CuttingChangesNothing, PiecesJoin, ReadsWholeRecords}
use Rattle.edge_text.proofs.FeedingLemmas.{fed-append, fed_edges-append, settled, fault_of-settled, fed-within, fed_edges-within, fed-past, fed_edges-past}

-- a reading that goes on after these edges, unless it was refused
abbrev pub going_on : Option EdgeFault → List Edge → Reading → Reading
going_on None edges later = record { edges = edges ++ later.edges; refusal = later.refusal }
going_on (Some fault) edges later = record { edges = edges; refusal = Some fault }

read_first-going_on : (v : Verdict) (line : ℕ) (refusal : Option EdgeFault) (edges : List Edge) (later : Reading) → read_first line v (going_on refusal edges later) ≡ going_on (read_first line v (record { edges = edges; refusal = refusal })).refusal (read_first line v (record { edges = edges; refusal = refusal })).edges later
read_first-going_on Skipped line refusal edges later = refl
read_first-going_on (Accepted edge) line None edges later = refl
read_first-going_on (Accepted edge) line (Some fault) edges later = refl
read_first-going_on Bad line refusal edges later = refl
read_first-going_on (Big id) line refusal edges later = refl

-- the reading of records and further ones
pub reading_of-append : (n line : ℕ) (first second : List (List ℕ)) → reading_of n line (first ++ second) ≡ going_on (reading_of n line first).refusal (reading_of n line first).edges (reading_of n (line + length first) second)
reading_of-append n line [] second = ap (λ l. reading_of n l second) (sym (add-zero line))
reading_of-append n line (text ∷ texts) second =
    let lines : line + 1 + length texts ≡ line + length (text ∷ texts) = omega arith in
    ap (read_first line (verdict_of n text)) (reading_of-append n (line + 1) texts second ∙ ap (λ l. going_on (reading_of n (line + 1) texts).refusal (reading_of n (line + 1) texts).edges (reading_of n l second)) lines) ∙ read_first-going_on (verdict_of n text) line (reading_of n (line + 1) texts).refusal (reading_of n (line + 1) texts).edges (reading_of n (line + length (text ∷ texts)) second)

-- what a reader reads at the end
abbrev pub reading_at_end : List Edge → State → Reading
reading_at_end edges s = record { edges = edges ++ ended_edges s; refusal = fault_of (ended s) }

last_record : (v : Verdict) (n line taken : ℕ) (edges : List Edge) → record { edges = edges ++ edge_in v; refusal = fault_of (after_record n line taken v) } ≡ going_on None edges (read_first line v (record { edges = []; refusal = None }))
last_record Skipped n line taken edges = refl
last_record (Accepted edge) n line taken edges = refl
last_record Bad n line taken edges = refl
last_record (Big id) n line taken edges = refl

reading_at_end-settled : (refusal : Option EdgeFault) (n line : ℕ) (held : List ℕ) (taken : ℕ) (edges : List Edge) → reading_at_end edges (settled refusal n line held taken) ≡ going_on refusal edges (reading_of n line (unended held))
reading_at_end-settled None n line [] taken edges = refl
reading_at_end-settled None n line (b ∷ bs) taken edges = last_record (verdict_of n (b ∷ bs)) n line taken edges
reading_at_end-settled (Some fault) n line held taken edges =
    ap (λ es. record { edges = es; refusal = Some fault }) (append-nil edges)

no_lf_held : All (λ (b : ℕ). b ≡ 10 → ⊥) []
no_lf_held = All-nil (λ b. b ≡ 10 → ⊥)

module _ (n : ℕ) (bytes : List ℕ) where
  abbrev first : Reading
  first = reading_of n 1 (cut_of bytes).whole

  abbrev front : List ℕ
  front = take most_bytes bytes

  abbrev judged : Reading
  judged = reading_of n 1 (cut_of front).whole

  -- at most 2^36 bytes
  whole-within : length bytes ≤ most_bytes → reading_at_end (fed_edges (begun n) bytes) (fed (begun n) bytes) ≡ reading_of n 1 (records_of bytes)
  whole-within fits =
      let cut = cut_of bytes in
      ap (λ es. reading_at_end es (fed (begun n) bytes)) (fed_edges-within n 1 [] bytes 0 no_lf_held (omega arith)) ∙ ap (reading_at_end first.edges) (fed-within n 1 [] bytes 0 no_lf_held (omega arith)) ∙ reading_at_end-settled first.refusal n (1 + length cut.whole) cut.rest (0 + length bytes) first.edges ∙ sym (reading_of-append n 1 cut.whole (unended cut.rest))

  -- more than 2^36 bytes
  whole-past : most_bytes < length bytes → reading_at_end (fed_edges (begun n) bytes) (fed (begun n) bytes) ≡ record { edges = judged.edges; refusal = or_too_large judged.refusal }
  whole-past past =
      ap (λ es. reading_at_end es (fed (begun n) bytes)) (fed_edges-past n 1 [] bytes 0 no_lf_held (omega arith) (omega arith)) ∙ ap (reading_at_end judged.edges) (fed-past n 1 [] bytes 0 1 0 [] no_lf_held (omega arith) (omega arith)) ∙ reading_at_end-settled (or_too_large judged.refusal) n 1 [] 0 judged.edges ∙ past_end judged.refusal judged.edges
    where
      past_end : (refusal : Option EdgeFault) (edges : List Edge) → going_on (or_too_large refusal) edges (reading_of n 1 []) ≡ record { edges = edges; refusal = or_too_large refusal }
      past_end None edges = refl
      past_end (Some fault) edges = refl

  -- a reader that is fed all bytes and then told the end reads the edges of the bytes
  pub reading_at_end-is : reading_at_end (fed_edges (begun n) bytes) (fed (begun n) bytes) ≡ edges_of n bytes
  reading_at_end-is =
      elim (cases_Bool (leb (length bytes) most_bytes)) [
        | inl fits ↦ whole-within (leb-true (length bytes) most_bytes fits) ∙ sym (cond-true _ _ _ fits)
        | inr past ↦ whole-past (leb-false (length bytes) most_bytes past) ∙ sym (cond-false _ _ _ past ∙ cond-false _ _ _ past)
      ]

  -- the records that are whole among the bytes so far
  pub fed_edges-so_far : fed_edges (begun n) bytes ≡ (edges_so_far n bytes).edges
  fed_edges-so_far =
      elim (cases_Bool (leb (length bytes) most_bytes)) [
        | inl fits ↦
            let few : length bytes ≤ most_bytes = leb-true (length bytes) most_bytes fits in
            fed_edges-within n 1 [] bytes 0 no_lf_held (omega arith) ∙ ap (λ bs. (reading_of n 1 (cut_of bs).whole).edges) (sym (take_all most_bytes bytes few)) ∙ ap (λ (r : Reading). r.edges) (sym (cond-true _ _ _ fits))
        | inr past ↦
            let many : most_bytes < length bytes = leb-false (length bytes) most_bytes past in
            fed_edges-past n 1 [] bytes 0 no_lf_held (omega arith) (omega arith) ∙ ap (λ (r : Reading). r.edges) (sym (cond-false _ _ _ past))
      ]

  pub fault_of-so_far : fault_of (fed (begun n) bytes) ≡ (edges_so_far n bytes).refusal
  fault_of-so_far =
      elim (cases_Bool (leb (length bytes) most_bytes)) [
        | inl fits ↦
            let few : length bytes ≤ most_bytes = leb-true (length bytes) most_bytes fits in
            ap fault_of (fed-within n 1 [] bytes 0 no_lf_held (omega arith)) ∙ fault_of-settled first.refusal n (1 + length (cut_of bytes).whole) (cut_of bytes).rest (0 + length bytes) ∙ ap (λ bs. (reading_of n 1 (cut_of bs).whole).refusal) (sym (take_all most_bytes bytes few)) ∙ ap (λ (r : Reading). r.refusal) (sym (cond-true _ _ _ fits))
        | inr past ↦
            let many : most_bytes < length bytes = leb-false (length bytes) most_bytes past in
            ap fault_of (fed-past n 1 [] bytes 0 1 0 [] no_lf_held (omega arith) (omega arith)) ∙ fault_of-settled (or_too_large judged.refusal) n 1 [] 0 ∙ ap (λ (r : Reading). r.refusal) (sym (cond-false _ _ _ past))
      ]

pub reading_in_pieces-is : (s : State) (pieces : List (List ℕ)) → reading_in_pieces s pieces ≡ reading_at_end (fed_edges s (concat pieces)) (fed s (concat pieces))
reading_in_pieces-is s [] = refl
reading_in_pieces-is s (piece ∷ pieces) =
    let further = concat pieces in
    ap (λ (r : Reading). record { edges = fed_edges s piece ++ r.edges; refusal = r.refusal }) (reading_in_pieces-is (fed s piece) pieces)
    ∙ ap (λ es. record { edges = es; refusal = fault_of (ended (fed (fed s piece) further)) }) (sym (append_assoc (fed_edges s piece) (fed_edges (fed s piece) further) (ended_edges (fed (fed s piece) further))))
    ∙ ap (λ es. reading_at_end es (fed (fed s piece) further)) (sym (fed_edges-append s piece further))
    ∙ ap (reading_at_end (fed_edges s (piece ++ further))) (sym (fed-append s piece further))

pub cutting_changes_nothing : CuttingChangesNothing
cutting_changes_nothing n pieces = reading_in_pieces-is (begun n) pieces ∙ reading_at_end-is n (concat pieces)

pub pieces_join : PiecesJoin
pieces_join s first second = (sym (fed-append s first second), sym (fed_edges-append s first second))

pub reads_whole_records : ReadsWholeRecords
reads_whole_records n bytes = (fed_edges-so_far n bytes, fault_of-so_far n bytes)
