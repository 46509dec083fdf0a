-- Lines that are written for edges, read back.
use Rattle.std.proofs.Common.{◌≡◌, ℕ, ◌+◌, ◌<◌, ◌≤◌, ◌^◌, true, List, [], ◌∷◌, None, Some, length, decimal, refl, sym, ap, ◌∙◌, subst, arith, inl}
use Rattle.std.specs.List.{list_all}
use Rattle.std.specs.Char.{is_ascii_digit}
use Rattle.std.specs.Str.Parse.{digits_value}
use Rattle.std.proofs.lemmas.Bool.{cond-true, cond-false, le-leb, lt-leb}
use Rattle.std.proofs.lemmas.Fmt.{decimal_is_IsNumeral, length-decimal-le}
use Rattle.std.proofs.lemmas.List.{append_assoc, append-nil}
use Rattle.std.proofs.lemmas.List.Elements.{All-head, All-tail}
use Rattle.graph.specs.declared.edges.Edge.{Edge}
use Rattle.graph.specs.Edges.{AreBelow}
use Rattle.peg_text.specs.Pairs.{pair_text}
use Rattle.peg_text.specs.Records.{HasNoLf, records_of}
use Rattle.peg_text.proofs.DecimalLemmas.{list_all-from_digits}
use Rattle.peg_text.proofs.RecordLemmas.{records_of-line}
use Rattle.edge_text.specs.declared.verdict.Verdict.{Verdict}
use Rattle.edge_text.specs.declared.verdict.Verdict.TheVariants.{Accepted}
use Rattle.edge_text.specs.Verdicts.{pair_verdict, verdict_of}
use Rattle.edge_text.specs.Edges.{Reading, read_first, reading_of, text_of}
use Rattle.edge_text.specs.Laws.{WrittenIsRead}
use Rattle.edge_text.proofs.PlainLemmas.{verdict_of-plain, unbroken}

-- the record of an edge
abbrev record_of : Edge → List ℕ
record_of edge = pair_text (decimal edge.source) (decimal edge.target)

digits : (k : ℕ) → k < 2 ^ 32 → list_all is_ascii_digit (decimal k) ≡ true
digits k small = list_all-from_digits (decimal k) (decimal_is_IsNumeral k (omega arith)).0.1

some : (k : ℕ) → k < 2 ^ 32 → 0 < length (decimal k)
some k small = (decimal_is_IsNumeral k (omega arith)).0.0

few : (k : ℕ) → k < 2 ^ 32 → length (decimal k) ≤ 10
few k small = length-decimal-le 10 k (omega arith) (omega arith) (omega arith)

writes : (k : ℕ) → k < 2 ^ 32 → digits_value 10 (decimal k) ≡ k
writes k small = (decimal_is_IsNumeral k (omega arith)).1

both_below : (n source target : ℕ) → source < n → target < n → pair_verdict n (Some source) (Some target) ≡ Accepted (record { source = source; target = target })
both_below n source target low low' = cond-false _ _ _ (lt-leb n source low) ∙ cond-false _ _ _ (lt-leb n target low')

module _ (n : ℕ) (small : n ≤ 2 ^ 32) (edge : Edge) (low : edge.source < n) (low' : edge.target < n) where
  abbrev source : List ℕ
  source = decimal edge.source

  abbrev target : List ℕ
  target = decimal edge.target

  of_source : edge.source < 2 ^ 32
  of_source = omega arith

  of_target : edge.target < 2 ^ 32
  of_target = omega arith

  accepted : verdict_of n (record_of edge) ≡ Accepted edge
  accepted =
      ap (verdict_of n) (sym (append-nil (record_of edge)))
      ∙ verdict_of-plain source target [] (digits _ of_source) (digits _ of_target) (inl refl) n (some _ of_source) (few _ of_source) (some _ of_target) (few _ of_target)
      ∙ ap (λ s. pair_verdict n (Some s) (Some (digits_value 10 target))) (writes _ of_source)
      ∙ ap (λ t. pair_verdict n (Some edge.source) (Some t)) (writes _ of_target)
      ∙ both_below n edge.source edge.target low low'

  no_lf : HasNoLf (record_of edge)
  no_lf = subst HasNoLf (append-nil (record_of edge)) (unbroken source target [] (digits _ of_source) (digits _ of_target) (inl refl))

abbrev IsBelow : ℕ → Edge → Type 0
IsBelow n edge = (edge.source < n) × (edge.target < n)

written : (n line : ℕ) (edges : List Edge) → n ≤ 2 ^ 32 → AreBelow n edges → reading_of n line (records_of (text_of edges)) ≡ record { edges = edges; refusal = None }
written n line [] small below = refl
written n line (edge ∷ edges) small below =
    let low = All-head (IsBelow n) edge edges below in
    let later = written n (line + 1) edges small (All-tail (IsBelow n) edge edges below) in
    ap (λ bytes. reading_of n line (records_of bytes)) (append_assoc (record_of edge) (10 ∷ []) (text_of edges))
    ∙ ap (reading_of n line) (records_of-line (record_of edge) (text_of edges) (no_lf n small edge low.0 low.1))
    ∙ ap (λ (v : Verdict). read_first line v (reading_of n (line + 1) (records_of (text_of edges)))) (accepted n small edge low.0 low.1)
    ∙ ap (λ (r : Reading). read_first line (Accepted edge) r) later

pub written_is_read : WrittenIsRead
written_is_read n edges small below short = cond-true _ _ _ (le-leb _ _ short) ∙ written n 1 edges small below
