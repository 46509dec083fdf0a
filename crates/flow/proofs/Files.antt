-- The edges of a file are few, and their nodes below the number of nodes.
use Rattle.std.proofs.Common.{sym, subst, eqb, leb, ℕ, suc, ◌+◌, ◌<◌, ◌≤◌, List, [], ◌∷◌, length, take, inl, inr, arith}
use Rattle.std.proofs.lemmas.Bool.{cases_Bool, cond-false, leb-true}
use Rattle.std.proofs.lemmas.List.{length-append, length-take}
use Rattle.std.proofs.lemmas.List.Elements.{All-nil, All-cons, All-head}
use Rattle.peg_text.specs.Records.{onto_cut, cut_of, unended, records_of}
use Rattle.graph.specs.declared.edges.Edge.{Edge}
use Rattle.graph.specs.Edges.{AreBelow}
use Rattle.edge_text.specs.declared.verdict.Verdict.{Verdict}
use Rattle.edge_text.specs.declared.verdict.Verdict.TheVariants.{Skipped, Accepted, Bad, Big}
use Rattle.edge_text.specs.Verdicts.{verdict_of}
use Rattle.edge_text.specs.Edges.{Reading, read_first, reading_of, most_bytes, edges_so_far, edges_of}
use Rattle.edge_text.specs.Feeding.{edge_in}
use Rattle.edge_text.proofs.BelowLemmas.{below-verdict}
use Rattle.flow.specs.Laws.{FileEdgesAreCountable, FileFlow, FileResult}
use Rattle.flow.proofs.Base.{base_flow}
use Rattle.flow.proofs.Ends.{base_result}

-- both nodes of an edge are below n
abbrev IsBelow : ℕ → Edge → Type 0
IsBelow n e = (e.source < n) × (e.target < n)

first_below : (n line : ℕ) (v : Verdict) (later : Reading) → AreBelow n (edge_in v) → AreBelow n later.edges → AreBelow n (read_first line v later).edges
first_below n line Skipped later here more = more
first_below n line (Accepted edge) later here more = All-cons (IsBelow n) edge later.edges (All-head (IsBelow n) edge [] here) more
first_below n line Bad later here more = All-nil (IsBelow n)
first_below n line (Big id) later here more = All-nil (IsBelow n)

reading_below : (n line : ℕ) (texts : List (List ℕ)) → AreBelow n (reading_of n line texts).edges
reading_below n line [] = All-nil (IsBelow n)
reading_below n line (text ∷ texts) = first_below n line (verdict_of n text) (reading_of n (line + 1) texts) (below-verdict n text) (reading_below n (line + 1) texts)

first_few : (line : ℕ) (v : Verdict) (later : Reading) → length (read_first line v later).edges ≤ suc (length later.edges)
first_few line Skipped later = omega arith
first_few line (Accepted edge) later = omega arith
first_few line Bad later = omega arith
first_few line (Big id) later = omega arith

reading_few : (n line : ℕ) (texts : List (List ℕ)) → length (reading_of n line texts).edges ≤ length texts
reading_few n line [] = omega arith
reading_few n line (text ∷ texts) = omega (arith, first_few line (verdict_of n text) (reading_of n (line + 1) texts), reading_few n (line + 1) texts)

onto_few : (b : ℕ) (whole : List (List ℕ)) (rest : List ℕ) → length (onto_cut b whole rest).whole + length (onto_cut b whole rest).rest ≤ suc (length whole + length rest)
onto_few b [] rest = omega arith
onto_few b (r ∷ rs) rest = omega arith

cut_few : (bytes : List ℕ) → length (cut_of bytes).whole + length (cut_of bytes).rest ≤ length bytes
cut_few [] = omega arith
cut_few (b ∷ bs) =
    let later = cut_few bs in
    elim (cases_Bool (eqb b 10)) [
      | inl is ↦ rw is (omega (arith, later))
      | inr isnt ↦ rw isnt (omega (arith, onto_few b (cut_of bs).whole (cut_of bs).rest, later))
    ]

unended_few : (rest : List ℕ) → length (unended rest) ≤ length rest
unended_few [] = omega arith
unended_few (b ∷ bs) = omega arith

records_few : (bytes : List ℕ) → length (records_of bytes) ≤ length bytes
records_few bytes = omega (arith, length-append (cut_of bytes).whole (unended (cut_of bytes).rest), unended_few (cut_of bytes).rest, cut_few bytes)

-- what is read of at most so many bytes
pub record IsFine (n : ℕ) (edges : List Edge) : Type 0 where
  pub few : length edges ≤ most_bytes
  pub below : AreBelow n edges

first_fine : (n : ℕ) (bytes : List ℕ) → IsFine n (reading_of n 1 (cut_of (take most_bytes bytes)).whole).edges
first_fine n bytes = record {
  few = omega (arith, reading_few n 1 (cut_of (take most_bytes bytes)).whole, cut_few (take most_bytes bytes), length-take most_bytes bytes);
  below = reading_below n 1 (cut_of (take most_bytes bytes)).whole;
}

so_far_fine : (n : ℕ) (bytes : List ℕ) → IsFine n (edges_so_far n bytes).edges
so_far_fine n bytes =
    elim (cases_Bool (leb (length bytes) most_bytes)) [
      | inl is ↦ rw is (first_fine n bytes)
      | inr isnt ↦ rw isnt (first_fine n bytes)
    ]

pub edges_fine : (n : ℕ) (bytes : List ℕ) → IsFine n (edges_of n bytes).edges
edges_fine n bytes =
    elim (cases_Bool (leb (length bytes) most_bytes)) [
      | inl is ↦
          let short = leb-true (length bytes) most_bytes is in
          let all : IsFine n (reading_of n 1 (records_of bytes)).edges = record {
            few = omega (arith, reading_few n 1 (records_of bytes), records_few bytes, short);
            below = reading_below n 1 (records_of bytes);
          } in
          rw is all
      | inr isnt ↦ subst (λ (r : Reading). IsFine n r.edges) (sym (cond-false (leb (length bytes) most_bytes) (reading_of n 1 (records_of bytes)) (edges_so_far n bytes) isnt)) (so_far_fine n bytes)
    ]

pub file_edges_are_countable : FileEdgesAreCountable
file_edges_are_countable n bytes = let fine = edges_fine n bytes in record { below = fine.below; few = omega (arith, fine.few) }

pub file_flow : FileFlow
file_flow gives children conf run bytes k = base_flow gives children conf run (edges_of conf.nodes bytes).edges (file_edges_are_countable conf.nodes bytes) k

pub file_result : FileResult
file_result gives children conf run bytes = base_result gives children conf run (edges_of conf.nodes bytes).edges (file_edges_are_countable conf.nodes bytes)
