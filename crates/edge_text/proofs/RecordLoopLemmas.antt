-- Reading records one after another: what was read and what is still to come is all.
use Rattle.std.proofs.Common.{◌≡◌, ℕ, ◌+◌, ◌<◌, ◌≤◌, List, ◌∷◌, ◌++◌, Some, None, length, drop, refl, sym, ap, ◌∙◌, arith, add-zero}
use Rattle.std.proofs.lemmas.List.{append_assoc, append-nil, length-append, length-drop}
use Rattle.graph.specs.declared.edges.Edge.{Edge}
use Rattle.peg_text.specs.Lists.{GoesOnFrom}
use Rattle.peg_text.specs.Records.{Cut, HasNoLf, cut_of}
use Rattle.peg_text.proofs.ListLemmas.{GoesOnFrom-same, GoesOnFrom-by, GoesOnFrom-then}
use Rattle.peg_text.proofs.RecordLemmas.{cut_of-begins, cut_of-unbroken}
use Rattle.edge_text.specs.declared.fault.EdgeFault.{EdgeFault}
use Rattle.edge_text.specs.declared.verdict.Verdict.{Verdict}
use Rattle.edge_text.specs.declared.verdict.Verdict.TheVariants.{Skipped, Accepted, Bad, Big}
use Rattle.edge_text.specs.Edges.{Reading, nothing, read_first, reading_of}
use Rattle.edge_text.specs.Feeding.{edge_in}
use Rattle.edge_text.specs.Unfinished.{HasVerdict, ReadsAll}

-- a record that is not refused
first_none : (v : Verdict) (line : ℕ) (later : Reading) → (read_first line v nothing).refusal ≡ None → ((read_first line v later).refusal ≡ later.refusal) × ((read_first line v later).edges ≡ edge_in v ++ later.edges)
first_none Skipped line later is = (refl, refl)
first_none (Accepted edge) line later is = (refl, refl)
first_none Bad line later is = (cc, cc)
first_none (Big id) line later is = (cc, cc)

-- a record that is refused
first_some : (v : Verdict) (line : ℕ) (later : Reading) (fault : EdgeFault) → (read_first line v nothing).refusal ≡ Some fault → ((read_first line v later).refusal ≡ Some fault) × ((read_first line v later).edges ≡ edge_in v)
first_some Skipped line later fault is = (cc, cc)
first_some (Accepted edge) line later fault is = (cc, cc)
first_some Bad line later fault is = (is, refl)
first_some (Big id) line later fault is = (is, refl)

-- what the whole records say from here on
abbrev pub reading_from : ℕ → ℕ → List ℕ → Reading
reading_from n line bytes = reading_of n line (cut_of bytes).whole

-- the records before `start` were read into the edges
pub record OnTheWay (n first : ℕ) (bytes : List ℕ) (before : List Edge) (line start : ℕ) (edges : List Edge) : Type 0 where
  pub refusal : (reading_from n line (drop start bytes)).refusal ≡ (reading_from n first bytes).refusal
  pub added : edges ++ (reading_from n line (drop start bytes)).edges ≡ before ++ (reading_from n first bytes).edges
  pub lines : line + length (cut_of (drop start bytes)).whole ≡ first + length (cut_of bytes).whole
  pub rest : (cut_of (drop start bytes)).rest ≡ (cut_of bytes).rest
  pub inside : start ≤ length bytes
  pub counted : line ≤ first + start
  pub kept : GoesOnFrom before edges

-- the next record begins behind this one
pub next-later : (n : ℕ) (bytes : List ℕ) (start next : ℕ) (v : Verdict) → start ≤ length bytes → HasVerdict n bytes start next v → start < next
next-later n bytes start next v inside h =
    omega (arith, h.inside, ap length h.begins.whole, length-append h.line (10 ∷ drop next bytes), length-drop start bytes, length-drop next bytes)

module _ (n first : ℕ) (bytes : List ℕ) (before : List Edge) where
  pub OnTheWay-begins : OnTheWay n first bytes before first 0 before
  OnTheWay-begins = record {
    refusal = refl;
    added = refl;
    lines = refl;
    rest = refl;
    inside = omega arith;
    counted = omega arith;
    kept = GoesOnFrom-same before before refl;
  }

  module _ (line start next : ℕ) (edges edges' : List Edge) (v : Verdict) where
    abbrev later : Reading
    later = reading_from n (line + 1) (drop next bytes)

    here : (h : HasVerdict n bytes start next v) → cut_of (drop start bytes) ≡ record { whole = h.line ∷ (cut_of (drop next bytes)).whole; rest = (cut_of (drop next bytes)).rest }
    here h = cut_of-begins (drop start bytes) h.line (drop next bytes) h.begins

    reading_here : HasVerdict n bytes start next v → reading_from n line (drop start bytes) ≡ read_first line v later
    reading_here h = ap (λ (c : Cut). reading_of n line c.whole) (here h) ∙ ap (λ x. read_first line x later) (sym h.judged)

    pub OnTheWay-more : OnTheWay n first bytes before line start edges → HasVerdict n bytes start next v → (read_first line v nothing).refusal ≡ None → edges' ≡ edges ++ edge_in v → OnTheWay n first bytes before (line + 1) next edges'
    OnTheWay-more way h none push =
        let parts = first_none v line later none in
        let cut = here h in
        record {
          refusal = sym (ap (λ (r : Reading). r.refusal) (reading_here h) ∙ parts.0) ∙ way.refusal;
          added = ap (λ es. es ++ later.edges) push ∙ append_assoc edges (edge_in v) later.edges ∙ ap (λ es. edges ++ es) (sym (ap (λ (r : Reading). r.edges) (reading_here h) ∙ parts.1)) ∙ way.added;
          lines = omega (arith, way.lines, ap (λ (c : Cut). length c.whole) cut);
          rest = sym (ap (λ (c : Cut). c.rest) cut) ∙ way.rest;
          inside = h.inside;
          counted = omega (arith, way.counted, next-later n bytes start next v way.inside h);
          kept = GoesOnFrom-then before edges edges' way.kept (GoesOnFrom-by edges edges' (edge_in v) push);
        }

    pub OnTheWay-refuses : (fault : EdgeFault) → OnTheWay n first bytes before line start edges → HasVerdict n bytes start next v → (read_first line v nothing).refusal ≡ Some fault → edges' ≡ edges ++ edge_in v → ((reading_from n first bytes).refusal ≡ Some fault) × (edges' ≡ before ++ (reading_from n first bytes).edges)
    OnTheWay-refuses fault way h some push =
        let parts = first_some v line later fault some in (
          sym way.refusal ∙ ap (λ (r : Reading). r.refusal) (reading_here h) ∙ parts.0,
          push ∙ ap (λ es. edges ++ es) (sym (ap (λ (r : Reading). r.edges) (reading_here h) ∙ parts.1)) ∙ way.added,
        )

  module _ (line start : ℕ) (edges : List Edge) where
    pub OnTheWay-ends : OnTheWay n first bytes before line start edges → HasNoLf (drop start bytes) → ReadsAll n first bytes line start × (edges ≡ before ++ (reading_from n first bytes).edges)
    OnTheWay-ends way unbroken =
        let cut = cut_of-unbroken (drop start bytes) unbroken in (
          record {
            none = sym way.refusal ∙ ap (λ (c : Cut). (reading_of n line c.whole).refusal) cut;
            lines = sym (ap (λ (c : Cut). line + length c.whole) cut ∙ add-zero line) ∙ way.lines;
            rest = sym (ap (λ (c : Cut). c.rest) cut) ∙ way.rest;
            inside = way.inside;
          },
          sym (ap (λ (c : Cut). edges ++ (reading_of n line c.whole).edges) cut ∙ append-nil edges) ∙ way.added,
        )
