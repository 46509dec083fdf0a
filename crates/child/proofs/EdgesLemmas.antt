-- What a reader has read of an edge list that came as one piece.
use Rattle.std.proofs.Common.{◌≡◌, ℕ, List, [], ◌++◌, Option, Some, None, Result, Ok, Err, OnOk, refl, sym, ap, ◌∙◌, append_assoc}
use Rattle.std.proofs.lemmas.List.{append-nil}
use Rattle.std.proofs.lemmas.List.Concat.{flat_map-append}
use Rattle.peg_text.specs.Lists.{GoesOnFrom}
use Rattle.edge_text.specs.declared.fault.EdgeFault.{EdgeFault}
use Rattle.edge_text.specs.declared.fault.EdgeFault.TheVariants.{BadEdge, BigNode, TooLarge, NoMemory}
use Rattle.edge_text.specs.Answers.{OnNoMemory, UnlessNoMemory}
use Rattle.edge_text.specs.Edges.{Reading, edges_of, line_of, text_of}
use Rattle.edge_text.specs.Feeding.{State, Reads, Refused, begun, fed, fed_edges, ended, ended_edges, fault_of}
use Rattle.edge_text.proofs.AnswerLemmas.{unless_weaker}
use Rattle.edge_text.proofs.ReadingLemmas.{reading_at_end-is}
use Rattle.gimv_base.specs.Answers.{IsNotBad}
use Rattle.gimv_base.specs.Lines.{with_lf}
use Rattle.gimv_base.specs.Parts.{joined}
use Rattle.gimv_base.specs.Rules.{role_out, text_part}
use Rattle.gimv_base.specs.Standings.{fresh, yet}
use Rattle.child.specs.Edges.{accepted_text, edges_rule, unless_refused}

none_is_some : {A : Type 0} {x : A} → None ≡ Some x → ⊥
none_is_some e = cc

-- a reader was fed a whole list, and told the end then
module _ (n : ℕ) (list : List ℕ) (first s : State) (begins : first ≡ begun n) (stands : s ≡ fed first list) where
  stands_at : s ≡ fed (begun n) list
  stands_at = stands ∙ ap (λ (t : State). fed t list) begins

  -- the lines of all edges are those of the piece and of the end
  pub text_is : (old mid new : List ℕ) → mid ≡ old ++ text_of (fed_edges first list) → new ≡ mid ++ text_of (ended_edges s) → new ≡ old ++ text_of (edges_of n list).edges
  text_is old mid new fed_text end_text =
      end_text ∙ ap (λ (l : List ℕ). l ++ text_of (ended_edges s)) fed_text
      ∙ append_assoc old (text_of (fed_edges first list)) (text_of (ended_edges s))
      ∙ ap (λ (l : List ℕ). old ++ l) (sym (flat_map-append line_of (fed_edges first list) (ended_edges s)))
      ∙ ap (λ (t : State). old ++ text_of (fed_edges t list ++ ended_edges s)) begins
      ∙ ap (λ (t : State). old ++ text_of (fed_edges (begun n) list ++ ended_edges t)) stands_at
      ∙ ap (λ (r : Reading). old ++ text_of r.edges) (reading_at_end-is n list)

  -- the refusal is the one at the end
  pub refusal_is : (t : State) (answer : Option EdgeFault) → t ≡ ended s → fault_of t ≡ answer → (edges_of n list).refusal ≡ answer
  refusal_is t answer ends is =
      sym (ap (λ (r : Reading). r.refusal) (reading_at_end-is n list)) ∙ ap (λ (u : State). fault_of (ended u)) (sym stands_at) ∙ ap fault_of (sym ends) ∙ is

stays_refused : (s : State) (fault : EdgeFault) → fault_of s ≡ Some fault → fault_of (ended s) ≡ Some fault
stays_refused (Reads n line held taken) fault is = absurd (none_is_some is)
stays_refused (Refused n other) fault is = is

-- or the one of the piece
pub refused_early : (n : ℕ) (list : List ℕ) (first s : State) (fault : EdgeFault) → first ≡ begun n → fault_of s ≡ Some fault → s ≡ fed first list → (edges_of n list).refusal ≡ Some fault
refused_early n list first s fault begins is stands = refusal_is n list first s begins stands (ended s) (Some fault) refl (stays_refused s fault is)

pub where_memory : {T P Q : Type 0} (answer : Result T EdgeFault) → (P → Q) → UnlessNoMemory answer P → UnlessNoMemory answer Q
where_memory (Ok x) f p = f p
where_memory (Err fault) f p = unless_weaker fault f p

-- a text that was appended to, or left as it was for want of memory
pub goes_on : {T : Type 0} (answer : Result T EdgeFault) (old new more : List ℕ) → UnlessNoMemory answer (new ≡ old ++ more) → OnNoMemory answer (new ≡ old) → GoesOnFrom old new
goes_on (Ok x) old new more grown same = record { more = more; is = grown }
goes_on (Err (BadEdge line)) old new more grown same = record { more = more; is = grown }
goes_on (Err (BigNode line id)) old new more grown same = record { more = more; is = grown }
goes_on (Err TooLarge) old new more grown same = record { more = more; is = grown }
goes_on (Err NoMemory) old new more grown same = record { more = []; is = same ∙ sym (append-nil old) }

pub on_ok : {T P Q : Type 0} (answer : Result T EdgeFault) → (P → Q) → UnlessNoMemory answer P → OnOk answer Q
on_ok (Ok x) f p = f p
on_ok (Err fault) f p = tt

pub where_ok : {T E P Q : Type 0} (answer : Result T E) → (P → Q) → OnOk answer P → OnOk answer Q
where_ok (Ok x) f p = f p
where_ok (Err fault) f p = tt

-- a record that isn't refused as an edge list isn't bad
pub not_bad : (n : ℕ) (r list : List ℕ) → list ≡ with_lf r → (edges_of n list).refusal ≡ None → IsNotBad (yet (fresh (edges_rule n))) r
not_bad n r list is none = record {
  later = [];
  good = λ bad. none_is_some (sym (ap (λ (text : Option (List ℕ)). (joined (text_part text) 1 (role_out (edges_rule n) [])).bad) accepted) ∙ bad);
}
  where
    accepted : accepted_text (edges_of n (with_lf r)) ≡ Some (text_of (edges_of n (with_lf r)).edges)
    accepted = ap (λ (refusal : Option EdgeFault). unless_refused refusal (text_of (edges_of n (with_lf r)).edges)) (ap (λ (l : List ℕ). (edges_of n l).refusal) (sym is) ∙ none)
