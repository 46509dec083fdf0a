-- The text of a source's edges, piece by piece.
use Rattle.std.proofs.Common.{◌≡◌, ℕ, List, [], ◌++◌, Option, Some, None, IfSome, Result, IfOk, refl, sym, ap, ◌∙◌, subst}
use Rattle.std.proofs.lemmas.List.{append-nil}
use Rattle.std.proofs.lemmas.List.Concat.{flat_map-append}
use Rattle.graph.specs.declared.edges.Edge.{Edge}
use Rattle.dir_disk.specs.Streams.{AtEnd, onto}
use Rattle.dir_disk.proofs.StreamLemmas.{onto-onto, onto-nil}
use Rattle.edge_text.specs.declared.fault.EdgeFault.{EdgeFault}
use Rattle.edge_text.specs.declared.fault.EdgeFault.TheVariants as Text
use Rattle.edge_text.specs.Answers.{UnlessOutOfMemory}
use Rattle.edge_text.specs.Edges.{edges_of, line_of, text_of}
use Rattle.edge_text.specs.Feeding.{State, begun, fed, fed_edges, ended, ended_edges, fault_of}
use Rattle.edge_text.proofs.FeedingLemmas.{fed-append, fed_edges-append}
use Rattle.edge_text.proofs.SofarLemmas.{HasReadSoFar, HasReadSoFar-stops, HasReadSoFar-stops_edges, HasReadSoFar-ends, HasReadSoFar-ends_edges}
use Rattle.store.specs.declared.edges.Next.{Next}
use Rattle.store.specs.declared.fault.IngestFault.{IngestFault}
use Rattle.store.specs.Ingesting.{HasFed, HasRead, IsNext, IsPassedOn}

pub text_of-append : (a b : List Edge) → text_of (a ++ b) ≡ text_of a ++ text_of b
text_of-append a b = flat_map-append line_of a b

-- what holds of the bytes so far holds of all that were left, where nothing is left now
all_given : (sofar : List ℕ) (now : Option (List ℕ)) → AtEnd now → (P : List ℕ → Type 0) → P sofar → IfSome (onto sofar now) P
all_given sofar None end P here = tt
all_given sofar (Some rest) end P here =
    subst P (sym (append-nil sofar) ∙ ap (λ (l : List ℕ). sofar ++ l) (sym end)) here

-- the same where it holds whatever is left now
pub each_given : (sofar : List ℕ) (now : Option (List ℕ)) (P : List ℕ → Type 0) → ((rest : List ℕ) → P (sofar ++ rest)) → IfSome (onto sofar now) P
each_given sofar None P here = tt
each_given sofar (Some rest) P here = here rest

-- a read that gave nothing
pub fed_still : (n : ℕ) (before mid now : Option (List ℕ)) (reader : State) (text piece : List ℕ) → HasFed n before mid reader text → mid ≡ onto piece now → piece ≡ [] → HasFed n before now reader text
fed_still n before mid now reader text piece has given none =
    subst (λ (left : Option (List ℕ)). HasFed n before left reader text) (given ∙ ap (λ (p : List ℕ). onto p now) none ∙ onto-nil now) has

-- before the first piece
pub fed_none : (n : ℕ) (before : Option (List ℕ)) (reader : State) → reader ≡ begun n → HasFed n before before reader []
fed_none n before reader is =
    record { sofar = []; given = sym (onto-nil before); stands = is; edges = refl; reads_on = ap fault_of is }

module _ (n : ℕ) (before mid now : Option (List ℕ)) (old new : State) (text piece given more : List ℕ) (has : HasFed n before mid old text) (gave : mid ≡ onto piece now) (is : given ≡ piece) (added : more ≡ text_of (fed_edges old given)) where
  all_sofar : before ≡ onto (has.sofar ++ piece) now
  all_sofar = has.given ∙ ap (onto has.sofar) gave ∙ onto-onto has.sofar piece now

  all_text : text ++ more ≡ text_of (fed_edges (begun n) (has.sofar ++ piece))
  all_text =
      ap (λ (l : List ℕ). l ++ more) has.edges ∙ ap (λ (l : List ℕ). text_of (fed_edges (begun n) has.sofar) ++ l) (added ∙ ap (λ (l : List ℕ). text_of (fed_edges old l)) is ∙ ap (λ (s : State). text_of (fed_edges s piece)) has.stands) ∙ sym (text_of-append (fed_edges (begun n) has.sofar) (fed_edges (fed (begun n) has.sofar) piece)) ∙ ap text_of (sym (fed_edges-append (begun n) has.sofar piece))

  all_fed : new ≡ fed old given → new ≡ fed (begun n) (has.sofar ++ piece)
  all_fed state =
      state ∙ ap (fed old) is ∙ ap (λ (s : State). fed s piece) has.stands ∙ sym (fed-append (begun n) has.sofar piece)

  -- one piece more
  pub fed_more : new ≡ fed old given → fault_of new ≡ None → HasFed n before now new (text ++ more)
  fed_more state none =
      record { sofar = has.sofar ++ piece; given = all_sofar; stands = all_fed state; edges = all_text; reads_on = none }

  -- a piece that is refused
  pub fed_refused : (fault : EdgeFault) → new ≡ fed old given → fault_of new ≡ Some fault → HasRead n before (text ++ more) (Some fault)
  fed_refused fault state refused =
      let P : List ℕ → Type 0 = λ bytes. (text_of (edges_of n bytes).edges ≡ text ++ more) × ((edges_of n bytes).refusal ≡ Some fault) in
      let so_far : HasReadSoFar n (has.sofar ++ piece) new [] (fed_edges (begun n) (has.sofar ++ piece)) = record { stands = all_fed state; added = refl } in
      subst (λ (left : Option (List ℕ)). IfSome left P) (sym all_sofar) (each_given (has.sofar ++ piece) now P (λ rest. (
        ap text_of (sym (HasReadSoFar-stops_edges n (has.sofar ++ piece) rest new [] (fed_edges (begun n) (has.sofar ++ piece)) fault so_far refused)) ∙ sym all_text,
        HasReadSoFar-stops n (has.sofar ++ piece) rest new [] (fed_edges (begun n) (has.sofar ++ piece)) fault so_far refused,
      )))

-- the end
pub fed_ended : (n : ℕ) (before now : Option (List ℕ)) (reader last : State) (text more : List ℕ) (refusal : Option EdgeFault) → HasFed n before now reader text → AtEnd now → last ≡ ended reader → more ≡ text_of (ended_edges reader) → fault_of last ≡ refusal → HasRead n before (text ++ more) refusal
fed_ended n before now reader last text more refusal has end state added refused =
    let P : List ℕ → Type 0 = λ bytes. (text_of (edges_of n bytes).edges ≡ text ++ more) × ((edges_of n bytes).refusal ≡ refusal) in
    let edges : List Edge = fed_edges (begun n) has.sofar in
    let so_far : HasReadSoFar n has.sofar reader [] edges = record { stands = has.stands; added = refl } in
    let all : edges ++ ended_edges reader ≡ (edges_of n has.sofar).edges = HasReadSoFar-ends_edges n has.sofar reader last [] edges (edges ++ ended_edges reader) so_far refl in
    let here : P has.sofar = (
      ap text_of (sym all) ∙ text_of-append edges (ended_edges reader) ∙ ap (λ (l : List ℕ). l ++ text_of (ended_edges reader)) (sym has.edges) ∙ ap (λ (l : List ℕ). text ++ l) (sym added),
      sym (HasReadSoFar-ends n has.sofar reader last [] edges (edges ++ ended_edges reader) so_far state) ∙ refused,
    ) in
    subst (λ (left : Option (List ℕ)). IfSome left P) (sym has.given) (all_given has.sofar now end P here)

-- a refusal that is passed on
pub passed_on : (n : ℕ) (before now : Option (List ℕ)) (reader : State) (text : List ℕ) (fault : EdgeFault) (result : Result Next IngestFault) → IsPassedOn fault result → UnlessOutOfMemory fault (HasRead n before text (Some fault)) → IfOk result (IsNext n before now reader text)
passed_on n before now reader text (Text.BadEdge line) result is read =
    subst (λ (r : Result Next IngestFault). IfOk r (IsNext n before now reader text)) (sym is) read
passed_on n before now reader text (Text.BigNode line id) result is read =
    subst (λ (r : Result Next IngestFault). IfOk r (IsNext n before now reader text)) (sym is) read
passed_on n before now reader text Text.TooLarge result is read =
    subst (λ (r : Result Next IngestFault). IfOk r (IsNext n before now reader text)) (sym is) read
passed_on n before now reader text Text.NoMemory result is read =
    subst (λ (r : Result Next IngestFault). IfOk r (IsNext n before now reader text)) (sym is) tt
