use Rattle.std.proofs.Common.{◌≡◌, ◌++◌, sym, ap, ◌∙◌, subst}
use Rattle.std.proofs.lemmas.List.{append-nil}
use Rattle.edge_text.specs.Feeding.{fed, fed_edges, Refused}
use Rattle.edge_text.specs.Unfinished.{IsReady, reads, state_of}
use Rattle.edge_text.proofs.AnswerLemmas.{unless_from}
use Rattle.edge_text.proofs.FeedingLemmas.{fed-refused, fed_edges-refused, IsReady-fed}
use Rattle.edge_text.proofs.reader.EdgeReader.feed_edges.Goals as goal
use Rattle.edge_text.proofs.reader.EdgeReader.feed_edges.Goals.{In-Some}

-- the reader stands at a refusal
stands : (c : In-Some) → Refused c.self.inside.unfinished.nodes c.in-Some.fault ≡ c.args.self.now
stands c = ap (λ refusal. state_of refusal c.self.inside.unfinished) (sym c.in-Some.is) ∙ c.self.view_is

pub returns-in-Some-clause-state : goal.returns-in-Some-clause-state
returns-in-Some-clause-state c =
    let at = stands (goal.at.returns-in-Some-clause-state c).In-Some in
    unless_from c.in-Some.fault (sym at ∙ sym (fed-refused c.self.inside.unfinished.nodes c.in-Some.fault c.args.piece.now) ∙ ap (λ s. fed s c.args.piece.now) at)

pub returns-in-Some-clause-edges : goal.returns-in-Some-clause-edges
returns-in-Some-clause-edges c =
    let at = stands (goal.at.returns-in-Some-clause-edges c).In-Some in
    let none = sym (ap (λ s. fed_edges s c.args.piece.now) at) ∙ fed_edges-refused c.self.inside.unfinished.nodes c.in-Some.fault c.args.piece.now in
    unless_from c.in-Some.fault (sym (ap (λ es. c.args.edges.now.items ++ es) none ∙ append-nil c.args.edges.now.items))

pub invariant_of-self : goal.invariant_of-self
invariant_of-self c =
    let none = c.in_default.is in
    let before : IsReady (reads c.self.inside.unfinished) = subst (λ refusal. IsReady (state_of refusal c.self.inside.unfinished)) none c.self.invariant in
    subst (λ refusal. IsReady (state_of refusal c.take.new.self)) (sym none) (subst IsReady (sym c.in-Ok.ensures.takes.ok) (IsReady-fed (reads c.self.inside.unfinished) c.args.piece.now before))
