use Rattle.std.proofs.Common.{◌≡◌, ◌∙◌, ◌++◌, ◌<◌, ℕ, List, [], Some, length, ap, arith}
use Rattle.std.proofs.lemmas.Grind.{common_steps}
use Rattle.std.proofs.lemmas.Bool.Decides.{nat_tests}
use Rattle.edge_text.specs.Answers.{UnlessOutOfMemory}
use Rattle.edge_text.specs.Edges.{text_of}
use Rattle.edge_text.specs.Feeding.{fed_edges}
use Rattle.edge_text.proofs.AnswerLemmas.{unless_both}
use Rattle.edge_text.proofs.RoomLemmas.{nearer}
use Rattle.store.specs.Ingesting.{HasRead}
use Rattle.store.proofs.IngestLemmas.{fed_still, fed_more, fed_refused, passed_on}
use Rattle.store.proofs.edges.next_text.Goals as goal

pub returns-then-is_empty-clause-next : goal.returns-then-is_empty-clause-next
returns-then-is_empty-clause-next g c =
    λ n before sofar has.
    let none : c.in-Ok.piece.items ≡ [] = grind (arith, common_steps, nat_tests, c.is_empty.ensures, c.if-is_empty.true) in
    c.last_text.ensures.next n before (g.E.Source.left c.read.new.self) sofar (fed_still n before (g.E.Source.left c.args.source.now) (g.E.Source.left c.read.new.self) c.args.reader.now sofar c.in-Ok.piece.items has c.in-Ok.ensures.next none) (c.in-Ok.ensures.end none)

pub returns-in-Ok-feed-clause-next : goal.returns-in-Ok-feed-clause-next
returns-in-Ok-feed-clause-next g c =
    λ n before sofar has.
    let added = c.in-Ok-feed.ensures.text ∙ ap (λ (l : List ℕ). l ++ text_of (fed_edges c.args.reader.now c.deref.result.now)) c.clear-2.ensures.items in
    fed_more n before (g.E.Source.left c.args.source.now) (g.E.Source.left c.read.new.self) c.args.reader.now c.feed.new.self sofar c.in-Ok.piece.items c.deref.result.now c.feed.new.text.items has c.in-Ok.ensures.next c.deref.ensures.value added c.in-Ok-feed.ensures.state c.in-Ok-feed.ensures.answer

pub returns-in-Ok-feed-clause-nearer : goal.returns-in-Ok-feed-clause-nearer
returns-in-Ok-feed-clause-nearer g c =
    λ more.
    let some : 0 < length c.deref.result.now = grind (arith, nat_tests) in
    nearer _ _ _ some c.in-Ok-feed.ensures.state c.in-Ok-feed.ensures.answer

pub returns-clause-next : goal.returns-clause-next
returns-clause-next g c =
    λ n before sofar has.
    let fault = c.in-Err-feed.fault in
    let read : UnlessOutOfMemory fault (HasRead n before (sofar ++ c.feed.new.text.items) (Some fault)) = unless_both fault (λ state text. fed_refused n before (g.E.Source.left c.args.source.now) (g.E.Source.left c.read.new.self) c.args.reader.now c.feed.new.self sofar c.in-Ok.piece.items c.deref.result.now c.feed.new.text.items has c.in-Ok.ensures.next c.deref.ensures.value (text ∙ ap (λ (l : List ℕ). l ++ text_of (fed_edges c.args.reader.now c.deref.result.now)) c.clear-2.ensures.items) fault state c.in-Err-feed.ensures.answer) c.in-Err-feed.ensures.state c.in-Err-feed.ensures.text in
    passed_on n before (g.E.Source.left c.read.new.self) c.feed.new.self (sofar ++ c.feed.new.text.items) fault c.refused.result c.refused.ensures.passed read
