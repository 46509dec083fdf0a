use Rattle.std.proofs.Common.{ap, ◌∙◌, sym, arith}
use Rattle.report.specs.Generated.{edges_from}
use Rattle.report.proofs.EdgeLemmas.{edges_drawn, edges_none}
use Rattle.report.proofs.edge_stream.EdgeStream.next.Goals as goal

pub returns-then-self-eq0 : goal.returns-then-self-eq0
returns-then-self-eq0 c =
    let s = c.self.inside in
    let none = sym c.self.view_is ∙ ap (edges_from s.words s.nodes 0) c.if-self-eq0.true ∙ edges_none s.words s.nodes 0 in
    (none, none)

pub returns : goal.returns
returns c =
    let s = c.self.inside in
    sym c.self.view_is ∙ edges_drawn s.words c.next_word.new.self c.next_word-2.new.self s.nodes s.left c.next_word.result c.next_word-2.result (omega arith) c.next_word.ensures c.next_word-2.ensures
