-- The reader was fed the whole list, and then told the end, unless it refused before.
use Rattle.edge_text.specs.Answers.{fault_in}
use Rattle.edge_text.proofs.AnswerLemmas.{unless_weaker}
use Rattle.peg_text.proofs.ListLemmas.{GoesOnFrom-then}
use Rattle.child.proofs.EdgesLemmas.{goes_on, on_ok, refusal_is, refused_early, text_is, where_memory}
use Rattle.child.proofs.edges.read_list.Goals as goal

pub returns-in-Ok-clause-ok : goal.returns-in-Ok-clause-ok
returns-in-Ok-clause-ok c =
    on_ok c.end.result (text_is _ _ _ _ c.new-reader.ensures c.in-Ok.ensures.state _ _ _ c.in-Ok.ensures.text) c.end.ensures.text

pub returns-in-Ok-clause-answer : goal.returns-in-Ok-clause-answer
returns-in-Ok-clause-answer c =
    let at_end = refusal_is c.args.nodes c.args.list.now c.new-reader.result c.feed.new.self c.new-reader.ensures c.in-Ok.ensures.state c.end.new.self (fault_in c.end.result) in
    where_memory c.end.result (λ ends. at_end ends c.end.ensures.answer) c.end.ensures.state

pub returns-in-Ok-clause-kept : goal.returns-in-Ok-clause-kept
returns-in-Ok-clause-kept c =
    GoesOnFrom-then _ _ _ (record { more = _; is = c.in-Ok.ensures.text }) (goes_on c.end.result _ _ _ c.end.ensures.text c.end.ensures.no_memory_text)

pub returns-clause-answer : goal.returns-clause-answer
returns-clause-answer c =
    unless_weaker c.in-Err.fault (refused_early c.args.nodes c.args.list.now c.new-reader.result c.feed.new.self c.in-Err.fault c.new-reader.ensures c.in-Err.ensures.answer) c.in-Err.ensures.state
