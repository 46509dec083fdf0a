use Rattle.std.proofs.Common.{◌∙◌, ◌++◌, ℕ, List, Some, None, ap}
use Rattle.edge_text.specs.Answers.{UnlessOutOfMemory}
use Rattle.edge_text.specs.Edges.{text_of}
use Rattle.edge_text.specs.Feeding.{ended_edges}
use Rattle.edge_text.proofs.AnswerLemmas.{unless_both}
use Rattle.store.specs.Ingesting.{HasRead}
use Rattle.store.proofs.IngestLemmas.{fed_ended, passed_on}
use Rattle.store.proofs.edges.last_text.Goals as goal

pub returns-in-Ok-clause-next : goal.returns-in-Ok-clause-next
returns-in-Ok-clause-next c =
    λ n before now sofar has end.
    let added = c.in-Ok.ensures.text ∙ ap (λ (l : List ℕ). l ++ text_of (ended_edges c.args.reader.now)) c.requires.empty in
    fed_ended n before now c.args.reader.now c.end.new.self sofar c.end.new.text.items None has end c.in-Ok.ensures.state added c.in-Ok.ensures.answer

pub returns-in-Err-clause-next : goal.returns-in-Err-clause-next
returns-in-Err-clause-next c =
    λ n before now sofar has end.
    let fault = c.in-Err.fault in
    let read : UnlessOutOfMemory fault (HasRead n before (sofar ++ c.end.new.text.items) (Some fault)) = unless_both fault (λ state text. fed_ended n before now c.args.reader.now c.end.new.self sofar c.end.new.text.items (Some fault) has end state (text ∙ ap (λ (l : List ℕ). l ++ text_of (ended_edges c.args.reader.now)) c.requires.empty) c.in-Err.ensures.answer) c.in-Err.ensures.state c.in-Err.ensures.text in
    passed_on n before now c.end.new.self (sofar ++ c.end.new.text.items) fault c.refused.result c.refused.ensures.passed read
