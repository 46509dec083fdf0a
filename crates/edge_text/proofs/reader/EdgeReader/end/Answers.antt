use Rattle.std.proofs.Common.{sym, ap, ◌∙◌}
use Rattle.edge_text.specs.declared.fault.EdgeFault.TheVariants.{NoMemory}
use Rattle.edge_text.specs.Feeding.{Refused, nodes_of}
use Rattle.edge_text.proofs.FeedingLemmas.{nodes_of-state_of}
use Rattle.edge_text.proofs.reader.EdgeReader.end.Goals as goal

pub returns-in-Err-clause-no_memory : goal.returns-in-Err-clause-no_memory
returns-in-Err-clause-no_memory c =
    rw (c.refuse.ensures.answer, c.refuse.ensures.stands) (ap (λ n. Refused n NoMemory) (sym (nodes_of-state_of c.self.inside.refusal c.self.inside.unfinished) ∙ ap nodes_of c.self.view_is ∙ c.end_edges.ensures.nodes))
