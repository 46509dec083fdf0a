use Rattle.edge_text.proofs.PlainLemmas.{HasVerdict-plain}
use Rattle.edge_text.proofs.records.judge_next.Goals as goal

pub returns-in-Some : goal.returns-in-Some
returns-in-Some c =
    rw c.judge_pair.ensures (HasVerdict-plain c.args.nodes c.args.bytes.now c.args.start c.in-Some.plain.source c.in-Some.plain.target c.in-Some.plain.next c.in-Some.ensures)
