use Rattle.std.proofs.Common.{◌+◌, ◌∙◌, sym, ap}
use Rattle.store.proofs.TotalLemmas.{counted_more}
use Rattle.store.proofs.changes.ChangesTally.add.Goals as goal

pub returns-clause-added : goal.returns-clause-added
returns-clause-added c =
    λ before so_far.
    let next = counted_more before (record { part = c.args.part; line = c.args.line; text = c.args.text.now }) c.in-Some.change c.args.self.now.count c.in-Some-checked_add.count c.args.self.now.first (sym c.in-Some.ensures) so_far (c.in-Some-checked_add.ensures.1 ∙ ap (λ n. c.args.self.now.count + n) c.from.ensures) in
    (next.0, c.first_of-self.ensures ∙ next.1)
