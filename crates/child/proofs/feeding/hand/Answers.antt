use Rattle.child.proofs.HandingLemmas.{Hands-by}
use Rattle.child.proofs.feeding.hand.Goals as goal

pub returns-in-Ok-clause-ok : goal.returns-in-Ok-clause-ok
returns-in-Ok-clause-ok g c =
    let a = c.in-Ok.ensures in
    Hands-by (g.R.Role.standing c.args.role.now) (g.R.Role.standing c.line.new.self) c.args.text.now c.args.out.now.items c.line.new.out.items a.ok a.good a.prompt a.key a.rule
