use Rattle.std.proofs.Common.{refl}
use Rattle.child.proofs.FeedingLemmas.{Feeds-held}
use Rattle.child.proofs.feeding.Feeding.hold.Goals as goal

pub returns-in-Ok-clause-ok : goal.returns-in-Ok-clause-ok
returns-in-Ok-clause-ok g c = λ out.
    Feeds-held _ _ c.args.bytes.now out c.requires.unbroken refl c.in-Ok.ensures.items refl refl
