use Rattle.std.proofs.Common.{subst}
use Rattle.dir_disk.specs.Moments.{Told, EachImage, Through, files}
use Rattle.mining.specs.Kept.{AllKept, Kept}
use Rattle.mining.specs.Iterations.{IsNext}
use Rattle.mining.proofs.AckLemmas.{acks_through}
use Rattle.mining.proofs.iterate.announce.Goals as goal

pub returns-clause-kept : goal.returns-clause-kept
returns-clause-kept g c =
    λ mining tells.
    subst (λ (t : Told). AllKept mining (files t) → IsNext mining c.args.k (files t) → Through (EachImage (Kept mining)) t (g.S.Dir.told c.drop_messages.new.site)) (c.say_iteration.ensures.told tells) (c.drop_messages.ensures.kept mining tells)

pub returns-clause-acked : goal.returns-clause-acked
returns-clause-acked g c =
    λ entry had tells acks.
    acks_through had entry (g.S.Dir.told c.say_iteration.new.site) (g.S.Dir.told c.drop_messages.new.site) (g.S.Console.says c.say_iteration.new.site) (g.S.Console.says c.drop_messages.new.site) c.drop_messages.ensures.says (c.drop_messages.ensures.stays tells) (c.say_iteration.ensures.acked entry had tells c.requires.few (c.requires.sure tells) (c.requires.fresh tells) acks)
