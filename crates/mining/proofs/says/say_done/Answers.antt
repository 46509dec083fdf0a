use Rattle.std.proofs.Common.{◌∙◌}
use Rattle.std.specs.Prelude.{◌==◌}
use Rattle.mining.proofs.AckLemmas.{done_acks}
use Rattle.mining.proofs.says.say_done.Goals as goal

pub returns-in_err-say-clause-told : goal.returns-in_err-say-clause-told
returns-in_err-say-clause-told g c =
    λ tells. ((g.met.S.Site.beside_console c.say.new.self c.args.site.now c.say.ensures.beside).1 tells).1

pub returns-clause-told : goal.returns-clause-told
returns-clause-told g c =
    λ tells. ((g.met.S.Site.beside_console c.say.new.self c.args.site.now c.say.ensures.beside).1 tells).1

pub returns-in_err-say-clause-acked : goal.returns-in_err-say-clause-acked
returns-in_err-say-clause-acked g c =
    λ entry had tells fresh acks.
    done_acks had entry (g.S.Dir.told c.args.site.now) (g.S.Dir.told c.say.new.self) (g.S.Console.says c.args.site.now) (g.S.Console.says c.say.new.self) c.deref.result.now (g.S.Console.moment c.args.site.now) c.args.conf.now c.args.last.k (c.args.last.changed == 0) c.args.total c.say.result ((g.met.S.Site.beside_console c.say.new.self c.args.site.now c.say.ensures.beside).1 tells).1 c.say.ensures.says (c.deref.ensures.value ∙ c.in_ok-line.ensures) (g.met.S.Site.say_moment c.args.site.now tells) fresh acks

pub returns-clause-acked : goal.returns-clause-acked
returns-clause-acked g c =
    λ entry had tells fresh acks.
    done_acks had entry (g.S.Dir.told c.args.site.now) (g.S.Dir.told c.say.new.self) (g.S.Console.says c.args.site.now) (g.S.Console.says c.say.new.self) c.deref.result.now (g.S.Console.moment c.args.site.now) c.args.conf.now c.args.last.k (c.args.last.changed == 0) c.args.total c.say.result ((g.met.S.Site.beside_console c.say.new.self c.args.site.now c.say.ensures.beside).1 tells).1 c.say.ensures.says (c.deref.ensures.value ∙ c.in_ok-line.ensures) (g.met.S.Site.say_moment c.args.site.now tells) fresh acks

pub returns-in_err-say-clause-faults : goal.returns-in_err-say-clause-faults
returns-in_err-say-clause-faults g c = (g.met.S.Site.beside_console c.say.new.self c.args.site.now c.say.ensures.beside).3

pub returns-clause-faults : goal.returns-clause-faults
returns-clause-faults g c = (g.met.S.Site.beside_console c.say.new.self c.args.site.now c.say.ensures.beside).3

pub returns-in_err-say-clause-given : goal.returns-in_err-say-clause-given
returns-in_err-say-clause-given g c =
    λ tells. ((g.met.S.Site.beside_console c.say.new.self c.args.site.now c.say.ensures.beside).1 tells).0

pub returns-clause-given : goal.returns-clause-given
returns-clause-given g c =
    λ tells. ((g.met.S.Site.beside_console c.say.new.self c.args.site.now c.say.ensures.beside).1 tells).0
