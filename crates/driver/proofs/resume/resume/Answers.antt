use Rattle.std.proofs.Common.{◌≡◌, ◌∙◌, ◌^◌, ◌<◌, arith, subst}
use Rattle.dir_disk.specs.Moments.{EachImage, Through, Told, files}
use Rattle.dir_disk.specs.Streams.{added}
use Rattle.mining.specs.declared.place.Place.TheVariants.{Vector}
use Rattle.mining.specs.Flow.{Mining, mining_of}
use Rattle.mining.specs.Kept.{AllKept, Kept}
use Rattle.mining.specs.Between.{IsSure}
use Rattle.mining.proofs.AckLemmas.{acks_through}
use Rattle.report.specs.Lines.{resumed_text}
use Rattle.driver.proofs.TakenUp.{ok_always}
use Rattle.std.proofs.Common.{sym}
use Rattle.mining.specs.Stored.{IsNotAsMade}
use Rattle.driver.proofs.Stored.{exits_none}
use Rattle.driver.proofs.resume.resume.Goals as goal

pub returns-clause-kept : goal.returns-clause-kept
returns-clause-kept g c =
    λ edges tells kept sure.
    let mining : Mining = mining_of g.S.Site.gives c.args.conf.now edges in
    subst (λ (t : Told). AllKept mining (files t) → IsSure (Vector c.args.k) (files t) → Through (EachImage (Kept mining)) t (g.S.Dir.told c.take_up_any.new.site)) (c.say_resumed.ensures.told tells) (c.take_up_any.ensures.kept edges tells) kept sure

pub returns-in_err-say_resumed-clause-acked : goal.returns-in_err-say_resumed-clause-acked
returns-in_err-say_resumed-clause-acked g c =
    λ entry had tells sure fresh acks.
    let few : c.args.k < 10 ^ 10 = (let most = c.requires.few in omega (arith, most)) in
    c.say_resumed.ensures.acked entry had tells few sure fresh acks

pub returns-clause-acked : goal.returns-clause-acked
returns-clause-acked g c =
    λ entry had tells sure fresh acks.
    let few : c.args.k < 10 ^ 10 = (let most = c.requires.few in omega (arith, most)) in
    acks_through had entry (g.S.Dir.told c.say_resumed.new.site) (g.S.Dir.told c.take_up_any.new.site) (g.S.Console.says c.say_resumed.new.site) (g.S.Console.says c.take_up_any.new.site) c.take_up_any.ensures.says (c.take_up_any.ensures.stays tells) (c.say_resumed.ensures.acked entry had tells few sure fresh acks)

pub returns-clause-ok : goal.returns-clause-ok
returns-clause-ok g c =
    ok_always (g.S.Console.said c.take_up_any.new.site ≡ added (g.S.Console.said c.args.site.now) (resumed_text c.args.k)) c.take_up_any.result (c.take_up_any.ensures.said ∙ c.in_ok-say_resumed.ensures.ok)

pub returns-in_err-say_resumed-clause-stored : goal.returns-in_err-say_resumed-clause-stored
returns-in_err-say_resumed-clause-stored g c =
    λ tells sure. exits_none (IsNotAsMade c.args.conf.now (files (g.S.Dir.told c.say_resumed.new.site))) c.from_residual.result c.in_err-say_resumed.field-0.0 c.from_residual.ensures.1 c.in_err-say_resumed.ensures.no_store

pub returns-clause-stored : goal.returns-clause-stored
returns-clause-stored g c =
    λ tells sure. c.take_up_any.ensures.stored tells (subst (λ (t : Told). IsSure (Vector c.args.k) (files t)) (sym (c.say_resumed.ensures.told tells)) sure)

pub returns-clause-read : goal.returns-clause-read
returns-clause-read g c =
    λ tells sure. c.take_up_any.ensures.read tells (subst (λ (t : Told). IsSure (Vector c.args.k) (files t)) (sym (c.say_resumed.ensures.told tells)) sure)
