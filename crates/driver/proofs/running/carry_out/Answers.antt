use Rattle.driver.proofs.Logging.{none_logs}
use Rattle.conf.specs.declared.commands.Command.TheVariants.{Plain}
use Rattle.driver.specs.Logged.{LogsRun}
use Rattle.driver.specs.declared.outcome.Outcome.TheVariants.{Usage}
use Rattle.mining.proofs.Failures.{quiet_done}
use Rattle.std.proofs.Common.{refl}
use Rattle.std.proofs.Common.{◌≡◌, ◌∙◌, ℕ, true, List, map, None, Some, sym, subst}
use Rattle.std.proofs.lemmas.Bool.{false≢true}
use Rattle.std.specs.String.{string_bytes}
use Rattle.conf.specs.Commands.{is_mining}
use Rattle.conf.specs.declared.reading.Conf.{Conf as Settings}
use Rattle.driver.proofs.Starting.{acks_begun}
use Rattle.driver.proofs.RunLemmas.{DoneFor, KeptFor, SaidFor, meant_for, mean_one}
use Rattle.driver.proofs.Causes.{OpenedFor}
use Rattle.dir_disk.specs.Moments.{files}
use Rattle.mining.specs.Stored.{IsNotAsMade}
use Rattle.std.proofs.Common.{rules}
use Rattle.conf.specs.declared.commands.Form.TheVariants.{Base}
use Rattle.mining.specs.Flow.{most_of}
use Rattle.mining.specs.Read.{HasRead}
use Rattle.driver.specs.Opening.{IsFromAny, first_read}
use Rattle.driver.specs.declared.outcome.Outcome.TheVariants.{Done}
use Rattle.driver.proofs.running.carry_out.Goals as goal

pub returns-in-Err-clause-opened : goal.returns-in-Err-clause-opened
returns-in-Err-clause-opened g c =
    λ conf mean mines form. absurd (false≢true (sym (mean.accepted c.in-Err.usage.word) ∙ c.in-Err.ensures.refused.refused))

pub returns-in-Some-clause-opened : goal.returns-in-Some-clause-opened
returns-in-Some-clause-opened g c =
    λ conf mean mines form. meant_for (OpenedFor g.S.Dir.tells (g.S.Dir.told c.args.site.now) c.run_over.result) (map string_bytes c.args.words.now) (g.E.Source.left c.args.edges.now) (Some (c.in-Some.count, c.in-Some.seed)) c.in-Ok.conf conf c.in-Ok.ensures.accepted mean c.in-Some.is (subst (λ (text : List ℕ). (OpenedFor g.S.Dir.tells (g.S.Dir.told c.args.site.now) c.run_over.result) c.in-Ok.conf (Some text)) c.new-source.ensures c.run_over.ensures.opened) mines

pub returns-in-None-clause-opened : goal.returns-in-None-clause-opened
returns-in-None-clause-opened g c =
    λ conf mean mines form. meant_for (OpenedFor g.S.Dir.tells (g.S.Dir.told c.args.site.now) c.run_over-in-None.result) (map string_bytes c.args.words.now) (g.E.Source.left c.args.edges.now) None c.in-Ok.conf conf c.in-Ok.ensures.accepted mean c.in-None.is c.run_over-in-None.ensures.opened mines

pub new-source-requires : goal.new-source-requires
new-source-requires g c =
    (c.meanings_are_within_limits.ensures _ _ c.in-Ok.ensures.accepted).nodes.0

pub run_over-requires-clause-limits : goal.run_over-requires-clause-limits
run_over-requires-clause-limits g c =
    c.meanings_are_within_limits.ensures _ _ c.in-Ok.ensures.accepted

pub run_over-requires-in-None-clause-limits : goal.run_over-requires-in-None-clause-limits
run_over-requires-in-None-clause-limits g c =
    c.meanings_are_within_limits.ensures _ _ c.in-Ok.ensures.accepted

pub returns-in-Some-clause-kept : goal.returns-in-Some-clause-kept
returns-in-Some-clause-kept g c =
    λ conf mean. meant_for (KeptFor g.S.Site.gives g.S.Dir.tells (g.S.Dir.told c.args.site.now) (g.S.Dir.told c.run_over.new.site)) (map string_bytes c.args.words.now) (g.E.Source.left c.args.edges.now) (Some (c.in-Some.count, c.in-Some.seed)) c.in-Ok.conf conf c.in-Ok.ensures.accepted mean c.in-Some.is (subst (λ (text : List ℕ). KeptFor g.S.Site.gives g.S.Dir.tells (g.S.Dir.told c.args.site.now) (g.S.Dir.told c.run_over.new.site) c.in-Ok.conf (Some text)) c.new-source.ensures c.run_over.ensures.kept)

pub returns-in-None-clause-kept : goal.returns-in-None-clause-kept
returns-in-None-clause-kept g c =
    λ conf mean. meant_for (KeptFor g.S.Site.gives g.S.Dir.tells (g.S.Dir.told c.args.site.now) (g.S.Dir.told c.run_over-in-None.new.site)) (map string_bytes c.args.words.now) (g.E.Source.left c.args.edges.now) None c.in-Ok.conf conf c.in-Ok.ensures.accepted mean c.in-None.is c.run_over-in-None.ensures.kept

pub returns-in-Some-clause-said : goal.returns-in-Some-clause-said
returns-in-Some-clause-said g c =
    λ conf mean. meant_for (SaidFor g.S.Site.gives g.S.Dir.tells (g.S.Dir.told c.args.site.now) (g.S.Console.said c.args.site.now) (g.S.Console.said c.run_over.new.site)) (map string_bytes c.args.words.now) (g.E.Source.left c.args.edges.now) (Some (c.in-Some.count, c.in-Some.seed)) c.in-Ok.conf conf c.in-Ok.ensures.accepted mean c.in-Some.is (subst (λ (text : List ℕ). SaidFor g.S.Site.gives g.S.Dir.tells (g.S.Dir.told c.args.site.now) (g.S.Console.said c.args.site.now) (g.S.Console.said c.run_over.new.site) c.in-Ok.conf (Some text)) c.new-source.ensures c.run_over.ensures.part)

pub returns-in-None-clause-said : goal.returns-in-None-clause-said
returns-in-None-clause-said g c =
    λ conf mean. meant_for (SaidFor g.S.Site.gives g.S.Dir.tells (g.S.Dir.told c.args.site.now) (g.S.Console.said c.args.site.now) (g.S.Console.said c.run_over-in-None.new.site)) (map string_bytes c.args.words.now) (g.E.Source.left c.args.edges.now) None c.in-Ok.conf conf c.in-Ok.ensures.accepted mean c.in-None.is c.run_over-in-None.ensures.part

pub returns-in-Some-clause-done : goal.returns-in-Some-clause-done
returns-in-Some-clause-done g c =
    λ conf mean. meant_for (DoneFor g.S.Site.gives g.S.Dir.tells (g.S.Dir.told c.args.site.now) (g.S.Dir.told c.run_over.new.site) (g.S.Console.said c.args.site.now) (g.S.Console.said c.run_over.new.site) c.run_over.result) (map string_bytes c.args.words.now) (g.E.Source.left c.args.edges.now) (Some (c.in-Some.count, c.in-Some.seed)) c.in-Ok.conf conf c.in-Ok.ensures.accepted mean c.in-Some.is (subst (λ (text : List ℕ). DoneFor g.S.Site.gives g.S.Dir.tells (g.S.Dir.told c.args.site.now) (g.S.Dir.told c.run_over.new.site) (g.S.Console.said c.args.site.now) (g.S.Console.said c.run_over.new.site) c.run_over.result c.in-Ok.conf (Some text)) c.new-source.ensures c.run_over.ensures.done)

pub returns-in-None-clause-done : goal.returns-in-None-clause-done
returns-in-None-clause-done g c =
    λ conf mean. meant_for (DoneFor g.S.Site.gives g.S.Dir.tells (g.S.Dir.told c.args.site.now) (g.S.Dir.told c.run_over-in-None.new.site) (g.S.Console.said c.args.site.now) (g.S.Console.said c.run_over-in-None.new.site) c.run_over-in-None.result) (map string_bytes c.args.words.now) (g.E.Source.left c.args.edges.now) None c.in-Ok.conf conf c.in-Ok.ensures.accepted mean c.in-None.is c.run_over-in-None.ensures.done

pub returns-then-ne-clause-acked : goal.returns-then-ne-clause-acked
returns-then-ne-clause-acked g c =
    λ conf had mean mines tells is. acks_begun had (g.S.Dir.told c.args.site.now) (g.S.Dir.told c.args.site.now) (g.S.Console.says c.args.site.now) is

pub returns-in-Some-clause-usage : goal.returns-in-Some-clause-usage
returns-in-Some-clause-usage g c =
    λ word least. absurd (false≢true (sym (c.in-Ok.ensures.accepted.accepted word) ∙ least.refused))

pub returns-in-Some-clause-untouched : goal.returns-in-Some-clause-untouched
returns-in-Some-clause-untouched g c =
    λ word is. absurd (c.run_over.ensures.no_usage word is)

pub returns-in-Some-clause-refused : goal.returns-in-Some-clause-refused
returns-in-Some-clause-refused g c =
    λ word is. absurd (c.run_over.ensures.no_usage word is)

pub returns-in-Some-clause-acked : goal.returns-in-Some-clause-acked
returns-in-Some-clause-acked g c =
    λ conf had mean mines tells is. c.run_over.ensures.acked (subst (λ (read : Settings). is_mining read.command ≡ true) (mean_one (map string_bytes c.args.words.now) conf c.in-Ok.conf mean c.in-Ok.ensures.accepted) mines) had tells is

pub returns-in-None-clause-refused : goal.returns-in-None-clause-refused
returns-in-None-clause-refused g c =
    λ word is. absurd (c.run_over-in-None.ensures.no_usage word is)

pub returns-in-None-clause-acked : goal.returns-in-None-clause-acked
returns-in-None-clause-acked g c =
    λ conf had mean mines tells is. c.run_over-in-None.ensures.acked (subst (λ (read : Settings). is_mining read.command ≡ true) (mean_one (map string_bytes c.args.words.now) conf c.in-Ok.conf mean c.in-Ok.ensures.accepted) mines) had tells is

pub returns-in-Err-clause-log : goal.returns-in-Err-clause-log
returns-in-Err-clause-log g c =
    λ conf mean k after. none_logs g.S.Dir.tells g.S.Site.gives conf k (g.S.Site.seen c.args.site.now) (g.S.Site.seen c.args.site.now) (g.S.Site.given c.args.site.now) (g.S.Site.given c.args.site.now) (g.S.Dir.told c.args.site.now) (Usage c.in-Err.usage.word) refl (λ tells. refl)

pub returns-in-Err-clause-answers : goal.returns-in-Err-clause-answers
returns-in-Err-clause-answers g c =
    quiet_done (g.S.Site.seen c.args.site.now) (g.S.Site.seen c.args.site.now) refl

pub returns-then-ne-clause-log : goal.returns-then-ne-clause-log
returns-then-ne-clause-log g c =
    λ conf mean k after. none_logs g.S.Dir.tells g.S.Site.gives conf k (g.S.Site.seen c.args.site.now) (g.S.Site.seen c.args.site.now) (g.S.Site.given c.args.site.now) (g.S.Site.given c.args.site.now) (g.S.Dir.told c.args.site.now) (Usage c.form_word.result) refl (λ tells. refl)

pub returns-then-ne-clause-answers : goal.returns-then-ne-clause-answers
returns-then-ne-clause-answers g c =
    quiet_done (g.S.Site.seen c.args.site.now) (g.S.Site.seen c.args.site.now) refl

pub returns-in-Some-clause-log : goal.returns-in-Some-clause-log
returns-in-Some-clause-log g c =
    λ conf mean. subst (λ (read : Settings). LogsRun g.S.Dir.tells g.S.Site.gives read (g.S.Dir.told c.args.site.now) (g.S.Dir.told c.run_over.new.site) (g.S.Site.seen c.args.site.now) (g.S.Site.seen c.run_over.new.site) (g.S.Site.given c.args.site.now) (g.S.Site.given c.run_over.new.site) c.run_over.result) (mean_one (map string_bytes c.args.words.now) c.in-Ok.conf conf c.in-Ok.ensures.accepted mean) c.run_over.ensures.log

pub returns-in-Some-clause-idle : goal.returns-in-Some-clause-idle
returns-in-Some-clause-idle g c =
    λ conf mean plain. c.run_over.ensures.idle (subst (λ (read : Settings). read.command ≡ Plain) (mean_one (map string_bytes c.args.words.now) conf c.in-Ok.conf mean c.in-Ok.ensures.accepted) plain)

pub returns-in-None-clause-log : goal.returns-in-None-clause-log
returns-in-None-clause-log g c =
    λ conf mean. subst (λ (read : Settings). LogsRun g.S.Dir.tells g.S.Site.gives read (g.S.Dir.told c.args.site.now) (g.S.Dir.told c.run_over-in-None.new.site) (g.S.Site.seen c.args.site.now) (g.S.Site.seen c.run_over-in-None.new.site) (g.S.Site.given c.args.site.now) (g.S.Site.given c.run_over-in-None.new.site) c.run_over-in-None.result) (mean_one (map string_bytes c.args.words.now) c.in-Ok.conf conf c.in-Ok.ensures.accepted mean) c.run_over-in-None.ensures.log

pub returns-in-None-clause-idle : goal.returns-in-None-clause-idle
returns-in-None-clause-idle g c =
    λ conf mean plain. c.run_over-in-None.ensures.idle (subst (λ (read : Settings). read.command ≡ Plain) (mean_one (map string_bytes c.args.words.now) conf c.in-Ok.conf mean c.in-Ok.ensures.accepted) plain)

pub returns-in-Some-clause-stored : goal.returns-in-Some-clause-stored
returns-in-Some-clause-stored g c =
    λ conf path line mean tells is.
    let form : c.in-Ok.conf.form ≡ Base = search rules in
    subst (λ (read : Settings). IsNotAsMade read (files (g.S.Dir.told c.run_over.new.site)) path line) (mean_one (map string_bytes c.args.words.now) c.in-Ok.conf conf c.in-Ok.ensures.accepted mean) (c.run_over.ensures.stored path line tells form is)

pub returns-in-None-clause-stored : goal.returns-in-None-clause-stored
returns-in-None-clause-stored g c =
    λ conf path line mean tells is.
    let form : c.in-Ok.conf.form ≡ Base = search rules in
    subst (λ (read : Settings). IsNotAsMade read (files (g.S.Dir.told c.run_over-in-None.new.site)) path line) (mean_one (map string_bytes c.args.words.now) c.in-Ok.conf conf c.in-Ok.ensures.accepted mean) (c.run_over-in-None.ensures.stored path line tells form is)

pub returns-in-Some-clause-good : goal.returns-in-Some-clause-good
returns-in-Some-clause-good g c =
    λ conf k mean. subst (λ (read : Settings). is_mining read.command ≡ true → g.S.Dir.tells → IsFromAny (most_of read read.command) (files (g.S.Dir.told c.args.site.now)) k → c.run_over.result ≡ Done → HasRead read (first_read read.command k) (g.S.Console.said c.run_over.new.site) (files (g.S.Dir.told c.run_over.new.site))) (mean_one (map string_bytes c.args.words.now) c.in-Ok.conf conf c.in-Ok.ensures.accepted mean) (λ mines tells from is. c.run_over.ensures.good mines k tells from is)

pub returns-in-None-clause-good : goal.returns-in-None-clause-good
returns-in-None-clause-good g c =
    λ conf k mean. subst (λ (read : Settings). is_mining read.command ≡ true → g.S.Dir.tells → IsFromAny (most_of read read.command) (files (g.S.Dir.told c.args.site.now)) k → c.run_over-in-None.result ≡ Done → HasRead read (first_read read.command k) (g.S.Console.said c.run_over-in-None.new.site) (files (g.S.Dir.told c.run_over-in-None.new.site))) (mean_one (map string_bytes c.args.words.now) c.in-Ok.conf conf c.in-Ok.ensures.accepted mean) (λ mines tells from is. c.run_over-in-None.ensures.good mines k tells from is)
