use Rattle.driver.proofs.Logging.{base_refused, base_then, err_not_done, first_sure, logs_after, none_logs, quiet_answer, there_again}
use Rattle.mining.proofs.Failures.{answer_err, answer_then, begun_answer, begun_stop}
use Rattle.mining.proofs.JobsAdded.{steps_on}
use Rattle.mining.specs.Jobs.{rank_after, rank_behind, rank_of_base}
use Rattle.job.specs.Failing.{gained}
use Rattle.driver.specs.Opening.{IsGreatest}
use Rattle.std.proofs.Common.{arith}
use Rattle.driver.proofs.Finished.{finished_then, looks_finished}
use Rattle.std.proofs.Common.{◌≡◌}
use Rattle.dir_disk.specs.Moments.{Told}
use Rattle.edge_text.specs.Edges.{edges_of}
use Rattle.conf.specs.declared.commands.Form.TheVariants.{Base}
use Rattle.mining.specs.Flow.{Mining, mining_of}
use Rattle.driver.proofs.Begin.{first_then, then_last}
use Rattle.driver.proofs.Settling.{same_keeps}
use Rattle.std.proofs.Common.{◌≡◌, ◌∙◌, ℕ, List, Some, sym, subst}
use Rattle.std.specs.Prelude.{OnOk, Option}
use Rattle.dir_disk.specs.State.{State}
use Rattle.dir_disk.specs.Moments.{EachImage, Through, Told, files}
use Rattle.dir_disk.specs.Streams.{AddsPart}
use Rattle.mining.specs.Flow.{Mining, last_of, mining_of, most_of}
use Rattle.mining.specs.Kept.{AllKept, Kept}
use Rattle.mining.specs.Iterations.{console}
use Rattle.mining.proofs.AckLemmas.{acks_over, acks_through}
use Rattle.mining.proofs.EnsureLemmas.{as_same, kept_after, looks_stay}
use Rattle.mining.proofs.LastLemmas.{most_small}
use Rattle.mining.proofs.Wholes.{same_state}
use Rattle.driver.specs.Opening.{HasRun, IsFrom, IsFromThere}
use Rattle.driver.proofs.Begin.{both_told, if_told}
use Rattle.driver.proofs.Settling.{same_keeps}
use Rattle.driver.proofs.Starting.{finished_vectors, from_there, nothing_part}
use Rattle.driver.specs.Causes.{IsOpened, found_in, outcome_of}
use Rattle.driver.specs.Outcomes.{outcome_of_stop}
use Rattle.driver.specs.declared.outcome.Outcome.TheVariants.{Done}
use Rattle.driver.proofs.Causes.{exits, exits_by, of_disk, same_opened, then_mining}
use Rattle.driver.proofs.CausesUnmade.{no_disk_refusal, no_mining_refusal, none_then, refuses, same_none}
use Rattle.std.proofs.Common.{List, ℕ}
use Rattle.driver.specs.declared.outcome.Outcome.{Outcome}
use Rattle.mining.specs.Stored.{IsNotAsMade}
use Rattle.mining.proofs.StoredLemmas.{err_is}
use Rattle.driver.proofs.Stored.{exits_disk}
use Rattle.driver.specs.Opening.{IsFromAny}
use Rattle.driver.proofs.Vectors.{any_there}
use Rattle.driver.proofs.mining_run.mine_settled.Goals as goal

pub returns-in_err-had_first-clause-unstarted : goal.returns-in_err-had_first-clause-unstarted
returns-in_err-had_first-clause-unstarted g c =
    λ refusal. c.has.ensures.seen

pub returns-in_err-make_ready-clause-unstarted : goal.returns-in_err-make_ready-clause-unstarted
returns-in_err-make_ready-clause-unstarted g c =
    λ refusal. c.in_err-make_ready.ensures.unstarted (refuses c.from_residual-in_err-make_ready.result c.in_err-make_ready.field-0.0 c.from_residual-in_err-make_ready.ensures.1 refusal) ∙ c.has.ensures.seen

pub returns-clause-unstarted : goal.returns-clause-unstarted
returns-clause-unstarted g c =
    λ refusal. absurd (no_mining_refusal c.go_on.result c.go_on.ensures.err refusal)

pub returns-in_err-had_first-clause-unmade : goal.returns-in_err-had_first-clause-unmade
returns-in_err-had_first-clause-unmade g c =
    λ tells refusal. absurd (no_disk_refusal c.in_err-had_first.field-0.0 c.in_err-had_first.ensures.of_disk (refuses c.from_residual.result c.in_err-had_first.field-0.0 c.from_residual.ensures.1 refusal))

pub returns-in_err-make_ready-clause-unmade : goal.returns-in_err-make_ready-clause-unmade
returns-in_err-make_ready-clause-unmade g c =
    λ tells refusal. none_then (files (g.S.Dir.told c.args.site.now)) (files (g.S.Dir.told c.has.new.site)) (files (g.S.Dir.told c.make_ready.new.site)) (same_none (files (g.S.Dir.told c.args.site.now)) (files (g.S.Dir.told c.has.new.site)) (same_state (g.S.Dir.told c.args.site.now) (g.S.Dir.told c.has.new.site) (c.has.ensures.stands tells))) (c.in_err-make_ready.ensures.unmade tells (refuses c.from_residual-in_err-make_ready.result c.in_err-make_ready.field-0.0 c.from_residual-in_err-make_ready.ensures.1 refusal))

pub returns-clause-unmade : goal.returns-clause-unmade
returns-clause-unmade g c =
    λ tells refusal. absurd (no_mining_refusal c.go_on.result c.go_on.ensures.err refusal)

pub returns-in_err-had_first-clause-opened : goal.returns-in_err-had_first-clause-opened
returns-in_err-had_first-clause-opened g c =
    exits (λ (bytes : List ℕ) (outcome : Outcome). g.S.Dir.tells → IsOpened c.args.conf.now (files (g.S.Dir.told c.args.site.now)) bytes outcome) (g.E.Source.left c.args.edges.now) c.from_residual.result c.in_err-had_first.field-0.0 c.from_residual.ensures.1 (λ bytes tells. of_disk c.args.conf.now (found_in (files (g.S.Dir.told c.args.site.now))) (edges_of c.args.conf.now.nodes bytes) c.in_err-had_first.field-0.0 c.in_err-had_first.ensures.of_disk)

pub returns-in_err-make_ready-clause-opened : goal.returns-in_err-make_ready-clause-opened
returns-in_err-make_ready-clause-opened g c =
    exits_by (λ (bytes : List ℕ) (outcome : Outcome). g.S.Dir.tells → IsOpened c.args.conf.now (files (g.S.Dir.told c.args.site.now)) bytes outcome) (λ bytes. g.S.Dir.tells → IsOpened c.args.conf.now (files (g.S.Dir.told c.has.new.site)) bytes (outcome_of_stop c.in_err-make_ready.field-0.0)) (g.E.Source.left c.args.edges.now) c.from_residual-in_err-make_ready.result c.in_err-make_ready.field-0.0 c.from_residual-in_err-make_ready.ensures.1
    (λ bytes opened tells.
    let same = same_state (g.S.Dir.told c.args.site.now) (g.S.Dir.told c.has.new.site) (c.has.ensures.stands tells) in
    same_opened c.args.conf.now (files (g.S.Dir.told c.has.new.site)) (files (g.S.Dir.told c.args.site.now)) bytes (outcome_of_stop c.in_err-make_ready.field-0.0) same (opened tells)) c.in_err-make_ready.ensures.opened

pub returns-clause-opened : goal.returns-clause-opened
returns-clause-opened g c =
    both_told (λ bytes. g.S.Dir.tells → IsOpened c.args.conf.now (files (g.S.Dir.told c.has.new.site)) bytes Done) (λ bytes. (λ (bytes : List ℕ) (outcome : Outcome). g.S.Dir.tells → IsOpened c.args.conf.now (files (g.S.Dir.told c.args.site.now)) bytes outcome) bytes (outcome_of c.go_on.result)) (g.E.Source.left c.args.edges.now)
    (λ bytes opened tells.
    let same = same_state (g.S.Dir.told c.args.site.now) (g.S.Dir.told c.has.new.site) (c.has.ensures.stands tells) in
    then_mining c.args.conf.now (found_in (files (g.S.Dir.told c.args.site.now))) (edges_of c.args.conf.now.nodes bytes) c.go_on.result (same_opened c.args.conf.now (files (g.S.Dir.told c.has.new.site)) (files (g.S.Dir.told c.args.site.now)) bytes Done same (opened tells)) c.go_on.ensures.err) c.in_ok-make_ready.ensures.opened

pub returns-in_err-make_ready-clause-kept : goal.returns-in_err-make_ready-clause-kept
returns-in_err-make_ready-clause-kept g c =
    first_then (λ bytes. mining_of g.S.Site.gives c.args.conf.now (edges_of c.args.conf.now.nodes bytes).edges) (g.E.Source.left c.args.edges.now) g.S.Dir.tells (c.args.conf.now.form ≡ Base) (g.S.Dir.told c.args.site.now) (g.S.Dir.told c.has.new.site) (g.S.Dir.told c.make_ready.new.site) (λ bytes tells kept. same_keeps (mining_of g.S.Site.gives c.args.conf.now (edges_of c.args.conf.now.nodes bytes).edges) (g.S.Dir.told c.args.site.now) (g.S.Dir.told c.has.new.site) kept (c.has.ensures.stands tells)) c.make_ready.ensures.kept

pub returns-clause-kept : goal.returns-clause-kept
returns-clause-kept g c =
    then_last (λ bytes. mining_of g.S.Site.gives c.args.conf.now (edges_of c.args.conf.now.nodes bytes).edges) (g.E.Source.left c.args.edges.now) g.S.Dir.tells (c.args.conf.now.form ≡ Base) (g.S.Dir.told c.args.site.now) (g.S.Dir.told c.make_ready.new.site) (g.S.Dir.told c.go_on.new.site) (first_then (λ bytes. mining_of g.S.Site.gives c.args.conf.now (edges_of c.args.conf.now.nodes bytes).edges) (g.E.Source.left c.args.edges.now) g.S.Dir.tells (c.args.conf.now.form ≡ Base) (g.S.Dir.told c.args.site.now) (g.S.Dir.told c.has.new.site) (g.S.Dir.told c.make_ready.new.site) (λ bytes tells kept. same_keeps (mining_of g.S.Site.gives c.args.conf.now (edges_of c.args.conf.now.nodes bytes).edges) (g.S.Dir.told c.args.site.now) (g.S.Dir.told c.has.new.site) kept (c.has.ensures.stands tells)) c.make_ready.ensures.kept) (λ bytes. c.go_on.ensures.kept (edges_of c.args.conf.now.nodes bytes).edges)

pub returns-in_err-had_first-clause-stays : goal.returns-in_err-had_first-clause-stays
returns-in_err-had_first-clause-stays g c = λ tells. looks_finished (g.S.Dir.told c.args.site.now) (g.S.Dir.told c.has.new.site) (c.has.ensures.stands tells)

pub returns-in_err-make_ready-clause-stays : goal.returns-in_err-make_ready-clause-stays
returns-in_err-make_ready-clause-stays g c =
    λ tells. finished_then (g.S.Dir.told c.args.site.now) (g.S.Dir.told c.has.new.site) (g.S.Dir.told c.make_ready.new.site) (looks_finished (g.S.Dir.told c.args.site.now) (g.S.Dir.told c.has.new.site) (c.has.ensures.stands tells)) (c.make_ready.ensures.stays tells)

pub returns-clause-stays : goal.returns-clause-stays
returns-clause-stays g c =
    λ tells.
    let d = g.S.Dir.told c.args.site.now in
    finished_then d (g.S.Dir.told c.make_ready.new.site) (g.S.Dir.told c.go_on.new.site) (finished_then d (g.S.Dir.told c.has.new.site) (g.S.Dir.told c.make_ready.new.site) (looks_finished d (g.S.Dir.told c.has.new.site) (c.has.ensures.stands tells)) (c.make_ready.ensures.stays tells)) (c.go_on.ensures.stays tells)

pub returns-in_err-had_first-clause-acked : goal.returns-in_err-had_first-clause-acked
returns-in_err-had_first-clause-acked g c =
    λ entry had tells acks. acks_through had entry (g.S.Dir.told c.args.site.now) (g.S.Dir.told c.has.new.site) (g.S.Console.says c.args.site.now) (g.S.Console.says c.has.new.site) c.has.ensures.says (looks_stay (g.S.Dir.told c.args.site.now) (g.S.Dir.told c.has.new.site) (as_same (g.S.Dir.told c.args.site.now) (g.S.Dir.told c.has.new.site) (c.has.ensures.stands tells))) acks

pub returns-in_err-make_ready-clause-acked : goal.returns-in_err-make_ready-clause-acked
returns-in_err-make_ready-clause-acked g c =
    λ entry had tells acks. acks_over had entry (g.S.Dir.told c.has.new.site) (g.S.Dir.told c.make_ready.new.site) (g.S.Console.says c.has.new.site) (g.S.Console.says c.make_ready.new.site) c.make_ready.ensures.says (finished_vectors (g.S.Dir.told c.has.new.site) (g.S.Dir.told c.make_ready.new.site) (c.make_ready.ensures.stays tells)) (acks_through had entry (g.S.Dir.told c.args.site.now) (g.S.Dir.told c.has.new.site) (g.S.Console.says c.args.site.now) (g.S.Console.says c.has.new.site) c.has.ensures.says (looks_stay (g.S.Dir.told c.args.site.now) (g.S.Dir.told c.has.new.site) (as_same (g.S.Dir.told c.args.site.now) (g.S.Dir.told c.has.new.site) (c.has.ensures.stands tells))) acks)

pub returns-clause-acked : goal.returns-clause-acked
returns-clause-acked g c =
    λ entry had tells acks. c.go_on.ensures.acked entry had tells (acks_over had entry (g.S.Dir.told c.has.new.site) (g.S.Dir.told c.make_ready.new.site) (g.S.Console.says c.has.new.site) (g.S.Console.says c.make_ready.new.site) c.make_ready.ensures.says (finished_vectors (g.S.Dir.told c.has.new.site) (g.S.Dir.told c.make_ready.new.site) (c.make_ready.ensures.stays tells)) (acks_through had entry (g.S.Dir.told c.args.site.now) (g.S.Dir.told c.has.new.site) (g.S.Console.says c.args.site.now) (g.S.Console.says c.has.new.site) c.has.ensures.says (looks_stay (g.S.Dir.told c.args.site.now) (g.S.Dir.told c.has.new.site) (as_same (g.S.Dir.told c.args.site.now) (g.S.Dir.told c.has.new.site) (c.has.ensures.stands tells))) acks))

pub returns-in_err-had_first-clause-part : goal.returns-in_err-had_first-clause-part
returns-in_err-had_first-clause-part g c =
    if_told (λ bytes. (k : Option ℕ) (l : ℕ) → g.S.Dir.tells → AllKept (mining_of g.S.Site.gives c.args.conf.now (edges_of c.args.conf.now.nodes bytes).edges) (files (g.S.Dir.told c.args.site.now)) → c.args.conf.now.form ≡ Base → IsFrom (most_of c.args.conf.now c.args.conf.now.command) (files (g.S.Dir.told c.args.site.now)) k → last_of (mining_of g.S.Site.gives c.args.conf.now (edges_of c.args.conf.now.nodes bytes).edges) ≡ Some l → AddsPart (g.S.Console.said c.args.site.now) (g.S.Console.said c.has.new.site) (console (mining_of g.S.Site.gives c.args.conf.now (edges_of c.args.conf.now.nodes bytes).edges) k l)) (g.E.Source.left c.args.edges.now) (λ bytes k l tells kept form from last. nothing_part (g.S.Console.said c.args.site.now) (g.S.Console.said c.has.new.site) (console (mining_of g.S.Site.gives c.args.conf.now (edges_of c.args.conf.now.nodes bytes).edges) k l) c.has.ensures.said)

pub returns-in_err-make_ready-clause-part : goal.returns-in_err-make_ready-clause-part
returns-in_err-make_ready-clause-part g c =
    if_told (λ bytes. (k : Option ℕ) (l : ℕ) → g.S.Dir.tells → AllKept (mining_of g.S.Site.gives c.args.conf.now (edges_of c.args.conf.now.nodes bytes).edges) (files (g.S.Dir.told c.args.site.now)) → c.args.conf.now.form ≡ Base → IsFrom (most_of c.args.conf.now c.args.conf.now.command) (files (g.S.Dir.told c.args.site.now)) k → last_of (mining_of g.S.Site.gives c.args.conf.now (edges_of c.args.conf.now.nodes bytes).edges) ≡ Some l → AddsPart (g.S.Console.said c.args.site.now) (g.S.Console.said c.make_ready.new.site) (console (mining_of g.S.Site.gives c.args.conf.now (edges_of c.args.conf.now.nodes bytes).edges) k l)) (g.E.Source.left c.args.edges.now) (λ bytes k l tells kept form from last. nothing_part (g.S.Console.said c.args.site.now) (g.S.Console.said c.make_ready.new.site) (console (mining_of g.S.Site.gives c.args.conf.now (edges_of c.args.conf.now.nodes bytes).edges) k l) (c.make_ready.ensures.said ∙ c.has.ensures.said))

pub returns-clause-part : goal.returns-clause-part
returns-clause-part g c =
    both_told (λ bytes. g.S.Dir.tells → AllKept (mining_of g.S.Site.gives c.args.conf.now (edges_of c.args.conf.now.nodes bytes).edges) (files (g.S.Dir.told c.has.new.site)) → c.args.conf.now.form ≡ Base → Through (EachImage (Kept (mining_of g.S.Site.gives c.args.conf.now (edges_of c.args.conf.now.nodes bytes).edges))) (g.S.Dir.told c.has.new.site) (g.S.Dir.told c.make_ready.new.site)) (λ bytes. (k : Option ℕ) (l : ℕ) → g.S.Dir.tells → AllKept (mining_of g.S.Site.gives c.args.conf.now (edges_of c.args.conf.now.nodes bytes).edges) (files (g.S.Dir.told c.args.site.now)) → c.args.conf.now.form ≡ Base → IsFrom (most_of c.args.conf.now c.args.conf.now.command) (files (g.S.Dir.told c.args.site.now)) k → last_of (mining_of g.S.Site.gives c.args.conf.now (edges_of c.args.conf.now.nodes bytes).edges) ≡ Some l → AddsPart (g.S.Console.said c.args.site.now) (g.S.Console.said c.go_on.new.site) (console (mining_of g.S.Site.gives c.args.conf.now (edges_of c.args.conf.now.nodes bytes).edges) k l)) (g.E.Source.left c.args.edges.now) (λ bytes ready k l tells kept form from last.
    let mining : Mining = mining_of g.S.Site.gives c.args.conf.now (edges_of c.args.conf.now.nodes bytes).edges in
    let d : Told = (g.S.Dir.told c.args.site.now) in
    let e : Told = (g.S.Dir.told c.has.new.site) in
    let f : Told = (g.S.Dir.told c.make_ready.new.site) in
    let same = same_state d e (c.has.ensures.stands tells) in
    let kept_e : AllKept mining (files e) = kept_after mining d e kept (same_keeps mining d e kept (c.has.ensures.stands tells)) in
    let kept_f : AllKept mining (files f) = kept_after mining e f kept_e (ready tells kept_e form) in
    let there : IsFromThere c.in_ok-had_first.had_first (most_of c.args.conf.now c.args.conf.now.command) (files f) k = from_there mining (most_of c.args.conf.now c.args.conf.now.command) (files e) (files f) k c.in_ok-had_first.had_first (most_small c.args.conf.now c.requires.limits) (λ q. g.met.S.Dir.now_allowed c.has.new.site q tells) (λ q. g.met.S.Dir.now_allowed c.make_ready.new.site q tells) kept_e (c.in_ok-had_first.ensures.yes tells) (c.in_ok-had_first.ensures.no tells) (c.in_ok-make_ready.ensures.sure tells) (c.make_ready.ensures.later tells) (subst (λ (s : State). IsFrom (most_of c.args.conf.now c.args.conf.now.command) s k) (sym same) from) in
    let said : (g.S.Console.said c.make_ready.new.site) ≡ (g.S.Console.said c.args.site.now) = c.make_ready.ensures.said ∙ c.has.ensures.said in
    subst (λ (before : Option (List ℕ)). AddsPart before (g.S.Console.said c.go_on.new.site) (console mining k l)) said (c.go_on.ensures.part (edges_of c.args.conf.now.nodes bytes).edges k l tells kept_f form there last)) c.make_ready.ensures.kept

pub returns-clause-done : goal.returns-clause-done
returns-clause-done g c =
    both_told (λ bytes. g.S.Dir.tells → AllKept (mining_of g.S.Site.gives c.args.conf.now (edges_of c.args.conf.now.nodes bytes).edges) (files (g.S.Dir.told c.has.new.site)) → c.args.conf.now.form ≡ Base → Through (EachImage (Kept (mining_of g.S.Site.gives c.args.conf.now (edges_of c.args.conf.now.nodes bytes).edges))) (g.S.Dir.told c.has.new.site) (g.S.Dir.told c.make_ready.new.site)) (λ bytes. (k : Option ℕ) → g.S.Dir.tells → AllKept (mining_of g.S.Site.gives c.args.conf.now (edges_of c.args.conf.now.nodes bytes).edges) (files (g.S.Dir.told c.args.site.now)) → c.args.conf.now.form ≡ Base → IsFrom (most_of c.args.conf.now c.args.conf.now.command) (files (g.S.Dir.told c.args.site.now)) k → OnOk c.go_on.result (HasRun (mining_of g.S.Site.gives c.args.conf.now (edges_of c.args.conf.now.nodes bytes).edges) k (g.S.Console.said c.args.site.now) (g.S.Console.said c.go_on.new.site) (files (g.S.Dir.told c.go_on.new.site)))) (g.E.Source.left c.args.edges.now) (λ bytes ready k tells kept form from.
    let mining : Mining = mining_of g.S.Site.gives c.args.conf.now (edges_of c.args.conf.now.nodes bytes).edges in
    let d : Told = (g.S.Dir.told c.args.site.now) in
    let e : Told = (g.S.Dir.told c.has.new.site) in
    let f : Told = (g.S.Dir.told c.make_ready.new.site) in
    let same = same_state d e (c.has.ensures.stands tells) in
    let kept_e : AllKept mining (files e) = kept_after mining d e kept (same_keeps mining d e kept (c.has.ensures.stands tells)) in
    let kept_f : AllKept mining (files f) = kept_after mining e f kept_e (ready tells kept_e form) in
    let there : IsFromThere c.in_ok-had_first.had_first (most_of c.args.conf.now c.args.conf.now.command) (files f) k = from_there mining (most_of c.args.conf.now c.args.conf.now.command) (files e) (files f) k c.in_ok-had_first.had_first (most_small c.args.conf.now c.requires.limits) (λ q. g.met.S.Dir.now_allowed c.has.new.site q tells) (λ q. g.met.S.Dir.now_allowed c.make_ready.new.site q tells) kept_e (c.in_ok-had_first.ensures.yes tells) (c.in_ok-had_first.ensures.no tells) (c.in_ok-make_ready.ensures.sure tells) (c.make_ready.ensures.later tells) (subst (λ (s : State). IsFrom (most_of c.args.conf.now c.args.conf.now.command) s k) (sym same) from) in
    let said : (g.S.Console.said c.make_ready.new.site) ≡ (g.S.Console.said c.args.site.now) = c.make_ready.ensures.said ∙ c.has.ensures.said in
    subst (λ (before : Option (List ℕ)). OnOk c.go_on.result (HasRun mining k before (g.S.Console.said c.go_on.new.site) (files (g.S.Dir.told c.go_on.new.site)))) said (c.go_on.ensures.done (edges_of c.args.conf.now.nodes bytes).edges k tells kept_f form there)) c.make_ready.ensures.kept

pub returns-in_err-had_first-clause-log : goal.returns-in_err-had_first-clause-log
returns-in_err-had_first-clause-log g c =
    λ k after. none_logs g.S.Dir.tells g.S.Site.gives c.args.conf.now k (g.S.Site.seen c.args.site.now) (g.S.Site.seen c.has.new.site) (g.S.Site.given c.args.site.now) (g.S.Site.given c.has.new.site) (g.S.Dir.told c.has.new.site) (outcome_of c.from_residual.result) c.has.ensures.seen c.has.ensures.given

pub returns-in_err-had_first-clause-answers : goal.returns-in_err-had_first-clause-answers
returns-in_err-had_first-clause-answers g c =
    quiet_answer (g.S.Site.seen c.args.site.now) (g.S.Site.seen c.has.new.site) c.from_residual.result c.in_err-had_first.field-0.0 c.has.ensures.seen c.from_residual.ensures.1 c.in_err-had_first.ensures.no_task

pub returns-in_err-make_ready-clause-log : goal.returns-in_err-make_ready-clause-log
returns-in_err-make_ready-clause-log g c =
    λ k after.
    logs_after g.S.Dir.tells g.S.Site.gives c.args.conf.now k (g.S.Site.seen c.args.site.now) (g.S.Site.seen c.has.new.site) (g.S.Site.seen c.make_ready.new.site) (g.S.Site.given c.args.site.now) (g.S.Site.given c.has.new.site) (g.S.Site.given c.make_ready.new.site) (g.S.Dir.told c.make_ready.new.site) (outcome_of c.from_residual-in_err-make_ready.result) c.has.ensures.seen c.has.ensures.given (base_refused g.S.Dir.tells g.S.Site.gives c.args.conf.now (most_of c.args.conf.now c.args.conf.now.command) (files (g.S.Dir.told c.args.site.now)) k (g.S.Site.seen c.has.new.site) (g.S.Site.seen c.make_ready.new.site) (g.S.Site.given c.has.new.site) (g.S.Site.given c.make_ready.new.site) (g.S.Dir.told c.make_ready.new.site) (outcome_of c.from_residual-in_err-make_ready.result) after (err_not_done c.from_residual-in_err-make_ready.result c.in_err-make_ready.field-0.0 c.from_residual-in_err-make_ready.ensures.1) c.make_ready.ensures.jobs.gains (λ j tells greatest. (c.make_ready.ensures.early tells (first_sure c.in_ok-had_first.had_first (most_of c.args.conf.now c.args.conf.now.command) j (files (g.S.Dir.told c.has.new.site)) (λ q. g.met.S.Dir.now_allowed c.has.new.site q tells) (c.in_ok-had_first.ensures.yes tells) (c.in_ok-had_first.ensures.no tells) (subst (λ (s : State). IsGreatest (most_of c.args.conf.now c.args.conf.now.command) s j) (sym (same_state (g.S.Dir.told c.args.site.now) (g.S.Dir.told c.has.new.site) (c.has.ensures.stands tells))) greatest))).gains))

pub returns-in_err-make_ready-clause-answers : goal.returns-in_err-make_ready-clause-answers
returns-in_err-make_ready-clause-answers g c =
    answer_err (Unit {0}) (gained (g.S.Site.seen c.args.site.now).log (g.S.Site.seen c.make_ready.new.site).log) c.from_residual-in_err-make_ready.result c.in_err-make_ready.field-0.0 c.from_residual-in_err-make_ready.ensures.1 (begun_stop (g.S.Site.seen c.args.site.now) (g.S.Site.seen c.has.new.site) (g.S.Site.seen c.make_ready.new.site) c.in_err-make_ready.field-0.0 c.has.ensures.seen c.in_err-make_ready.ensures.answers)

pub returns-clause-log : goal.returns-clause-log
returns-clause-log g c =
    λ k after.
    logs_after g.S.Dir.tells g.S.Site.gives c.args.conf.now k (g.S.Site.seen c.args.site.now) (g.S.Site.seen c.has.new.site) (g.S.Site.seen c.go_on.new.site) (g.S.Site.given c.args.site.now) (g.S.Site.given c.has.new.site) (g.S.Site.given c.go_on.new.site) (g.S.Dir.told c.go_on.new.site) (outcome_of c.go_on.result) c.has.ensures.seen c.has.ensures.given (base_then g.S.Dir.tells g.S.Site.gives c.args.conf.now (most_of c.args.conf.now c.args.conf.now.command) (files (g.S.Dir.told c.args.site.now)) k (g.S.Site.seen c.has.new.site) (g.S.Site.seen c.make_ready.new.site) (g.S.Site.seen c.go_on.new.site) (g.S.Site.given c.has.new.site) (g.S.Site.given c.make_ready.new.site) (g.S.Site.given c.go_on.new.site) (g.S.Dir.told c.make_ready.new.site) (g.S.Dir.told c.go_on.new.site) c.go_on.result after (λ tells. steps_on (g.S.Dir.told c.make_ready.new.site) (g.S.Dir.told c.go_on.new.site) (c.go_on.ensures.stays tells)) c.in_ok-make_ready.ensures.jobs.done (λ j tells greatest. (c.in_ok-make_ready.ensures.early tells (first_sure c.in_ok-had_first.had_first (most_of c.args.conf.now c.args.conf.now.command) j (files (g.S.Dir.told c.has.new.site)) (λ q. g.met.S.Dir.now_allowed c.has.new.site q tells) (c.in_ok-had_first.ensures.yes tells) (c.in_ok-had_first.ensures.no tells) (subst (λ (s : State). IsGreatest (most_of c.args.conf.now c.args.conf.now.command) s j) (sym (same_state (g.S.Dir.told c.args.site.now) (g.S.Dir.told c.has.new.site) (c.has.ensures.stands tells))) greatest))).done) c.go_on.ensures.jobs (λ j tells greatest. c.go_on.ensures.past j tells (there_again c.in_ok-had_first.had_first (most_of c.args.conf.now c.args.conf.now.command) j (files (g.S.Dir.told c.has.new.site)) (files (g.S.Dir.told c.make_ready.new.site)) (most_small c.args.conf.now c.requires.limits) (λ q. g.met.S.Dir.now_allowed c.has.new.site q tells) (λ q. g.met.S.Dir.now_allowed c.make_ready.new.site q tells) (c.in_ok-had_first.ensures.yes tells) (c.in_ok-had_first.ensures.no tells) (c.in_ok-make_ready.ensures.sure tells) (c.make_ready.ensures.later tells) (subst (λ (s : State). IsGreatest (most_of c.args.conf.now c.args.conf.now.command) s j) (sym (same_state (g.S.Dir.told c.args.site.now) (g.S.Dir.told c.has.new.site) (c.has.ensures.stands tells))) greatest))))

pub returns-clause-answers : goal.returns-clause-answers
returns-clause-answers g c =
    begun_answer (Unit {0}) (g.S.Site.seen c.args.site.now) (g.S.Site.seen c.has.new.site) (g.S.Site.seen c.go_on.new.site) c.go_on.result c.has.ensures.seen (answer_then g.S.Dir.tells g.S.Site.gives c.args.conf.now (g.S.Site.seen c.has.new.site) (g.S.Site.seen c.make_ready.new.site) (g.S.Site.seen c.go_on.new.site) (g.S.Site.given c.has.new.site) (g.S.Site.given c.make_ready.new.site) (g.S.Site.given c.go_on.new.site) (g.S.Dir.told c.make_ready.new.site) (g.S.Dir.told c.go_on.new.site) (Unit {0}) rank_of_base (rank_after 0) (rank_after 0) rank_behind c.go_on.result (omega arith) c.in_ok-make_ready.ensures.jobs.done c.go_on.ensures.jobs.gains c.in_ok-make_ready.ensures.answers c.go_on.ensures.answers)

pub returns-in_err-had_first-clause-stored : goal.returns-in_err-had_first-clause-stored
returns-in_err-had_first-clause-stored g c =
    λ tells form. exits_disk (IsNotAsMade c.args.conf.now (files (g.S.Dir.told c.has.new.site))) c.from_residual.result c.in_err-had_first.field-0.0 c.from_residual.ensures.1 c.in_err-had_first.ensures.of_disk

pub returns-in_err-make_ready-clause-stored : goal.returns-in_err-make_ready-clause-stored
returns-in_err-make_ready-clause-stored g c =
    λ tells form. err_is (IsNotAsMade c.args.conf.now (files (g.S.Dir.told c.make_ready.new.site))) c.from_residual-in_err-make_ready.result c.in_err-make_ready.field-0.0 c.from_residual-in_err-make_ready.ensures.1 (c.in_err-make_ready.ensures.stored tells form)

pub returns-clause-stored : goal.returns-clause-stored
returns-clause-stored g c =
    λ tells form. c.go_on.ensures.stored tells form (c.in_ok-make_ready.ensures.matrix tells)

pub returns-clause-good : goal.returns-clause-good
returns-clause-good g c =
    λ k tells from.
    let most = most_of c.args.conf.now c.args.conf.now.command in
    let d : Told = g.S.Dir.told c.args.site.now in
    let e : Told = g.S.Dir.told c.has.new.site in
    let f : Told = g.S.Dir.told c.make_ready.new.site in
    let same = same_state d e (c.has.ensures.stands tells) in
    c.go_on.ensures.read k tells (any_there c.in_ok-had_first.had_first most (files e) (files f) k (most_small c.args.conf.now c.requires.limits) (λ q. g.met.S.Dir.now_allowed c.has.new.site q tells) (λ q. g.met.S.Dir.now_allowed c.make_ready.new.site q tells) (c.in_ok-had_first.ensures.yes tells) (c.in_ok-had_first.ensures.no tells) (c.in_ok-make_ready.ensures.sure tells) (c.make_ready.ensures.later tells) (subst (λ (s : State). IsFromAny most s k) (sym same) from))
