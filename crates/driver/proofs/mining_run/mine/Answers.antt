use Rattle.driver.proofs.Logging.{after_settled, disk_no_task, logs_after, none_logs, quiet_answer}
use Rattle.mining.proofs.Failures.{begun_answer}
use Rattle.driver.proofs.Finished.{fits_stay, settled_stay}
use Rattle.std.proofs.Common.{◌≡◌}
use Rattle.dir_disk.specs.Moments.{EachImage, Through, Told, files}
use Rattle.edge_text.specs.Edges.{edges_of}
use Rattle.conf.specs.declared.commands.Form.TheVariants.{Base}
use Rattle.mining.specs.Flow.{Mining, mining_of}
use Rattle.mining.specs.Kept.{AllKept, Kept}
use Rattle.driver.proofs.Begin.{first_then, if_told}
use Rattle.driver.proofs.Settling.{settled_keeps}
use Rattle.std.proofs.Common.{◌∙◌, ℕ, List, Some, subst}
use Rattle.std.specs.Prelude.{OnOk, Option}
use Rattle.dir_disk.specs.Streams.{AddsPart}
use Rattle.mining.specs.Flow.{last_of, most_of}
use Rattle.mining.specs.Iterations.{console}
use Rattle.mining.proofs.EnsureLemmas.{kept_after}
use Rattle.driver.specs.Opening.{HasRun, IsFrom}
use Rattle.driver.proofs.Begin.{both_told}
use Rattle.driver.proofs.Starting.{acks_begun, from_settled, nothing_part, run_vectors, settling_vectors}
use Rattle.driver.specs.Causes.{IsOpened, found_in, outcome_of}
use Rattle.driver.proofs.Causes.{exits, of_disk, same_found, settled_found}
use Rattle.driver.proofs.CausesUnmade.{no_disk_refusal, none_then, refuses, settled_none}
use Rattle.std.proofs.Common.{List, ℕ}
use Rattle.driver.specs.declared.outcome.Outcome.{Outcome}
use Rattle.mining.specs.Stored.{IsNotAsMade}
use Rattle.driver.proofs.Stored.{exits_disk}
use Rattle.driver.proofs.Vectors.{any_settled}
use Rattle.driver.proofs.mining_run.mine.Goals as goal

pub returns-in_err-settle_all-clause-unstarted : goal.returns-in_err-settle_all-clause-unstarted
returns-in_err-settle_all-clause-unstarted g c =
    λ refusal. c.settle_all.ensures.seen

pub returns-clause-unstarted : goal.returns-clause-unstarted
returns-clause-unstarted g c =
    λ refusal. c.mine_settled.ensures.unstarted refusal ∙ c.settle_all.ensures.seen

pub returns-in_err-settle_all-clause-unmade : goal.returns-in_err-settle_all-clause-unmade
returns-in_err-settle_all-clause-unmade g c =
    λ tells refusal. absurd (no_disk_refusal c.in_err-settle_all.field-0.0 c.in_err-settle_all.ensures.of_disk (refuses c.from_residual.result c.in_err-settle_all.field-0.0 c.from_residual.ensures.1 refusal))

pub returns-clause-unmade : goal.returns-clause-unmade
returns-clause-unmade g c =
    λ tells refusal. none_then (files (g.S.Dir.told c.args.site.now)) (files (g.S.Dir.told c.settle_all.new.site)) (files (g.S.Dir.told c.mine_settled.new.site)) (settled_none (files (g.S.Dir.told c.args.site.now)) (files (g.S.Dir.told c.settle_all.new.site)) (λ q. g.met.S.Dir.now_allowed c.args.site.now q tells) (c.in_ok-settle_all.ensures.settled tells)) (c.mine_settled.ensures.unmade tells refusal)

pub returns-in_err-settle_all-clause-opened : goal.returns-in_err-settle_all-clause-opened
returns-in_err-settle_all-clause-opened g c =
    exits (λ (bytes : List ℕ) (outcome : Outcome). g.S.Dir.tells → IsOpened c.args.conf.now (files (g.S.Dir.told c.args.site.now)) bytes outcome) (g.E.Source.left c.args.edges.now) c.from_residual.result c.in_err-settle_all.field-0.0 c.from_residual.ensures.1 (λ bytes tells. of_disk c.args.conf.now (found_in (files (g.S.Dir.told c.args.site.now))) (edges_of c.args.conf.now.nodes bytes) c.in_err-settle_all.field-0.0 c.in_err-settle_all.ensures.of_disk)

pub returns-clause-opened : goal.returns-clause-opened
returns-clause-opened g c =
    both_told (λ bytes. g.S.Dir.tells → IsOpened c.args.conf.now (files (g.S.Dir.told c.settle_all.new.site)) bytes (outcome_of c.mine_settled.result)) (λ bytes. (λ (bytes : List ℕ) (outcome : Outcome). g.S.Dir.tells → IsOpened c.args.conf.now (files (g.S.Dir.told c.args.site.now)) bytes outcome) bytes (outcome_of c.mine_settled.result)) (g.E.Source.left c.args.edges.now) (λ bytes opened tells. same_found c.args.conf.now (files (g.S.Dir.told c.settle_all.new.site)) (files (g.S.Dir.told c.args.site.now)) bytes (outcome_of c.mine_settled.result) (settled_found (files (g.S.Dir.told c.args.site.now)) (files (g.S.Dir.told c.settle_all.new.site)) (c.in_ok-settle_all.ensures.settled tells)) (opened tells)) c.mine_settled.ensures.opened

pub returns-in_err-settle_all-clause-kept : goal.returns-in_err-settle_all-clause-kept
returns-in_err-settle_all-clause-kept g c =
    let d : Told = g.S.Dir.told c.args.site.now in
    let e : Told = g.S.Dir.told c.settle_all.new.site in
    if_told (λ bytes. g.S.Dir.tells → AllKept (mining_of g.S.Site.gives c.args.conf.now (edges_of c.args.conf.now.nodes bytes).edges) (files d) → c.args.conf.now.form ≡ Base → Through (EachImage (Kept (mining_of g.S.Site.gives c.args.conf.now (edges_of c.args.conf.now.nodes bytes).edges))) d e) (g.E.Source.left c.args.edges.now) (λ bytes tells kept form. settled_keeps (mining_of g.S.Site.gives c.args.conf.now (edges_of c.args.conf.now.nodes bytes).edges) d e kept (c.settle_all.ensures.images tells))

pub returns-clause-kept : goal.returns-clause-kept
returns-clause-kept g c =
    first_then (λ bytes. mining_of g.S.Site.gives c.args.conf.now (edges_of c.args.conf.now.nodes bytes).edges) (g.E.Source.left c.args.edges.now) g.S.Dir.tells (c.args.conf.now.form ≡ Base) (g.S.Dir.told c.args.site.now) (g.S.Dir.told c.settle_all.new.site) (g.S.Dir.told c.mine_settled.new.site) (λ bytes tells kept. settled_keeps (mining_of g.S.Site.gives c.args.conf.now (edges_of c.args.conf.now.nodes bytes).edges) (g.S.Dir.told c.args.site.now) (g.S.Dir.told c.settle_all.new.site) kept (c.settle_all.ensures.images tells)) c.mine_settled.ensures.kept

pub returns-in_err-settle_all-clause-stays : goal.returns-in_err-settle_all-clause-stays
returns-in_err-settle_all-clause-stays g c = λ tells. fits_stay (g.S.Dir.told c.args.site.now) (g.S.Dir.told c.settle_all.new.site) (c.settle_all.ensures.images tells)

pub returns-clause-stays : goal.returns-clause-stays
returns-clause-stays g c =
    λ tells. settled_stay (files (g.S.Dir.told c.args.site.now)) (g.S.Dir.told c.settle_all.new.site) (g.S.Dir.told c.mine_settled.new.site) (λ q. g.met.S.Dir.now_allowed c.args.site.now q tells) (c.in_ok-settle_all.ensures.settled tells) (c.mine_settled.ensures.stays tells)

pub returns-in_err-settle_all-clause-acked : goal.returns-in_err-settle_all-clause-acked
returns-in_err-settle_all-clause-acked g c =
    λ had tells is. acks_begun had (g.S.Dir.told c.args.site.now) (g.S.Dir.told c.settle_all.new.site) (g.S.Console.says c.settle_all.new.site) (c.settle_all.ensures.says ∙ is)

pub returns-clause-acked : goal.returns-clause-acked
returns-clause-acked g c =
    λ had tells is. c.mine_settled.ensures.acked (g.S.Dir.told c.args.site.now) had tells (acks_begun had (g.S.Dir.told c.args.site.now) (g.S.Dir.told c.settle_all.new.site) (g.S.Console.says c.settle_all.new.site) (c.settle_all.ensures.says ∙ is))

pub returns-in_err-settle_all-clause-vectors : goal.returns-in_err-settle_all-clause-vectors
returns-in_err-settle_all-clause-vectors g c =
    λ tells. settling_vectors (g.S.Dir.told c.args.site.now) (g.S.Dir.told c.settle_all.new.site) (c.settle_all.ensures.images tells)

pub returns-clause-vectors : goal.returns-clause-vectors
returns-clause-vectors g c =
    λ tells. run_vectors (g.S.Dir.told c.args.site.now) (g.S.Dir.told c.settle_all.new.site) (g.S.Dir.told c.mine_settled.new.site) (λ q. g.met.S.Dir.now_allowed c.args.site.now q tells) (settling_vectors (g.S.Dir.told c.args.site.now) (g.S.Dir.told c.settle_all.new.site) (c.settle_all.ensures.images tells)) (c.in_ok-settle_all.ensures.settled tells) (c.mine_settled.ensures.stays tells)

pub returns-in_err-settle_all-clause-part : goal.returns-in_err-settle_all-clause-part
returns-in_err-settle_all-clause-part g c =
    if_told (λ bytes. (k : Option ℕ) (l : ℕ) → g.S.Dir.tells → AllKept (mining_of g.S.Site.gives c.args.conf.now (edges_of c.args.conf.now.nodes bytes).edges) (files (g.S.Dir.told c.args.site.now)) → c.args.conf.now.form ≡ Base → IsFrom (most_of c.args.conf.now c.args.conf.now.command) (files (g.S.Dir.told c.args.site.now)) k → last_of (mining_of g.S.Site.gives c.args.conf.now (edges_of c.args.conf.now.nodes bytes).edges) ≡ Some l → AddsPart (g.S.Console.said c.args.site.now) (g.S.Console.said c.settle_all.new.site) (console (mining_of g.S.Site.gives c.args.conf.now (edges_of c.args.conf.now.nodes bytes).edges) k l)) (g.E.Source.left c.args.edges.now) (λ bytes k l tells kept form from last. nothing_part (g.S.Console.said c.args.site.now) (g.S.Console.said c.settle_all.new.site) (console (mining_of g.S.Site.gives c.args.conf.now (edges_of c.args.conf.now.nodes bytes).edges) k l) c.settle_all.ensures.said)

pub returns-clause-part : goal.returns-clause-part
returns-clause-part g c =
    both_told (λ bytes. (k : Option ℕ) (l : ℕ) → g.S.Dir.tells → AllKept (mining_of g.S.Site.gives c.args.conf.now (edges_of c.args.conf.now.nodes bytes).edges) (files (g.S.Dir.told c.settle_all.new.site)) → c.args.conf.now.form ≡ Base → IsFrom (most_of c.args.conf.now c.args.conf.now.command) (files (g.S.Dir.told c.settle_all.new.site)) k → last_of (mining_of g.S.Site.gives c.args.conf.now (edges_of c.args.conf.now.nodes bytes).edges) ≡ Some l → AddsPart (g.S.Console.said c.settle_all.new.site) (g.S.Console.said c.mine_settled.new.site) (console (mining_of g.S.Site.gives c.args.conf.now (edges_of c.args.conf.now.nodes bytes).edges) k l)) (λ bytes. (k : Option ℕ) (l : ℕ) → g.S.Dir.tells → AllKept (mining_of g.S.Site.gives c.args.conf.now (edges_of c.args.conf.now.nodes bytes).edges) (files (g.S.Dir.told c.args.site.now)) → c.args.conf.now.form ≡ Base → IsFrom (most_of c.args.conf.now c.args.conf.now.command) (files (g.S.Dir.told c.args.site.now)) k → last_of (mining_of g.S.Site.gives c.args.conf.now (edges_of c.args.conf.now.nodes bytes).edges) ≡ Some l → AddsPart (g.S.Console.said c.args.site.now) (g.S.Console.said c.mine_settled.new.site) (console (mining_of g.S.Site.gives c.args.conf.now (edges_of c.args.conf.now.nodes bytes).edges) k l)) (g.E.Source.left c.args.edges.now) (λ bytes settled k l tells kept form from last.
    let mining : Mining = mining_of g.S.Site.gives c.args.conf.now (edges_of c.args.conf.now.nodes bytes).edges in
    let d : Told = (g.S.Dir.told c.args.site.now) in
    let e : Told = (g.S.Dir.told c.settle_all.new.site) in
    let kept_e : AllKept mining (files e) = kept_after mining d e kept (settled_keeps mining d e kept (c.settle_all.ensures.images tells)) in
    let from_e : IsFrom (most_of c.args.conf.now c.args.conf.now.command) (files e) k = from_settled (most_of c.args.conf.now c.args.conf.now.command) (files d) (files e) k (c.in_ok-settle_all.ensures.settled tells) from in
    subst (λ (before : Option (List ℕ)). AddsPart before (g.S.Console.said c.mine_settled.new.site) (console mining k l)) c.settle_all.ensures.said (settled k l tells kept_e form from_e last)) c.mine_settled.ensures.part

pub returns-clause-done : goal.returns-clause-done
returns-clause-done g c =
    both_told (λ bytes. (k : Option ℕ) → g.S.Dir.tells → AllKept (mining_of g.S.Site.gives c.args.conf.now (edges_of c.args.conf.now.nodes bytes).edges) (files (g.S.Dir.told c.settle_all.new.site)) → c.args.conf.now.form ≡ Base → IsFrom (most_of c.args.conf.now c.args.conf.now.command) (files (g.S.Dir.told c.settle_all.new.site)) k → OnOk c.mine_settled.result (HasRun (mining_of g.S.Site.gives c.args.conf.now (edges_of c.args.conf.now.nodes bytes).edges) k (g.S.Console.said c.settle_all.new.site) (g.S.Console.said c.mine_settled.new.site) (files (g.S.Dir.told c.mine_settled.new.site)))) (λ bytes. (k : Option ℕ) → g.S.Dir.tells → AllKept (mining_of g.S.Site.gives c.args.conf.now (edges_of c.args.conf.now.nodes bytes).edges) (files (g.S.Dir.told c.args.site.now)) → c.args.conf.now.form ≡ Base → IsFrom (most_of c.args.conf.now c.args.conf.now.command) (files (g.S.Dir.told c.args.site.now)) k → OnOk c.mine_settled.result (HasRun (mining_of g.S.Site.gives c.args.conf.now (edges_of c.args.conf.now.nodes bytes).edges) k (g.S.Console.said c.args.site.now) (g.S.Console.said c.mine_settled.new.site) (files (g.S.Dir.told c.mine_settled.new.site)))) (g.E.Source.left c.args.edges.now) (λ bytes settled k tells kept form from.
    let mining : Mining = mining_of g.S.Site.gives c.args.conf.now (edges_of c.args.conf.now.nodes bytes).edges in
    let d : Told = (g.S.Dir.told c.args.site.now) in
    let e : Told = (g.S.Dir.told c.settle_all.new.site) in
    let kept_e : AllKept mining (files e) = kept_after mining d e kept (settled_keeps mining d e kept (c.settle_all.ensures.images tells)) in
    let from_e : IsFrom (most_of c.args.conf.now c.args.conf.now.command) (files e) k = from_settled (most_of c.args.conf.now c.args.conf.now.command) (files d) (files e) k (c.in_ok-settle_all.ensures.settled tells) from in
    subst (λ (before : Option (List ℕ)). OnOk c.mine_settled.result (HasRun mining k before (g.S.Console.said c.mine_settled.new.site) (files (g.S.Dir.told c.mine_settled.new.site)))) c.settle_all.ensures.said (settled k tells kept_e form from_e)) c.mine_settled.ensures.done

pub returns-in_err-settle_all-clause-log : goal.returns-in_err-settle_all-clause-log
returns-in_err-settle_all-clause-log g c =
    λ k after. none_logs g.S.Dir.tells g.S.Site.gives c.args.conf.now k (g.S.Site.seen c.args.site.now) (g.S.Site.seen c.settle_all.new.site) (g.S.Site.given c.args.site.now) (g.S.Site.given c.settle_all.new.site) (g.S.Dir.told c.settle_all.new.site) (outcome_of c.from_residual.result) c.settle_all.ensures.seen c.settle_all.ensures.given

pub returns-in_err-settle_all-clause-answers : goal.returns-in_err-settle_all-clause-answers
returns-in_err-settle_all-clause-answers g c =
    quiet_answer (g.S.Site.seen c.args.site.now) (g.S.Site.seen c.settle_all.new.site) c.from_residual.result c.in_err-settle_all.field-0.0 c.settle_all.ensures.seen c.from_residual.ensures.1 (disk_no_task c.in_err-settle_all.field-0.0 c.in_err-settle_all.ensures.of_disk)

pub returns-clause-log : goal.returns-clause-log
returns-clause-log g c =
    λ k after. logs_after g.S.Dir.tells g.S.Site.gives c.args.conf.now k (g.S.Site.seen c.args.site.now) (g.S.Site.seen c.settle_all.new.site) (g.S.Site.seen c.mine_settled.new.site) (g.S.Site.given c.args.site.now) (g.S.Site.given c.settle_all.new.site) (g.S.Site.given c.mine_settled.new.site) (g.S.Dir.told c.mine_settled.new.site) (outcome_of c.mine_settled.result) c.settle_all.ensures.seen c.settle_all.ensures.given (c.mine_settled.ensures.log k (after_settled g.S.Dir.tells (most_of c.args.conf.now c.args.conf.now.command) (files (g.S.Dir.told c.args.site.now)) (files (g.S.Dir.told c.settle_all.new.site)) k (λ tells. c.in_ok-settle_all.ensures.settled tells) after))

pub returns-clause-answers : goal.returns-clause-answers
returns-clause-answers g c =
    begun_answer (Unit {0}) (g.S.Site.seen c.args.site.now) (g.S.Site.seen c.settle_all.new.site) (g.S.Site.seen c.mine_settled.new.site) c.mine_settled.result c.settle_all.ensures.seen c.mine_settled.ensures.answers

pub returns-in_err-settle_all-clause-stored : goal.returns-in_err-settle_all-clause-stored
returns-in_err-settle_all-clause-stored g c =
    λ tells form. exits_disk (IsNotAsMade c.args.conf.now (files (g.S.Dir.told c.settle_all.new.site))) c.from_residual.result c.in_err-settle_all.field-0.0 c.from_residual.ensures.1 c.in_err-settle_all.ensures.of_disk

pub returns-clause-good : goal.returns-clause-good
returns-clause-good g c =
    λ k tells from. c.mine_settled.ensures.good k tells (any_settled (most_of c.args.conf.now c.args.conf.now.command) (files (g.S.Dir.told c.args.site.now)) (files (g.S.Dir.told c.settle_all.new.site)) k (c.in_ok-settle_all.ensures.settled tells) from)
