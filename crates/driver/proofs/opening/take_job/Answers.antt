use Rattle.driver.proofs.Finished.{finished_then, looks_finished}
use Rattle.std.proofs.Common.{sym, subst}
use Rattle.dir_disk.specs.Moments.{EachImage, Through, Told, files}
use Rattle.edge_text.specs.Edges.{edges_of}
use Rattle.mining.specs.declared.place.Place.TheVariants.{Edges}
use Rattle.mining.specs.Flow.{mining_of}
use Rattle.mining.specs.Kept.{AllKept, Kept}
use Rattle.mining.specs.Between.{AllFirm, IsSure}
use Rattle.driver.proofs.Begin.{if_told, taken_kept_else}
use Rattle.mining.proofs.Wholes.{same_state, same_then}
use Rattle.driver.proofs.Settling.{same_keeps}
use Rattle.driver.proofs.TakenUp.{ok_always}
use Rattle.driver.proofs.Starting.{later_then, same_later}
use Rattle.std.specs.Prelude.{IsSome}
use Rattle.driver.specs.Causes.{IsOpened, found_in, outcome_of}
use Rattle.driver.specs.Opening.{mark_of}
use Rattle.driver.proofs.Begin.{both_told}
use Rattle.driver.proofs.Causes.{exits, of_disk, same_opened, sure_mark}
use Rattle.driver.proofs.CausesUnmade.{no_disk_refusal, none_then, refuses, same_none}
use Rattle.std.proofs.Common.{List, ℕ}
use Rattle.driver.specs.declared.outcome.Outcome.{Outcome}
use Rattle.dir_disk.specs.Moments.{files}
use Rattle.mining.specs.Stored.{IsNotAsMade}
use Rattle.mining.proofs.StoredLemmas.{err_none}
use Rattle.driver.proofs.Stored.{exits_disk}
use Rattle.driver.proofs.opening.take_job.Goals as goal

pub returns-in_err-has-clause-unmade : goal.returns-in_err-has-clause-unmade
returns-in_err-has-clause-unmade g c =
    λ tells refusal. absurd (no_disk_refusal c.in_err-has.field-0.0 c.in_err-has.ensures.of_disk (refuses c.from_residual.result c.in_err-has.field-0.0 c.from_residual.ensures.1 refusal))

pub returns-then-branch-clause-unmade : goal.returns-then-branch-clause-unmade
returns-then-branch-clause-unmade g c =
    λ tells refusal. same_none (files (g.S.Dir.told c.args.site.now)) (files (g.S.Dir.told c.check_job.new.site)) (same_state (g.S.Dir.told c.args.site.now) (g.S.Dir.told c.check_job.new.site) (same_then (g.S.Dir.told c.args.site.now) (g.S.Dir.told c.has.new.site) (g.S.Dir.told c.check_job.new.site) (c.has.ensures.stands tells) (c.check_job.ensures.stands tells)))

pub returns-else-branch-clause-unmade : goal.returns-else-branch-clause-unmade
returns-else-branch-clause-unmade g c =
    λ tells refusal. none_then (files (g.S.Dir.told c.args.site.now)) (files (g.S.Dir.told c.has.new.site)) (files (g.S.Dir.told c.begin_job.new.site)) (same_none (files (g.S.Dir.told c.args.site.now)) (files (g.S.Dir.told c.has.new.site)) (same_state (g.S.Dir.told c.args.site.now) (g.S.Dir.told c.has.new.site) (c.has.ensures.stands tells))) (c.begin_job.ensures.unmade tells refusal)

pub returns-in_err-has-clause-opened : goal.returns-in_err-has-clause-opened
returns-in_err-has-clause-opened g c =
    exits (λ (bytes : List ℕ) (outcome : Outcome). g.S.Dir.tells → IsOpened c.args.conf.now (files (g.S.Dir.told c.args.site.now)) bytes outcome) (g.E.Source.left c.args.edges.now) c.from_residual.result c.in_err-has.field-0.0 c.from_residual.ensures.1 (λ bytes tells. of_disk c.args.conf.now (found_in (files (g.S.Dir.told c.args.site.now))) (edges_of c.args.conf.now.nodes bytes) c.in_err-has.field-0.0 c.in_err-has.ensures.of_disk)

pub returns-then-branch-clause-opened : goal.returns-then-branch-clause-opened
returns-then-branch-clause-opened g c =
    both_told (λ bytes. g.S.Dir.tells → IsSome (mark_of Edges (files (g.S.Dir.told c.has.new.site))) → IsOpened c.args.conf.now (files (g.S.Dir.told c.has.new.site)) bytes (outcome_of c.check_job.result)) (λ bytes. (λ (bytes : List ℕ) (outcome : Outcome). g.S.Dir.tells → IsOpened c.args.conf.now (files (g.S.Dir.told c.args.site.now)) bytes outcome) bytes (outcome_of c.check_job.result)) (g.E.Source.left c.args.edges.now)
    (λ bytes opened tells.
    let same = same_state (g.S.Dir.told c.args.site.now) (g.S.Dir.told c.has.new.site) (c.has.ensures.stands tells) in
    same_opened c.args.conf.now (files (g.S.Dir.told c.has.new.site)) (files (g.S.Dir.told c.args.site.now)) bytes (outcome_of c.check_job.result) same (opened tells (sure_mark (files (g.S.Dir.told c.has.new.site)) (λ q. g.met.S.Dir.now_allowed c.has.new.site q tells) (c.in_ok-has.ensures.yes tells c.if-branch.true)))) c.check_job.ensures.opened

pub returns-else-branch-clause-opened : goal.returns-else-branch-clause-opened
returns-else-branch-clause-opened g c =
    both_told (λ bytes. g.S.Dir.tells → IsOpened c.args.conf.now (files (g.S.Dir.told c.has.new.site)) bytes (outcome_of c.begin_job.result)) (λ bytes. (λ (bytes : List ℕ) (outcome : Outcome). g.S.Dir.tells → IsOpened c.args.conf.now (files (g.S.Dir.told c.args.site.now)) bytes outcome) bytes (outcome_of c.begin_job.result)) (g.E.Source.left c.args.edges.now)
    (λ bytes opened tells.
    let same = same_state (g.S.Dir.told c.args.site.now) (g.S.Dir.told c.has.new.site) (c.has.ensures.stands tells) in
    same_opened c.args.conf.now (files (g.S.Dir.told c.has.new.site)) (files (g.S.Dir.told c.args.site.now)) bytes (outcome_of c.begin_job.result) same (opened tells)) c.begin_job.ensures.opened

pub returns-then-branch-clause-firm : goal.returns-then-branch-clause-firm
returns-then-branch-clause-firm g c =
    λ tells. ok_always (AllFirm (files (g.S.Dir.told c.check_job.new.site))) c.check_job.result (subst AllFirm (sym (same_state (g.S.Dir.told c.has.new.site) (g.S.Dir.told c.check_job.new.site) (c.check_job.ensures.stands tells))) (c.has.ensures.firm tells))

pub returns-then-branch-clause-sure : goal.returns-then-branch-clause-sure
returns-then-branch-clause-sure g c =
    λ tells. ok_always (IsSure Edges (files (g.S.Dir.told c.check_job.new.site))) c.check_job.result (subst (IsSure Edges) (sym (same_state (g.S.Dir.told c.has.new.site) (g.S.Dir.told c.check_job.new.site) (c.check_job.ensures.stands tells))) (c.in_ok-has.ensures.yes tells c.if-branch.true))

pub returns-then-branch-clause-kept : goal.returns-then-branch-clause-kept
returns-then-branch-clause-kept g c =
    let d : Told = g.S.Dir.told c.args.site.now in
    let f : Told = g.S.Dir.told c.check_job.new.site in
    if_told (λ bytes. g.S.Dir.tells → AllKept (mining_of g.S.Site.gives c.args.conf.now (edges_of c.args.conf.now.nodes bytes).edges) (files d) → Through (EachImage (Kept (mining_of g.S.Site.gives c.args.conf.now (edges_of c.args.conf.now.nodes bytes).edges))) d f) (g.E.Source.left c.args.edges.now) (λ bytes tells kept. same_keeps (mining_of g.S.Site.gives c.args.conf.now (edges_of c.args.conf.now.nodes bytes).edges) d f kept (same_then d (g.S.Dir.told c.has.new.site) f (c.has.ensures.stands tells) (c.check_job.ensures.stands tells)))

pub returns-else-branch-clause-kept : goal.returns-else-branch-clause-kept
returns-else-branch-clause-kept g c =
    taken_kept_else (λ bytes. mining_of g.S.Site.gives c.args.conf.now (edges_of c.args.conf.now.nodes bytes).edges) (g.E.Source.left c.args.edges.now) g.S.Dir.tells (g.S.Dir.told c.args.site.now) (g.S.Dir.told c.has.new.site) (g.S.Dir.told c.begin_job.new.site) c.has.ensures.stands c.begin_job.ensures.kept

pub returns-in_err-has-clause-stays : goal.returns-in_err-has-clause-stays
returns-in_err-has-clause-stays g c = λ tells. looks_finished (g.S.Dir.told c.args.site.now) (g.S.Dir.told c.has.new.site) (c.has.ensures.stands tells)

pub returns-then-branch-clause-stays : goal.returns-then-branch-clause-stays
returns-then-branch-clause-stays g c =
    λ tells. looks_finished (g.S.Dir.told c.args.site.now) (g.S.Dir.told c.check_job.new.site) (same_then (g.S.Dir.told c.args.site.now) (g.S.Dir.told c.has.new.site) (g.S.Dir.told c.check_job.new.site) (c.has.ensures.stands tells) (c.check_job.ensures.stands tells))

pub returns-else-branch-clause-stays : goal.returns-else-branch-clause-stays
returns-else-branch-clause-stays g c =
    λ tells. finished_then (g.S.Dir.told c.args.site.now) (g.S.Dir.told c.has.new.site) (g.S.Dir.told c.begin_job.new.site) (looks_finished (g.S.Dir.told c.args.site.now) (g.S.Dir.told c.has.new.site) (c.has.ensures.stands tells)) (c.begin_job.ensures.stays tells)

pub returns-in_err-has-clause-later : goal.returns-in_err-has-clause-later
returns-in_err-has-clause-later g c =
    λ tells. same_later (files (g.S.Dir.told c.args.site.now)) (files (g.S.Dir.told c.has.new.site)) (same_state (g.S.Dir.told c.args.site.now) (g.S.Dir.told c.has.new.site) (c.has.ensures.stands tells))

pub returns-then-branch-clause-later : goal.returns-then-branch-clause-later
returns-then-branch-clause-later g c =
    λ tells. same_later (files (g.S.Dir.told c.args.site.now)) (files (g.S.Dir.told c.check_job.new.site)) (same_state (g.S.Dir.told c.args.site.now) (g.S.Dir.told c.check_job.new.site) (same_then (g.S.Dir.told c.args.site.now) (g.S.Dir.told c.has.new.site) (g.S.Dir.told c.check_job.new.site) (c.has.ensures.stands tells) (c.check_job.ensures.stands tells)))

pub returns-else-branch-clause-later : goal.returns-else-branch-clause-later
returns-else-branch-clause-later g c =
    λ tells. later_then (files (g.S.Dir.told c.args.site.now)) (files (g.S.Dir.told c.has.new.site)) (files (g.S.Dir.told c.begin_job.new.site)) (same_later (files (g.S.Dir.told c.args.site.now)) (files (g.S.Dir.told c.has.new.site)) (same_state (g.S.Dir.told c.args.site.now) (g.S.Dir.told c.has.new.site) (c.has.ensures.stands tells))) (c.begin_job.ensures.later tells)

pub returns-in_err-has-clause-stored : goal.returns-in_err-has-clause-stored
returns-in_err-has-clause-stored g c =
    λ tells. exits_disk (IsNotAsMade c.args.conf.now (files (g.S.Dir.told c.has.new.site))) c.from_residual.result c.in_err-has.field-0.0 c.from_residual.ensures.1 c.in_err-has.ensures.of_disk

pub returns-then-branch-clause-stored : goal.returns-then-branch-clause-stored
returns-then-branch-clause-stored g c =
    λ tells. c.check_job.ensures.stored tells (c.in_ok-has.ensures.yes tells c.if-branch.true)

pub returns-else-branch-clause-stored : goal.returns-else-branch-clause-stored
returns-else-branch-clause-stored g c =
    λ tells. err_none (IsNotAsMade c.args.conf.now (files (g.S.Dir.told c.begin_job.new.site))) c.begin_job.result c.begin_job.ensures.no_store
