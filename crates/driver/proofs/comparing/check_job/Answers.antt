use Rattle.mining.proofs.Wholes.{same_then}
use Rattle.std.proofs.Common.{◌≡◌, ◌∙◌, Some, ap, sym, subst}
use Rattle.std.specs.Prelude.{IsSome}
use Rattle.dir_disk.specs.State.{State}
use Rattle.dir_disk.specs.Moments.{files}
use Rattle.edge_text.specs.Edges.{edges_of}
use Rattle.conf.specs.Texts.{text_of}
use Rattle.mining.specs.declared.place.Place.TheVariants.{Edges}
use Rattle.mining.proofs.Wholes.{same_state}
use Rattle.driver.specs.Causes.{IsOpened, found_in, outcome_of}
use Rattle.driver.specs.Opening.{mark_of}
use Rattle.driver.proofs.Begin.{both_told}
use Rattle.driver.proofs.Causes.{exits, of_settings, same_opened, same_settings}
use Rattle.std.proofs.Common.{List, ℕ}
use Rattle.driver.specs.declared.outcome.Outcome.{Outcome}
use Rattle.mining.specs.Stored.{IsNotAsMade}
use Rattle.mining.proofs.StoredLemmas.{err_is}
use Rattle.driver.proofs.Stored.{judged_names_none}
use Rattle.mining.specs.Between.{IsSure}
use Rattle.driver.proofs.comparing.check_job.Goals as goal

pub returns-in_err-check_conf-clause-opened : goal.returns-in_err-check_conf-clause-opened
returns-in_err-check_conf-clause-opened g c =
    exits (λ (bytes : List ℕ) (outcome : Outcome). g.S.Dir.tells → IsSome (mark_of Edges (files (g.S.Dir.told c.args.site.now))) → IsOpened c.args.conf.now (files (g.S.Dir.told c.args.site.now)) bytes outcome) (g.E.Source.left c.args.edges.now) c.from_residual.result c.in_err-check_conf.field-0.0 c.from_residual.ensures.1 (λ bytes tells whole. of_settings c.args.conf.now (found_in (files (g.S.Dir.told c.args.site.now))) (edges_of c.args.conf.now.nodes bytes) c.in_err-check_conf.field-0.0 whole (c.in_err-check_conf.ensures.judged tells))

pub returns-clause-opened : goal.returns-clause-opened
returns-clause-opened g c =
    both_told (λ bytes. let found = found_in (files (g.S.Dir.told c.check_conf.new.site)) in g.S.Dir.tells → IsSome found.mark → found.conf ≡ Some (text_of c.args.conf.now) → IsOpened c.args.conf.now (files (g.S.Dir.told c.check_conf.new.site)) bytes (outcome_of c.check_source.result)) (λ bytes. (λ (bytes : List ℕ) (outcome : Outcome). g.S.Dir.tells → IsSome (mark_of Edges (files (g.S.Dir.told c.args.site.now))) → IsOpened c.args.conf.now (files (g.S.Dir.told c.args.site.now)) bytes outcome) bytes (outcome_of c.check_source.result)) (g.E.Source.left c.args.edges.now)
    (λ bytes opened tells whole.
    let same = same_state (g.S.Dir.told c.args.site.now) (g.S.Dir.told c.check_conf.new.site) (c.check_conf.ensures.stands tells) in
    same_opened c.args.conf.now (files (g.S.Dir.told c.check_conf.new.site)) (files (g.S.Dir.told c.args.site.now)) bytes (outcome_of c.check_source.result) same (opened tells (subst (λ (s : State). IsSome (mark_of Edges s)) (sym same) whole) (ap (λ (s : State). (found_in s).conf) same ∙ same_settings (found_in (files (g.S.Dir.told c.args.site.now))).conf (text_of c.args.conf.now) (c.in_ok-check_conf.ensures.judged tells)))) c.check_source.ensures.opened

pub returns-clause-stands : goal.returns-clause-stands
returns-clause-stands g c =
    λ tells. same_then (g.S.Dir.told c.args.site.now) (g.S.Dir.told c.check_conf.new.site) (g.S.Dir.told c.check_source.new.site) (c.check_conf.ensures.stands tells) (c.check_source.ensures.stands tells)

pub returns-in_err-check_conf-clause-stored : goal.returns-in_err-check_conf-clause-stored
returns-in_err-check_conf-clause-stored g c =
    λ tells sure.
    err_is (IsNotAsMade c.args.conf.now (files (g.S.Dir.told c.check_conf.new.site))) c.from_residual.result c.in_err-check_conf.field-0.0 c.from_residual.ensures.1 (judged_names_none (IsNotAsMade c.args.conf.now (files (g.S.Dir.told c.check_conf.new.site))) _ _ c.in_err-check_conf.field-0.0 (c.in_err-check_conf.ensures.judged tells))

pub returns-clause-stored : goal.returns-clause-stored
returns-clause-stored g c =
    λ tells sure. c.check_source.ensures.stored tells (subst (IsSure Edges) (sym (same_state (g.S.Dir.told c.args.site.now) (g.S.Dir.told c.check_conf.new.site) (c.check_conf.ensures.stands tells))) sure)
