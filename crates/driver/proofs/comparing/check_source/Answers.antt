use Rattle.std.proofs.Common.{sym, subst, arith}
use Rattle.peg_base.specs.Names.{Names}
use Rattle.dir_disk.specs.Calls.{HasFile}
use Rattle.dir_disk.specs.State.{State}
use Rattle.dir_disk.specs.Moments.{Told, files}
use Rattle.committer.specs.Paths.{part_of}
use Rattle.mining.proofs.Wholes.{same_state}
use Rattle.std.proofs.Common.{◌≡◌, Some, refl}
use Rattle.std.specs.Prelude.{IsSome}
use Rattle.edge_text.specs.Edges.{edges_of}
use Rattle.conf.specs.Texts.{text_of}
use Rattle.mining.specs.declared.stop.Stop.TheVariants.{BadStore, NoMemory}
use Rattle.mining.specs.Stops.{of_ingest, of_store}
use Rattle.driver.specs.Causes.{IsOpened, found_in}
use Rattle.driver.specs.Outcomes.{outcome_of_stop}
use Rattle.driver.proofs.Begin.{both_told, if_told}
use Rattle.dir_disk.specs.State.{bytes_at}
use Rattle.std.specs.Prelude.{Err, Ok}
use Rattle.store.specs.Ingesting.{IsJudged}
use Rattle.driver.specs.declared.outcome.Outcome.TheVariants.{Done}
use Rattle.driver.proofs.Causes.{compared_part, exits, exits_by, lacks_edges, of_edges, of_looks, same_edges, told_within}
use Rattle.std.proofs.Common.{List, ℕ}
use Rattle.driver.specs.declared.outcome.Outcome.{Outcome}
use Rattle.std.specs.Prelude.{IfSome, Option}
use Rattle.store.specs.Parts.{IsFirstMissing}
use Rattle.dir_disk.specs.Moments.{files}
use Rattle.mining.specs.Stored.{IsNotAsMade}
use Rattle.mining.proofs.StoredLemmas.{err_is}
use Rattle.driver.proofs.Stored.{edges_lack, ingest_names_none, store_names_none}
use Rattle.driver.proofs.comparing.check_source.Goals as goal

pub returns-in_err-folder-clause-opened : goal.returns-in_err-folder-clause-opened
returns-in_err-folder-clause-opened g c =
    exits (λ (bytes : List ℕ) (outcome : Outcome). g.S.Dir.tells → IsSome (found_in (files (g.S.Dir.told c.args.site.now))).mark → (found_in (files (g.S.Dir.told c.args.site.now))).conf ≡ Some (text_of c.args.conf.now) → IsOpened c.args.conf.now (files (g.S.Dir.told c.args.site.now)) bytes outcome) (g.E.Source.left c.args.edges.now) c.from_residual.result NoMemory c.from_residual.ensures.1 (λ bytes tells whole settings. tt)

pub returns-in_err-path-clause-opened : goal.returns-in_err-path-clause-opened
returns-in_err-path-clause-opened g c =
    exits (λ (bytes : List ℕ) (outcome : Outcome). g.S.Dir.tells → IsSome (found_in (files (g.S.Dir.told c.args.site.now))).mark → (found_in (files (g.S.Dir.told c.args.site.now))).conf ≡ Some (text_of c.args.conf.now) → IsOpened c.args.conf.now (files (g.S.Dir.told c.args.site.now)) bytes outcome) (g.E.Source.left c.args.edges.now) c.from_residual-in_err-path.result (of_store c.in_err-path.field-0.0) c.from_residual-in_err-path.ensures.1 (λ bytes tells whole settings. of_looks c.args.conf.now (found_in (files (g.S.Dir.told c.args.site.now))) (edges_of c.args.conf.now.nodes bytes) c.in_err-path.field-0.0)

pub returns-in-Some-clause-opened : goal.returns-in-Some-clause-opened
returns-in-Some-clause-opened g c =
    if_told (λ bytes. (λ (bytes : List ℕ) (outcome : Outcome). g.S.Dir.tells → IsSome (found_in (files (g.S.Dir.told c.args.site.now))).mark → (found_in (files (g.S.Dir.told c.args.site.now))).conf ≡ Some (text_of c.args.conf.now) → IsOpened c.args.conf.now (files (g.S.Dir.told c.args.site.now)) bytes outcome) bytes (outcome_of_stop (BadStore c.in-Some.path 0))) (g.E.Source.left c.args.edges.now) (λ bytes tells whole settings. lacks_edges c.args.conf.now (found_in (files (g.S.Dir.told c.args.site.now))) (edges_of c.args.conf.now.nodes bytes) (files (g.S.Dir.told c.args.site.now)) c.in-Some.path refl whole settings (subst (λ (f : Names). IsFirstMissing (files (g.S.Dir.told c.args.site.now)) f 1 c.in-Some.path) c.in_ok-folder.ensures (subst (λ (found : Option Names). IfSome found (IsFirstMissing (files (g.S.Dir.told c.args.site.now)) c.in_ok-folder.folder 1)) c.in-Some.is (c.in_ok-path.ensures.missing tells))))

pub returns-in_err-part-clause-opened : goal.returns-in_err-part-clause-opened
returns-in_err-part-clause-opened g c =
    exits (λ (bytes : List ℕ) (outcome : Outcome). g.S.Dir.tells → IsSome (found_in (files (g.S.Dir.told c.args.site.now))).mark → (found_in (files (g.S.Dir.told c.args.site.now))).conf ≡ Some (text_of c.args.conf.now) → IsOpened c.args.conf.now (files (g.S.Dir.told c.args.site.now)) bytes outcome) (g.E.Source.left c.args.edges.now) c.from_residual-in_err-part.result NoMemory c.from_residual-in_err-part.ensures.1 (λ bytes tells whole settings. tt)

pub returns-in_err-check_edges-clause-opened : goal.returns-in_err-check_edges-clause-opened
returns-in_err-check_edges-clause-opened g c =
    exits_by (λ (bytes : List ℕ) (outcome : Outcome). g.S.Dir.tells → IsSome (found_in (files (g.S.Dir.told c.args.site.now))).mark → (found_in (files (g.S.Dir.told c.args.site.now))).conf ≡ Some (text_of c.args.conf.now) → IsOpened c.args.conf.now (files (g.S.Dir.told c.args.site.now)) bytes outcome) (λ bytes. g.S.Dir.tells → IsJudged (bytes_at (files (g.S.Dir.told c.missing_part.new.dir)) c.in_ok-part.part) (edges_of c.args.conf.now.nodes bytes) (Err c.in_err-check_edges.field-0.0)) (g.E.Source.left c.args.edges.now) c.from_residual-in_err-check_edges.result (of_ingest c.in_err-check_edges.field-0.0) c.from_residual-in_err-check_edges.ensures.1
    (λ bytes judged tells whole settings.
    let same = same_state (g.S.Dir.told c.args.site.now) (g.S.Dir.told c.missing_part.new.dir) (c.missing_part.ensures.stands tells) in
    let there : HasFile (files (g.S.Dir.told c.missing_part.new.dir)) c.in_ok-part.part = subst (λ (p : Names). HasFile (files (g.S.Dir.told c.missing_part.new.dir)) p) (sym c.in_ok-part.ensures) (subst (λ (s : State). HasFile s (part_of c.in_ok-folder.folder 0)) (sym same) (c.in_ok-path.ensures.there tells c.in_default.not-Some 0 (omega arith))) in
    let compared : (found_in (files (g.S.Dir.told c.args.site.now))).edges ≡ Some (bytes_at (files (g.S.Dir.told c.missing_part.new.dir)) c.in_ok-part.part) = compared_part (files (g.S.Dir.told c.args.site.now)) (files (g.S.Dir.told c.missing_part.new.dir)) c.in_ok-folder.folder c.in_ok-part.part same c.in_ok-folder.ensures c.in_ok-part.ensures there in
    of_edges c.args.conf.now (found_in (files (g.S.Dir.told c.args.site.now))) (edges_of c.args.conf.now.nodes bytes) (bytes_at (files (g.S.Dir.told c.missing_part.new.dir)) c.in_ok-part.part) c.in_err-check_edges.field-0.0 whole settings compared (judged tells)) (told_within g.S.Dir.tells (λ bytes. IsJudged (bytes_at (files (g.S.Dir.told c.missing_part.new.dir)) c.in_ok-part.part) (edges_of c.args.conf.now.nodes bytes) (Err c.in_err-check_edges.field-0.0)) (g.E.Source.left c.args.edges.now) c.in_err-check_edges.ensures.judged)

pub returns-clause-opened : goal.returns-clause-opened
returns-clause-opened g c =
    both_told (λ bytes. g.S.Dir.tells → IsJudged (bytes_at (files (g.S.Dir.told c.missing_part.new.dir)) c.in_ok-part.part) (edges_of c.args.conf.now.nodes bytes) (Ok tt)) (λ bytes. (λ (bytes : List ℕ) (outcome : Outcome). g.S.Dir.tells → IsSome (found_in (files (g.S.Dir.told c.args.site.now))).mark → (found_in (files (g.S.Dir.told c.args.site.now))).conf ≡ Some (text_of c.args.conf.now) → IsOpened c.args.conf.now (files (g.S.Dir.told c.args.site.now)) bytes outcome) bytes Done) (g.E.Source.left c.args.edges.now)
    (λ bytes judged tells whole settings.
    let same = same_state (g.S.Dir.told c.args.site.now) (g.S.Dir.told c.missing_part.new.dir) (c.missing_part.ensures.stands tells) in
    let there : HasFile (files (g.S.Dir.told c.missing_part.new.dir)) c.in_ok-part.part = subst (λ (p : Names). HasFile (files (g.S.Dir.told c.missing_part.new.dir)) p) (sym c.in_ok-part.ensures) (subst (λ (s : State). HasFile s (part_of c.in_ok-folder.folder 0)) (sym same) (c.in_ok-path.ensures.there tells c.in_default.not-Some 0 (omega arith))) in
    let compared : (found_in (files (g.S.Dir.told c.args.site.now))).edges ≡ Some (bytes_at (files (g.S.Dir.told c.missing_part.new.dir)) c.in_ok-part.part) = compared_part (files (g.S.Dir.told c.args.site.now)) (files (g.S.Dir.told c.missing_part.new.dir)) c.in_ok-folder.folder c.in_ok-part.part same c.in_ok-folder.ensures c.in_ok-part.ensures there in
    same_edges c.args.conf.now (found_in (files (g.S.Dir.told c.args.site.now))) (edges_of c.args.conf.now.nodes bytes) (bytes_at (files (g.S.Dir.told c.missing_part.new.dir)) c.in_ok-part.part) whole settings compared (judged tells)) (told_within g.S.Dir.tells (λ bytes. IsJudged (bytes_at (files (g.S.Dir.told c.missing_part.new.dir)) c.in_ok-part.part) (edges_of c.args.conf.now.nodes bytes) (Ok tt)) (g.E.Source.left c.args.edges.now) c.in_ok-check_edges.ensures.judged)

pub check_edges-requires-clause-there : goal.check_edges-requires-clause-there
check_edges-requires-clause-there g c =
    λ tells.
    let d : Told = g.S.Dir.told c.args.site.now in
    let e : Told = g.S.Dir.told c.missing_part.new.dir in
    let all = c.in_ok-path.ensures.there tells c.in_default.not-Some in
    subst (λ (p : Names). HasFile (files e) p) (sym c.in_ok-part.ensures) (subst (λ (s : State). HasFile s (part_of c.in_ok-folder.folder 0)) (sym (same_state d e (c.missing_part.ensures.stands tells))) (all 0 (omega arith)))

pub returns-in_err-path-clause-stored : goal.returns-in_err-path-clause-stored
returns-in_err-path-clause-stored g c =
    λ tells sure.
    err_is (IsNotAsMade c.args.conf.now (files (g.S.Dir.told c.missing_part.new.dir))) c.from_residual-in_err-path.result (of_store c.in_err-path.field-0.0) c.from_residual-in_err-path.ensures.1 (store_names_none (IsNotAsMade c.args.conf.now (files (g.S.Dir.told c.missing_part.new.dir))) c.in_err-path.field-0.0)

pub returns-in-Some-clause-stored : goal.returns-in-Some-clause-stored
returns-in-Some-clause-stored g c =
    λ tells sure.
    let d : Told = g.S.Dir.told c.args.site.now in
    let e : Told = g.S.Dir.told c.missing_part.new.dir in
    let missing = subst (λ (f : Names). IsFirstMissing (files d) f 1 c.in-Some.path) c.in_ok-folder.ensures (subst (λ (found : Option Names). IfSome found (IsFirstMissing (files d) c.in_ok-folder.folder 1)) c.in-Some.is (c.in_ok-path.ensures.missing tells)) in
    subst (λ (s : State). IsNotAsMade c.args.conf.now s c.in-Some.path 0) (sym (same_state d e (c.missing_part.ensures.stands tells))) (edges_lack c.args.conf.now (files d) c.in-Some.path sure missing)

pub returns-in_err-check_edges-clause-stored : goal.returns-in_err-check_edges-clause-stored
returns-in_err-check_edges-clause-stored g c =
    λ tells sure.
    err_is (IsNotAsMade c.args.conf.now (files (g.S.Dir.told c.check_edges.new.dir))) c.from_residual-in_err-check_edges.result (of_ingest c.in_err-check_edges.field-0.0) c.from_residual-in_err-check_edges.ensures.1 (ingest_names_none (IsNotAsMade c.args.conf.now (files (g.S.Dir.told c.check_edges.new.dir))) c.in_err-check_edges.field-0.0)
