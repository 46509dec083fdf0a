use Rattle.dir_disk.specs.Moments.{files}
use Rattle.mining.specs.declared.place.Place.TheVariants.{Vector}
use Rattle.mining.proofs.CountLemmas.{changes_are}
use Rattle.mining.proofs.EnsureLemmas.{as_same}
use Rattle.std.proofs.Common.{◌≡◌, sym, subst}
use Rattle.dir_disk.specs.State.{State}
use Rattle.dir_disk.specs.Moments.{Told}
use Rattle.store.specs.Totals.{is_value}
use Rattle.mining.specs.Stops.{of_reading}
use Rattle.mining.specs.Stored.{IfBadStore, IsNotAsMade, NamesChange}
use Rattle.mining.proofs.Wholes.{same_state}
use Rattle.mining.proofs.StoredLemmas.{err_is, named_weaker, reading_names, still_changes, vector_bad}
use Rattle.mining.specs.Read.{IsVectorRead}
use Rattle.mining.proofs.ReadLemmas.{vector_read}
use Rattle.mining.proofs.iterate.count_changed.Goals as goal

pub returns-in_err-changes-clause-stands : goal.returns-in_err-changes-clause-stands
returns-in_err-changes-clause-stands g c =
    λ tells. as_same (g.S.Dir.told c.args.site.now) (g.S.Dir.told c.count_changes.new.dir) (c.count_changes.ensures.stands tells)

pub returns-in_err-check_bound-clause-stands : goal.returns-in_err-check_bound-clause-stands
returns-in_err-check_bound-clause-stands g c =
    λ tells. as_same (g.S.Dir.told c.args.site.now) (g.S.Dir.told c.count_changes.new.dir) (c.count_changes.ensures.stands tells)

pub returns-clause-stands : goal.returns-clause-stands
returns-clause-stands g c =
    λ tells. as_same (g.S.Dir.told c.args.site.now) (g.S.Dir.told c.count_changes.new.dir) (c.count_changes.ensures.stands tells)

pub returns-clause-count : goal.returns-clause-count
returns-clause-count g c =
    λ tells. changes_are (files (g.S.Dir.told c.args.site.now)) (Vector c.args.k) c.in_ok-folder.folder c.args.conf.now.reducers c.in_ok-changes.changes.count c.in_ok-folder.ensures (c.in_ok-changes.ensures.count tells) (c.in_ok-changes.ensures.good tells)

pub returns-clause-fresh : goal.returns-clause-fresh
returns-clause-fresh g c = λ tells. c.in_ok-changes.ensures.fresh c.requires.limits.reducers.0 tells

pub returns-in_err-changes-clause-stored : goal.returns-in_err-changes-clause-stored
returns-in_err-changes-clause-stored g c =
    λ tells few sure.
    let d : Told = g.S.Dir.told c.args.site.now in
    let e : Told = g.S.Dir.told c.count_changes.new.dir in
    let conf = c.args.conf.now in
    let fault = c.in_err-changes.field-0.0 in
    let same : files e ≡ files d = same_state d e (c.count_changes.ensures.stands tells) in
    err_is (IsNotAsMade conf (files e)) c.from_residual-in_err-changes.result (of_reading fault) c.from_residual-in_err-changes.ensures.1 (subst (λ (s : State). IfBadStore (IsNotAsMade conf s) (of_reading fault)) (sym same) (reading_names is_value (files d) c.in_ok-folder.folder conf.reducers (IsNotAsMade conf (files d)) (vector_bad conf c.args.k (files d) c.in_ok-folder.folder c.in_ok-folder.ensures few sure) fault (c.in_err-changes.ensures.bad tells)))

pub returns-in_err-check_bound-clause-stored : goal.returns-in_err-check_bound-clause-stored
returns-in_err-check_bound-clause-stored g c =
    λ tells few sure.
    let d : Told = g.S.Dir.told c.args.site.now in
    let e : Told = g.S.Dir.told c.count_changes.new.dir in
    let conf = c.args.conf.now in
    let folder = c.in_ok-folder.folder in
    let first = c.in_ok-changes.changes.first in
    let stop = c.in_err-check_bound.field-0.0 in
    let same : files e ≡ files d = same_state d e (c.count_changes.ensures.stands tells) in
    err_is (IsNotAsMade conf (files e)) c.from_residual-in_err-check_bound.result stop c.from_residual-in_err-check_bound.ensures.1 (subst (λ (s : State). IfBadStore (IsNotAsMade conf s) stop) (sym same) (named_weaker (NamesChange conf c.args.k folder first) (IsNotAsMade conf (files d)) (still_changes conf c.args.k (files d) folder first c.in_ok-folder.ensures few sure (c.in_ok-changes.ensures.good tells) (c.in_ok-changes.ensures.first tells)) stop c.in_err-check_bound.ensures.stored))

pub returns-clause-read : goal.returns-clause-read
returns-clause-read g c =
    λ tells sure.
    let d : Told = g.S.Dir.told c.args.site.now in
    let e : Told = g.S.Dir.told c.count_changes.new.dir in
    let same : files e ≡ files d = same_state d e (c.count_changes.ensures.stands tells) in
    subst (λ (s : State). IsVectorRead c.args.conf.now c.args.k s) (sym same) (vector_read c.args.conf.now c.args.k (files d) c.in_ok-folder.folder c.in_ok-changes.changes.first c.in_ok-folder.ensures sure (c.in_ok-changes.ensures.good tells) (c.in_ok-changes.ensures.first tells) c.in_ok-check_bound.ensures.still)
