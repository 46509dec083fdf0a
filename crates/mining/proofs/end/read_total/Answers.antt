use Rattle.dir_disk.specs.Moments.{files}
use Rattle.mining.specs.declared.place.Place.TheVariants.{Results}
use Rattle.mining.proofs.CountLemmas.{totals_are}
use Rattle.mining.proofs.EnsureLemmas.{as_same}
use Rattle.std.proofs.Common.{◌≡◌, sym, subst}
use Rattle.dir_disk.specs.State.{State}
use Rattle.store.specs.Totals.{is_result}
use Rattle.mining.specs.Stops.{of_reading}
use Rattle.mining.specs.Stored.{IfBadStore, IsNotAsMade}
use Rattle.mining.proofs.Wholes.{same_state}
use Rattle.mining.proofs.StoredLemmas.{err_is, reading_names, result_bad}
use Rattle.dir_disk.specs.Moments.{Told}
use Rattle.mining.specs.Read.{IsResultRead}
use Rattle.mining.proofs.ReadLemmas.{result_read}
use Rattle.mining.proofs.end.read_total.Goals as goal

pub returns-in_err-total-clause-stands : goal.returns-in_err-total-clause-stands
returns-in_err-total-clause-stands g c =
    λ tells. as_same (g.S.Dir.told c.args.site.now) (g.S.Dir.told c.total.new.dir) (c.total.ensures.stands tells)

pub returns-clause-stands : goal.returns-clause-stands
returns-clause-stands g c =
    λ tells. as_same (g.S.Dir.told c.args.site.now) (g.S.Dir.told c.total.new.dir) (c.total.ensures.stands tells)

pub returns-clause-total : goal.returns-clause-total
returns-clause-total g c =
    λ tells. totals_are (files (g.S.Dir.told c.args.site.now)) Results c.args.conf.now.command c.in_ok-folder.folder c.args.conf.now.reducers c.in_ok-total.field-0 c.in_ok-folder.ensures (c.in_ok-total.ensures.total tells) (c.in_ok-total.ensures.good tells)

pub returns-clause-fresh : goal.returns-clause-fresh
returns-clause-fresh g c = λ tells. c.in_ok-total.ensures.fresh c.requires.limits.reducers.0 tells

pub returns-in_err-total-clause-stored : goal.returns-in_err-total-clause-stored
returns-in_err-total-clause-stored g c =
    λ tells sure.
    let d : Told = g.S.Dir.told c.args.site.now in
    let e : Told = g.S.Dir.told c.total.new.dir in
    let conf = c.args.conf.now in
    let fault = c.in_err-total.field-0.0 in
    let same : files e ≡ files d = same_state d e (c.total.ensures.stands tells) in
    err_is (IsNotAsMade conf (files e)) c.from_residual-in_err-total.result (of_reading fault) c.from_residual-in_err-total.ensures.1 (subst (λ (s : State). IfBadStore (IsNotAsMade conf s) (of_reading fault)) (sym same) (reading_names is_result (files d) c.in_ok-folder.folder conf.reducers (IsNotAsMade conf (files d)) (result_bad conf (files d) c.in_ok-folder.folder c.in_ok-folder.ensures sure) fault (c.in_err-total.ensures.bad tells)))

pub returns-clause-read : goal.returns-clause-read
returns-clause-read g c =
    λ tells.
    let d : Told = g.S.Dir.told c.args.site.now in
    let e : Told = g.S.Dir.told c.total.new.dir in
    let conf = c.args.conf.now in
    let same : files e ≡ files d = same_state d e (c.total.ensures.stands tells) in
    subst (λ (s : State). IsResultRead conf c.in_ok-total.field-0 s) (sym same) (result_read conf (files d) c.in_ok-folder.folder c.in_ok-total.field-0 c.in_ok-folder.ensures (c.in_ok-total.ensures.good tells) (returns-clause-total g c tells))
