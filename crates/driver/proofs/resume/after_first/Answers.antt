use Rattle.std.proofs.Common.{◌^◌, ◌<◌, ℕ, sym, subst, arith}
use Rattle.dir_disk.specs.Moments.{EachImage, Through, files}
use Rattle.dir_disk.proofs.Through.{then_goes}
use Rattle.mining.specs.declared.place.Place.TheVariants.{Vector}
use Rattle.mining.specs.Flow.{Mining, mining_of}
use Rattle.mining.specs.Kept.{Kept}
use Rattle.mining.specs.Between.{IsSure}
use Rattle.mining.proofs.EnsureLemmas.{as_same, kept_after, looks_stay, stays_then}
use Rattle.mining.proofs.LastLemmas.{most_small}
use Rattle.driver.proofs.Settling.{same_keeps}
use Rattle.driver.proofs.TakenUp.{at_reached, sure_reached}
use Rattle.mining.specs.Stored.{IsNotAsMade}
use Rattle.driver.proofs.Stored.{exits_none}
use Rattle.std.proofs.Common.{◌≡◌, ◌≤◌, None, rules}
use Rattle.dir_disk.specs.State.{State}
use Rattle.dir_disk.specs.Moments.{Told}
use Rattle.committer.proofs.FolderLemmas.{some_is_there}
use Rattle.mining.proofs.Wholes.{same_state}
use Rattle.driver.specs.Opening.{mark_of}
use Rattle.driver.proofs.Starting.{sure_marked}
use Rattle.driver.proofs.resume.after_first.Goals as goal

pub returns-in_err-k-clause-stays : goal.returns-in_err-k-clause-stays
returns-in_err-k-clause-stays g c =
    λ tells. looks_stay (g.S.Dir.told c.args.site.now) (g.S.Dir.told c.reached.new.site) (as_same (g.S.Dir.told c.args.site.now) (g.S.Dir.told c.reached.new.site) (c.reached.ensures.stands tells))

pub returns-in_err-k-clause-kept : goal.returns-in_err-k-clause-kept
returns-in_err-k-clause-kept g c =
    λ edges tells kept. same_keeps (mining_of g.S.Site.gives c.args.conf.now edges) (g.S.Dir.told c.args.site.now) (g.S.Dir.told c.reached.new.site) kept (c.reached.ensures.stands tells)

pub returns-then-k-eq0-clause-stays : goal.returns-then-k-eq0-clause-stays
returns-then-k-eq0-clause-stays g c =
    λ tells. looks_stay (g.S.Dir.told c.args.site.now) (g.S.Dir.told c.reached.new.site) (as_same (g.S.Dir.told c.args.site.now) (g.S.Dir.told c.reached.new.site) (c.reached.ensures.stands tells))

pub returns-then-k-eq0-clause-kept : goal.returns-then-k-eq0-clause-kept
returns-then-k-eq0-clause-kept g c =
    λ edges tells kept. same_keeps (mining_of g.S.Site.gives c.args.conf.now edges) (g.S.Dir.told c.args.site.now) (g.S.Dir.told c.reached.new.site) kept (c.reached.ensures.stands tells)

pub returns-then-k-eq0-clause-sure : goal.returns-then-k-eq0-clause-sure
returns-then-k-eq0-clause-sure g c =
    λ tells. subst (λ (k : ℕ). IsSure (Vector k) (files (g.S.Dir.told c.reached.new.site))) (sym c.requires.first) (c.in_ok-k.ensures.sure tells 0 (omega arith))

pub returns-clause-stays : goal.returns-clause-stays
returns-clause-stays g c =
    λ tells. stays_then (g.S.Dir.told c.args.site.now) (g.S.Dir.told c.reached.new.site) (g.S.Dir.told c.take_up.new.site) (looks_stay (g.S.Dir.told c.args.site.now) (g.S.Dir.told c.reached.new.site) (as_same (g.S.Dir.told c.args.site.now) (g.S.Dir.told c.reached.new.site) (c.reached.ensures.stands tells))) (c.take_up.ensures.stays tells)

pub returns-clause-sure : goal.returns-clause-sure
returns-clause-sure g c =
    λ tells.
    let few : c.in_ok-k.k < 10 ^ 10 = (let small = most_small c.args.conf.now c.requires.limits in let most = c.in_ok-k.ensures.few in let is = c.most_of.ensures in omega (arith, small, most, is)) in
    sure_reached (g.S.Dir.told c.reached.new.site) (g.S.Dir.told c.take_up.new.site) c.in_ok-k.k few (c.take_up.ensures.stays tells) (c.in_ok-k.ensures.sure tells c.in_ok-k.k (omega arith)) c.take_up.result c.take_up.ensures.is

pub returns-clause-kept : goal.returns-clause-kept
returns-clause-kept g c =
    λ edges tells kept.
    let mining : Mining = mining_of g.S.Site.gives c.args.conf.now edges in
    let first : Through (EachImage (Kept mining)) (g.S.Dir.told c.args.site.now) (g.S.Dir.told c.reached.new.site) = same_keeps mining (g.S.Dir.told c.args.site.now) (g.S.Dir.told c.reached.new.site) kept (c.reached.ensures.stands tells) in
    then_goes (EachImage (Kept mining)) (g.S.Dir.told c.args.site.now) (g.S.Dir.told c.reached.new.site) (g.S.Dir.told c.take_up.new.site) first (c.take_up.ensures.kept edges tells (kept_after mining (g.S.Dir.told c.args.site.now) (g.S.Dir.told c.reached.new.site) kept first) (c.in_ok-k.ensures.sure tells c.in_ok-k.k (omega arith)))

pub returns-clause-at : goal.returns-clause-at
returns-clause-at g c =
    λ edges tells kept at.
    let mining : Mining = mining_of g.S.Site.gives c.args.conf.now edges in
    let first : Through (EachImage (Kept mining)) (g.S.Dir.told c.args.site.now) (g.S.Dir.told c.reached.new.site) = same_keeps mining (g.S.Dir.told c.args.site.now) (g.S.Dir.told c.reached.new.site) kept (c.reached.ensures.stands tells) in
    at_reached mining c.in_ok-k.k c.take_up.result c.take_up.ensures.is (c.take_up.ensures.at edges tells (kept_after mining (g.S.Dir.told c.args.site.now) (g.S.Dir.told c.reached.new.site) kept first) (c.in_ok-k.ensures.sure tells c.in_ok-k.k (omega arith)))

pub returns-in_err-k-clause-stored : goal.returns-in_err-k-clause-stored
returns-in_err-k-clause-stored g c =
    λ tells. exits_none (IsNotAsMade c.args.conf.now (files (g.S.Dir.told c.reached.new.site))) c.from_residual.result c.in_err-k.field-0.0 c.from_residual.ensures.1 c.in_err-k.ensures.no_store

pub returns-clause-stored : goal.returns-clause-stored
returns-clause-stored g c =
    λ tells. c.take_up.ensures.stored tells (c.in_ok-k.ensures.sure tells c.in_ok-k.k (omega arith))

pub returns-clause-is : goal.returns-clause-is
returns-clause-is g c =
    λ tells none.
    let d : Told = g.S.Dir.told c.args.site.now in
    let e : Told = g.S.Dir.told c.reached.new.site in
    let none_then : mark_of (Vector 1) (files e) ≡ None = subst (λ (s : State). mark_of (Vector 1) s ≡ None) (sym (same_state d e (c.reached.ensures.stands tells))) none in
    let some : 1 ≤ c.in_ok-k.k = search rules in
    absurd (some_is_there (mark_of (Vector 1) (files e)) (sure_marked (Vector 1) (files e) (λ q. g.met.S.Dir.now_allowed c.reached.new.site q tells) (c.in_ok-k.ensures.sure tells 1 some)) none_then)
