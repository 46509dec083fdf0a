use Rattle.std.proofs.Common.{◌≡◌, ◌^◌, ◌<◌, ◌≤◌, ℕ, sym, subst, arith}
use Rattle.dir_disk.specs.Moments.{EachImage, Through, Told, files}
use Rattle.dir_disk.proofs.Through.{then_goes}
use Rattle.mining.specs.Flow.{Mining, mining_of}
use Rattle.mining.specs.Kept.{Kept}
use Rattle.mining.proofs.AckLemmas.{acks_through}
use Rattle.mining.proofs.LastLemmas.{most_small, most_some}
use Rattle.mining.proofs.EnsureLemmas.{as_same, kept_after, looks_stay, stays_then}
use Rattle.driver.proofs.Settling.{same_keeps}
use Rattle.driver.proofs.TakenUp.{at_reached, sure_reached}
use Rattle.std.specs.Prelude.{IfOk, OnOk, Option}
use Rattle.std.proofs.Common.{List}
use Rattle.dir_disk.specs.State.{State}
use Rattle.dir_disk.specs.Streams.{AddsPart, added}
use Rattle.report.specs.Lines.{resumed_text}
use Rattle.mining.specs.Flow.{most_of}
use Rattle.mining.proofs.Wholes.{same_state}
use Rattle.driver.specs.Opening.{IsGreatest}
use Rattle.driver.proofs.Starting.{nothing_part, one_greatest, reached_greatest}
use Rattle.mining.specs.Stored.{IsNotAsMade}
use Rattle.driver.proofs.Stored.{exits_none}
use Rattle.driver.proofs.Vectors.{again_read}
use Rattle.driver.proofs.resume.start_again.Goals as goal

pub returns-clause-sure : goal.returns-clause-sure
returns-clause-sure g c =
    λ tells.
    let few : c.in_ok-k.k < 10 ^ 10 = (let small = most_small c.args.conf.now c.requires.limits in let most = c.in_ok-k.ensures.few in let is = c.most_of.ensures in omega (arith, small, most, is)) in
    sure_reached (g.S.Dir.told c.reached.new.site) (g.S.Dir.told c.resume.new.site) c.in_ok-k.k few (c.resume.ensures.stays tells) (c.in_ok-k.ensures.sure tells c.in_ok-k.k (omega arith)) c.resume.result c.resume.ensures.is

pub returns-clause-stays : goal.returns-clause-stays
returns-clause-stays g c =
    λ tells.
    let d : Told = g.S.Dir.told c.args.site.now in
    let e : Told = g.S.Dir.told c.reached.new.site in
    stays_then d e (g.S.Dir.told c.resume.new.site) (looks_stay d e (as_same d e (c.reached.ensures.stands tells))) (c.resume.ensures.stays tells)

pub returns-clause-kept : goal.returns-clause-kept
returns-clause-kept g c =
    λ edges tells kept.
    let mining : Mining = mining_of g.S.Site.gives c.args.conf.now edges in
    let d : Told = g.S.Dir.told c.args.site.now in
    let e : Told = g.S.Dir.told c.reached.new.site in
    let first : Through (EachImage (Kept mining)) d e = same_keeps mining d e kept (c.reached.ensures.stands tells) in
    then_goes (EachImage (Kept mining)) d e (g.S.Dir.told c.resume.new.site) first (c.resume.ensures.kept edges tells (kept_after mining d e kept first) (c.in_ok-k.ensures.sure tells c.in_ok-k.k (omega arith)))

pub returns-clause-at : goal.returns-clause-at
returns-clause-at g c =
    λ edges tells kept.
    let mining : Mining = mining_of g.S.Site.gives c.args.conf.now edges in
    let d : Told = g.S.Dir.told c.args.site.now in
    let e : Told = g.S.Dir.told c.reached.new.site in
    let first : Through (EachImage (Kept mining)) d e = same_keeps mining d e kept (c.reached.ensures.stands tells) in
    at_reached mining c.in_ok-k.k c.resume.result c.resume.ensures.is (c.resume.ensures.at edges tells (kept_after mining d e kept first) (c.in_ok-k.ensures.sure tells c.in_ok-k.k (omega arith)))

pub returns-in_err-k-clause-acked : goal.returns-in_err-k-clause-acked
returns-in_err-k-clause-acked g c =
    λ entry had tells acks.
    let d : Told = g.S.Dir.told c.args.site.now in
    let e : Told = g.S.Dir.told c.reached.new.site in
    acks_through had entry d e (g.S.Console.says c.args.site.now) (g.S.Console.says c.reached.new.site) c.reached.ensures.says (looks_stay d e (as_same d e (c.reached.ensures.stands tells))) acks

pub returns-clause-acked : goal.returns-clause-acked
returns-clause-acked g c =
    λ entry had tells acks.
    let d : Told = g.S.Dir.told c.args.site.now in
    let e : Told = g.S.Dir.told c.reached.new.site in
    let some : 1 ≤ c.most_of.result = (let most = most_some c.args.conf.now c.requires.limits c.requires.mines in let is = c.most_of.ensures in omega (arith, most, is)) in
    c.resume.ensures.acked entry had tells (c.in_ok-k.ensures.sure tells) (c.in_ok-k.ensures.fresh tells some) (acks_through had entry d e (g.S.Console.says c.args.site.now) (g.S.Console.says c.reached.new.site) c.reached.ensures.says (looks_stay d e (as_same d e (c.reached.ensures.stands tells))) acks)

pub returns-in_err-k-clause-part : goal.returns-in_err-k-clause-part
returns-in_err-k-clause-part g c =
    λ k tells greatest. nothing_part (g.S.Console.said c.args.site.now) (g.S.Console.said c.reached.new.site) (resumed_text k) c.reached.ensures.said

pub returns-clause-is : goal.returns-clause-is
returns-clause-is g c =
    λ k tells greatest.
    let d : Told = (g.S.Dir.told c.args.site.now) in
    let e : Told = (g.S.Dir.told c.reached.new.site) in
    let same = same_state d e (c.reached.ensures.stands tells) in
    let most = most_of c.args.conf.now c.args.conf.now.command in
    let bound : c.in_ok-k.k ≤ most = (let few = c.in_ok-k.ensures.few in let is = c.most_of.ensures in omega (arith, few, is)) in
    let found : IsGreatest most (files e) c.in_ok-k.k = reached_greatest most c.in_ok-k.k (files e) (λ q. g.met.S.Dir.now_allowed c.reached.new.site q tells) bound (c.in_ok-k.ensures.sure tells) (λ less. c.in_ok-k.ensures.no_more tells (let is = c.most_of.ensures in omega (arith, less, is))) in
    let one : c.in_ok-k.k ≡ k = one_greatest most c.in_ok-k.k k (files e) found (subst (λ (s : State). IsGreatest most s k) (sym same) greatest) in
    subst (λ (j : ℕ). IfOk c.resume.result (λ reached. reached.k ≡ j)) one c.resume.ensures.is

pub returns-clause-ok : goal.returns-clause-ok
returns-clause-ok g c =
    λ k tells greatest.
    let d : Told = (g.S.Dir.told c.args.site.now) in
    let e : Told = (g.S.Dir.told c.reached.new.site) in
    let same = same_state d e (c.reached.ensures.stands tells) in
    let most = most_of c.args.conf.now c.args.conf.now.command in
    let bound : c.in_ok-k.k ≤ most = (let few = c.in_ok-k.ensures.few in let is = c.most_of.ensures in omega (arith, few, is)) in
    let found : IsGreatest most (files e) c.in_ok-k.k = reached_greatest most c.in_ok-k.k (files e) (λ q. g.met.S.Dir.now_allowed c.reached.new.site q tells) bound (c.in_ok-k.ensures.sure tells) (λ less. c.in_ok-k.ensures.no_more tells (let is = c.most_of.ensures in omega (arith, less, is))) in
    let one : c.in_ok-k.k ≡ k = one_greatest most c.in_ok-k.k k (files e) found (subst (λ (s : State). IsGreatest most s k) (sym same) greatest) in
    subst (λ (j : ℕ). OnOk c.resume.result ((g.S.Console.said c.resume.new.site) ≡ added (g.S.Console.said c.args.site.now) (resumed_text j))) one (subst (λ (said : Option (List ℕ)). OnOk c.resume.result ((g.S.Console.said c.resume.new.site) ≡ added said (resumed_text c.in_ok-k.k))) c.reached.ensures.said c.resume.ensures.ok)

pub returns-clause-part : goal.returns-clause-part
returns-clause-part g c =
    λ k tells greatest.
    let d : Told = (g.S.Dir.told c.args.site.now) in
    let e : Told = (g.S.Dir.told c.reached.new.site) in
    let same = same_state d e (c.reached.ensures.stands tells) in
    let most = most_of c.args.conf.now c.args.conf.now.command in
    let bound : c.in_ok-k.k ≤ most = (let few = c.in_ok-k.ensures.few in let is = c.most_of.ensures in omega (arith, few, is)) in
    let found : IsGreatest most (files e) c.in_ok-k.k = reached_greatest most c.in_ok-k.k (files e) (λ q. g.met.S.Dir.now_allowed c.reached.new.site q tells) bound (c.in_ok-k.ensures.sure tells) (λ less. c.in_ok-k.ensures.no_more tells (let is = c.most_of.ensures in omega (arith, less, is))) in
    let one : c.in_ok-k.k ≡ k = one_greatest most c.in_ok-k.k k (files e) found (subst (λ (s : State). IsGreatest most s k) (sym same) greatest) in
    subst (λ (j : ℕ). AddsPart (g.S.Console.said c.args.site.now) (g.S.Console.said c.resume.new.site) (resumed_text j)) one (subst (λ (said : Option (List ℕ)). AddsPart said (g.S.Console.said c.resume.new.site) (resumed_text c.in_ok-k.k)) c.reached.ensures.said c.resume.ensures.part)

pub returns-in_err-k-clause-stored : goal.returns-in_err-k-clause-stored
returns-in_err-k-clause-stored g c =
    λ tells. exits_none (IsNotAsMade c.args.conf.now (files (g.S.Dir.told c.reached.new.site))) c.from_residual.result c.in_err-k.field-0.0 c.from_residual.ensures.1 c.in_err-k.ensures.no_store

pub returns-clause-stored : goal.returns-clause-stored
returns-clause-stored g c =
    λ tells. c.resume.ensures.stored tells (c.in_ok-k.ensures.sure tells c.in_ok-k.k (omega arith))

pub returns-clause-read : goal.returns-clause-read
returns-clause-read g c =
    λ k tells greatest.
    let d : Told = (g.S.Dir.told c.args.site.now) in
    let e : Told = (g.S.Dir.told c.reached.new.site) in
    let same = same_state d e (c.reached.ensures.stands tells) in
    let most = most_of c.args.conf.now c.args.conf.now.command in
    let bound : c.in_ok-k.k ≤ most = (let few = c.in_ok-k.ensures.few in let is = c.most_of.ensures in omega (arith, few, is)) in
    let found : IsGreatest most (files e) c.in_ok-k.k = reached_greatest most c.in_ok-k.k (files e) (λ q. g.met.S.Dir.now_allowed c.reached.new.site q tells) bound (c.in_ok-k.ensures.sure tells) (λ less. c.in_ok-k.ensures.no_more tells (let is = c.most_of.ensures in omega (arith, less, is))) in
    let one : c.in_ok-k.k ≡ k = one_greatest most c.in_ok-k.k k (files e) found (subst (λ (s : State). IsGreatest most s k) (sym same) greatest) in
    again_read c.args.conf.now c.in_ok-k.k k (files (g.S.Dir.told c.resume.new.site)) c.resume.result one c.resume.ensures.is (c.resume.ensures.read tells (c.in_ok-k.ensures.sure tells c.in_ok-k.k (omega arith)))
