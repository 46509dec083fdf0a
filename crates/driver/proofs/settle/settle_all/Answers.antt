use Rattle.std.proofs.Common.{◌≡◌, subst}
use Rattle.dir_disk.specs.State.{after_settle}
use Rattle.peg_base.specs.Names.{Names}
use Rattle.dir_disk.specs.Calls.{Does}
use Rattle.dir_disk.specs.Calls.Call.{Settle}
use Rattle.dir_disk.specs.Moments.{files}
use Rattle.driver.proofs.Settling.{settle_images, settled_all}
use Rattle.driver.proofs.settle.settle_all.Goals as goal

pub returns-in_err-settle-clause-images : goal.returns-in_err-settle-clause-images
returns-in_err-settle-clause-images g c =
    λ tells. settle_images (g.S.Dir.told c.args.site.now) (g.S.Dir.told c.settle.new.self) c.settle.result (subst (λ (p : Names). Does (Settle p) (g.S.Dir.told c.args.site.now) (g.S.Dir.told c.settle.new.self) c.settle.result) c.root-top.ensures (c.settle.ensures.call tells)) (λ q. g.met.S.Dir.now_allowed c.args.site.now q tells)

pub returns-clause-images : goal.returns-clause-images
returns-clause-images g c =
    λ tells. settle_images (g.S.Dir.told c.args.site.now) (g.S.Dir.told c.settle.new.self) c.settle.result (subst (λ (p : Names). Does (Settle p) (g.S.Dir.told c.args.site.now) (g.S.Dir.told c.settle.new.self) c.settle.result) c.root-top.ensures (c.settle.ensures.call tells)) (λ q. g.met.S.Dir.now_allowed c.args.site.now q tells)

pub returns-clause-settled : goal.returns-clause-settled
returns-clause-settled g c =
    λ tells. settled_all (files (g.S.Dir.told c.args.site.now)) (files (g.S.Dir.told c.settle.new.self)) (subst (λ (p : Names). files (g.S.Dir.told c.settle.new.self) ≡ after_settle p (files (g.S.Dir.told c.args.site.now))) c.root-top.ensures (c.in_ok-settle.ensures.call tells).ok.1)
