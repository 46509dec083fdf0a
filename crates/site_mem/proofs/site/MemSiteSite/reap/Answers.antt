use Rattle.std.proofs.Common.{◌≡◌, ap, subst}
use Rattle.dir_disk.specs.Children.{Seen}
use Rattle.dir_disk.specs.Moments.{Told}
use Rattle.dir_mem.specs.Memory.{told_of}
use Rattle.site_mem.specs.Memory.{Memory}
use Rattle.site_mem.specs.Plans.{Planned}
use Rattle.site_mem.specs.Reaps.{EndsNext}
use Rattle.site_mem.proofs.site.MemSiteSite.reap.Goals as goal

pub returns-clause-ended : goal.returns-clause-ended
returns-clause-ended g c =
    let now = c.args.self.now in
    let seen : c.self.inside.roster.seen ≡ now.seen = ap (λ (m : Memory). m.seen) c.self.view_is in
    let told : told_of c.self.inside.dir ≡ told_of now.dir = ap (λ (m : Memory). told_of m.dir) c.self.view_is in
    let plan : c.self.inside.plan ≡ now.plan = ap (λ (m : Memory). m.plan) c.self.view_is in
    let ended = c.reap.ensures.ended in
    subst (λ (p : Planned). EndsNext g.R.Roles.gives p c.reap.result.attempt c.reap.result.status now.seen c.reap.new.self.seen (told_of now.dir) (told_of c.reap.new.dir)) plan (subst (λ (t : Told). EndsNext g.R.Roles.gives c.self.inside.plan c.reap.result.attempt c.reap.result.status now.seen c.reap.new.self.seen t (told_of c.reap.new.dir)) told (subst (λ (s : Seen). EndsNext g.R.Roles.gives c.self.inside.plan c.reap.result.attempt c.reap.result.status s c.reap.new.self.seen (told_of c.self.inside.dir) (told_of c.reap.new.dir)) seen ended))
