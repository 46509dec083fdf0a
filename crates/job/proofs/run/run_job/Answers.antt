use Rattle.std.proofs.Common.{◌≡◌, ◌++◌, List, sym, subst}
use Rattle.dir_disk.specs.Moments.{files}
use Rattle.dir_disk.specs.declared.site.LogEntry.{LogEntry}
use Rattle.job.specs.Failing.{gained}
use Rattle.job.specs.Logged.{NoneTwice}
use Rattle.job.specs.Whole.{plan_of}
use Rattle.job.proofs.Logs.{gained_is}
use Rattle.job.proofs.Joined.{none_twice}
use Rattle.job.proofs.run.run_job.Goals as goal

pub returns-clause-once : goal.returns-clause-once
returns-clause-once g c =
    let spec = c.args.spec.now in
    let plan = plan_of spec (files (g.S.Dir.told c.args.site.now)) in
    let a = g.S.Site.seen c.args.site.now in
    let z = g.S.Site.seen c.run_job_over.new.site in
    let log = c.run_job_over.ensures.log in
    let entries : gained a.log z.log ≡ log.maps ++ log.reduces = gained_is a z (log.maps ++ log.reduces) log.log in
    subst (λ (xs : List LogEntry). NoneTwice spec.folder xs) (sym entries) (none_twice g.S.Dir.tells g.S.Site.gives spec.folder plan spec.slots a z (g.S.Site.given c.args.site.now) (g.S.Site.given c.run_job_over.new.site) (g.S.Dir.told c.run_job_over.new.site) c.run_job_over.result log)
