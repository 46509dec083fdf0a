use Rattle.dir_disk.specs.Moments.{files}
use Rattle.job.specs.Work.{text_at, work_of}
use Rattle.job.proofs.LogLemmas.{ran_once}
use Rattle.job.proofs.phase.run_phase.Goals as goal

pub returns-clause-once : goal.returns-clause-once
returns-clause-once g c =
    let w = work_of c.args.folder.now c.args.phase c.args.words.now c.args.tasks in
    let d = g.S.Dir.told c.args.site.now in
    ran_once g.S.Dir.tells w c.args.slots (text_at w (files d)) (g.S.Site.seen c.args.site.now) (g.S.Site.seen c.run.new.site) (g.S.Site.given c.args.site.now) (g.S.Site.given c.run.new.site) d (g.S.Dir.told c.run.new.site) c.run.result c.run.ensures.ran
