use Rattle.std.proofs.Common.{sym, subst}
use Rattle.dir_disk.specs.Moments.{files}
use Rattle.task_core.specs.Board.{Board, NoneDead}
use Rattle.job.specs.Work.{IsSmall, work_of, text_at}
use Rattle.job.specs.Children.{AreChildrenOf}
use Rattle.job.specs.Standing.{HasWork}
use Rattle.job.specs.Ran.{Ran}
use Rattle.job.proofs.Places.{homes_of_tasks}
use Rattle.job.proofs.PhaseLemmas.{fits_fresh, stands_fresh, fresh_none_dead}
use Rattle.job.proofs.LogLemmas.{ran_tells}
use Rattle.job.proofs.phase.run_phase_over.Goals as goal

pub run_over-requires-clause-alive : goal.run_over-requires-clause-alive
run_over-requires-clause-alive g c =
    let same = c.requires.fresh in
    subst (λ (b : Board). NoneDead b.tasks) (sym same) (fresh_none_dead c.args.tasks c.args.slots)

pub run_over-requires-clause-fits : goal.run_over-requires-clause-fits
run_over-requires-clause-fits g c =
    let w = work_of c.args.folder.now c.args.phase c.args.words.now c.args.tasks in
    let same = c.requires.fresh in
    let small : IsSmall w = record { few = c.requires.few; short = c.requires.short; words = c.requires.words; homes = homes_of_tasks c.args.folder.now c.args.phase c.args.words.now c.args.tasks } in
    subst (λ (b : Board). AreChildrenOf w b (g.S.Site.seen c.args.site.now).running) (sym same) (fits_fresh w c.args.slots (g.S.Site.seen c.args.site.now).running small c.requires.none)

pub run_over-requires-clause-stands : goal.run_over-requires-clause-stands
run_over-requires-clause-stands g c =
    λ tells.
    let w = work_of c.args.folder.now c.args.phase c.args.words.now c.args.tasks in
    let same = c.requires.fresh in
    subst (λ (b : Board). HasWork w g.S.Site.gives (files (g.S.Dir.told c.args.site.now)) b (g.S.Site.seen c.args.site.now).running) (sym same) (stands_fresh w g.S.Site.gives (files (g.S.Dir.told c.args.site.now)) c.args.slots (g.S.Site.seen c.args.site.now).running c.requires.none (c.requires.can tells))

pub returns-clause-ran : goal.returns-clause-ran
returns-clause-ran g c =
    let w = work_of c.args.folder.now c.args.phase c.args.words.now c.args.tasks in
    let same = c.requires.fresh in
    subst (λ (b : Board). Ran g.A.Attempting.may g.S.Dir.tells w b (text_at w (files (g.S.Dir.told c.args.site.now))) (g.S.Site.seen c.args.site.now) (g.S.Site.seen c.run_over.new.site) (g.S.Site.given c.args.site.now) (g.S.Site.given c.run_over.new.site) (g.S.Dir.told c.args.site.now) (g.S.Dir.told c.run_over.new.site) c.run_over.result) same c.run_over.ensures.ran

pub returns-clause-tells : goal.returns-clause-tells
returns-clause-tells g c =
    let w = work_of c.args.folder.now c.args.phase c.args.words.now c.args.tasks in
    let same = c.requires.fresh in
    let ran = subst (λ (b : Board). Ran g.A.Attempting.may g.S.Dir.tells w b (text_at w (files (g.S.Dir.told c.args.site.now))) (g.S.Site.seen c.args.site.now) (g.S.Site.seen c.run_over.new.site) (g.S.Site.given c.args.site.now) (g.S.Site.given c.run_over.new.site) (g.S.Dir.told c.args.site.now) (g.S.Dir.told c.run_over.new.site) c.run_over.result) same c.run_over.ensures.ran in
    ran_tells g.A.Attempting.may g.met.A.Attempting.rule g.S.Dir.tells w c.args.slots (text_at w (files (g.S.Dir.told c.args.site.now))) (g.S.Site.seen c.args.site.now) (g.S.Site.seen c.run_over.new.site) (g.S.Site.given c.args.site.now) (g.S.Site.given c.run_over.new.site) (g.S.Dir.told c.args.site.now) (g.S.Dir.told c.run_over.new.site) c.run_over.result ran
