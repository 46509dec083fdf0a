use Rattle.mining.proofs.JobsAdded.{gain_within, finish_within, if_done, rank_results}
use Rattle.mining.specs.Jobs.{FinishesWithin, rank_of_end, rank_behind}
use Rattle.mining.specs.Places.{rank_of}
use Rattle.mining.specs.declared.place.Place.TheVariants.{Results}
use Rattle.std.proofs.Common.{refl, arith, ◌+◌}
use Rattle.dir_disk.specs.State.{IsSound}
use Rattle.dir_disk.specs.Moments.{Told, files}
use Rattle.mining.specs.Flow.{Mining, mining_of}
use Rattle.mining.proofs.DueLemmas.{due_results, read_results}
use Rattle.mining.specs.Stored.{IsNotAsMade, LacksFile}
use Rattle.mining.specs.Table.{numbers_for, paths_read}
use Rattle.mining.proofs.EnsureLemmas.{stays_after, sure_kept}
use Rattle.mining.proofs.StoredLemmas.{err_weaker, numbers_there, results_lack}
use Rattle.mining.proofs.run.make_result.Goals as goal

pub returns-clause-kept : goal.returns-clause-kept
returns-clause-kept g c =
    λ edges tells kept last form sure.
    let mining : Mining = mining_of g.S.Site.gives c.args.conf.now edges in
    let d : Told = g.S.Dir.told c.args.site.now in
    let sound : IsSound (files d) = λ q. g.met.S.Dir.now_allowed c.args.site.now q tells in
    c.ensure_folder.ensures.kept edges tells kept (due_results mining c.args.last (files d) sound kept c.requires.few last form sure) (read_results mining c.args.last (files d) sound kept c.requires.few last form sure)

pub returns-clause-log : goal.returns-clause-log
returns-clause-log g c =
    let r = rank_results in gain_within g.S.Dir.tells g.S.Site.gives c.args.conf.now rank_of_end (rank_of Results) (rank_of Results + 1) rank_behind (g.S.Site.seen c.args.site.now) (g.S.Site.seen c.ensure_folder.new.site) (g.S.Site.given c.args.site.now) (g.S.Site.given c.ensure_folder.new.site) (g.S.Dir.told c.ensure_folder.new.site) (omega (arith, r)) (omega (arith, r)) (c.ensure_folder.ensures.log refl)

pub returns-clause-logged : goal.returns-clause-logged
returns-clause-logged g c =
    let r = rank_results in if_done (FinishesWithin g.S.Dir.tells g.S.Site.gives c.args.conf.now (rank_of Results) (rank_of Results + 1) (g.S.Site.seen c.args.site.now) (g.S.Site.seen c.ensure_folder.new.site) (g.S.Site.given c.args.site.now) (g.S.Site.given c.ensure_folder.new.site) (g.S.Dir.told c.ensure_folder.new.site)) (FinishesWithin g.S.Dir.tells g.S.Site.gives c.args.conf.now rank_of_end rank_behind (g.S.Site.seen c.args.site.now) (g.S.Site.seen c.ensure_folder.new.site) (g.S.Site.given c.args.site.now) (g.S.Site.given c.ensure_folder.new.site) (g.S.Dir.told c.ensure_folder.new.site)) c.ensure_folder.result (λ done. finish_within g.S.Dir.tells g.S.Site.gives c.args.conf.now rank_of_end (rank_of Results) (rank_of Results + 1) rank_behind (g.S.Site.seen c.args.site.now) (g.S.Site.seen c.ensure_folder.new.site) (g.S.Site.given c.args.site.now) (g.S.Site.given c.ensure_folder.new.site) (g.S.Dir.told c.ensure_folder.new.site) (omega (arith, r)) (omega (arith, r)) done) (c.ensure_folder.ensures.logged refl)

pub returns-clause-stored : goal.returns-clause-stored
returns-clause-stored g c =
    λ tells numbers.
    let d : Told = g.S.Dir.told c.args.site.now in
    let e : Told = g.S.Dir.told c.ensure_folder.new.site in
    let conf = c.args.conf.now in
    let last = c.args.last in
    let there = numbers_there conf.form last c.requires.few in
    err_weaker (LacksFile (paths_read conf last Results) (files e)) (IsNotAsMade conf (files e)) c.ensure_folder.result (results_lack conf last (files e) c.requires.few (sure_kept (numbers_for conf.form last) (files d) (files e) there.0 there.1 (stays_after d e (c.ensure_folder.ensures.stays tells)) numbers)) (c.ensure_folder.ensures.stored tells)
