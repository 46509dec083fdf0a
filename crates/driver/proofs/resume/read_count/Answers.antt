use Rattle.std.proofs.Common.{◌≡◌, ◌∙◌, ◌^◌, ◌<◌, Some, sym, arith}
use Rattle.dir_disk.specs.Moments.{Told, files}
use Rattle.mining.specs.Flow.{Mining, changes_in, count_of, mining_of}
use Rattle.mining.specs.declared.place.Place.TheVariants.{Vector}
use Rattle.mining.specs.Table.{part_paths}
use Rattle.job.specs.Inputs.{bytes_at_each}
use Rattle.mining.proofs.DueLemmas.{count_is, if_ok}
use Rattle.driver.proofs.TakenUp.{at_counted}
use Rattle.driver.proofs.resume.read_count.Goals as goal

pub returns-in-Hcc-clause-at : goal.returns-in-Hcc-clause-at
returns-in-Hcc-clause-at g c =
    λ edges tells kept sure.
    let mining : Mining = mining_of g.S.Site.gives c.args.conf.now edges in
    let d : Told = g.S.Dir.told c.args.site.now in
    let few : c.args.k < 10 ^ 10 = (let most = c.requires.few in omega (arith, most)) in
    at_counted mining c.args.k c.count_changed.result (if_ok (λ changed. changes_in (bytes_at_each (files d) (part_paths (Vector c.args.k) c.args.conf.now.reducers)) ≡ Some changed) (λ changed. count_of mining c.args.k ≡ Some changed) c.count_changed.result (λ changed is. sym (count_is mining c.args.k (files d) (λ q. g.met.S.Dir.now_allowed c.args.site.now q tells) kept few sure) ∙ is) (c.count_changed.ensures.count tells))

pub returns-in-Hcc-clause-stored : goal.returns-in-Hcc-clause-stored
returns-in-Hcc-clause-stored g c =
    λ tells sure.
    let few : c.args.k < 10 ^ 10 = (let most = c.requires.few in omega (arith, most)) in
    c.count_changed.ensures.stored tells few sure

pub returns-in-Hcc-clause-read : goal.returns-in-Hcc-clause-read
returns-in-Hcc-clause-read g c = λ tells sure ends. c.count_changed.ensures.read tells sure
