use Rattle.std.proofs.Common.{◌≡◌, Bool, subst}
use Rattle.std.specs.Prelude.{IfOk, OnOk, unwrap_or}
use Rattle.dir_disk.specs.Moments.{files}
use Rattle.dir_disk.specs.Streams.{AddsPart, added}
use Rattle.mining.specs.Flow.{Mining, mining_of, most_of}
use Rattle.driver.specs.Opening.{IsFromThere, first_read, from_text}
use Rattle.driver.proofs.Starting.{if_afresh, if_again}
use Rattle.mining.specs.Read.{AreVectorsRead}
use Rattle.driver.proofs.resume.start.Goals as goal

pub returns-then-had_first-clause-is : goal.returns-then-had_first-clause-is
returns-then-had_first-clause-is g c =
    λ k tells from. if_again (most_of c.args.conf.now c.args.conf.now.command) (files (g.S.Dir.told c.args.site.now)) k (λ o. IfOk c.start_again.result (λ reached. reached.k ≡ unwrap_or o 0)) (λ j greatest. c.start_again.ensures.is j tells greatest) (subst (λ (had : Bool). IsFromThere had (most_of c.args.conf.now c.args.conf.now.command) (files (g.S.Dir.told c.args.site.now)) k) c.if-had_first.true from)

pub returns-then-had_first-clause-ok : goal.returns-then-had_first-clause-ok
returns-then-had_first-clause-ok g c =
    λ edges k tells kept from.
    let mining : Mining = mining_of g.S.Site.gives c.args.conf.now edges in
    if_again (most_of c.args.conf.now c.args.conf.now.command) (files (g.S.Dir.told c.args.site.now)) k (λ o. OnOk c.start_again.result ((g.S.Console.said c.start_again.new.site) ≡ added (g.S.Console.said c.args.site.now) (from_text mining o))) (λ j greatest. c.start_again.ensures.ok j tells greatest) (subst (λ (had : Bool). IsFromThere had (most_of c.args.conf.now c.args.conf.now.command) (files (g.S.Dir.told c.args.site.now)) k) c.if-had_first.true from)

pub returns-then-had_first-clause-part : goal.returns-then-had_first-clause-part
returns-then-had_first-clause-part g c =
    λ edges k tells kept from.
    let mining : Mining = mining_of g.S.Site.gives c.args.conf.now edges in
    if_again (most_of c.args.conf.now c.args.conf.now.command) (files (g.S.Dir.told c.args.site.now)) k (λ o. AddsPart (g.S.Console.said c.args.site.now) (g.S.Console.said c.start_again.new.site) (from_text mining o)) (λ j greatest. c.start_again.ensures.part j tells greatest) (subst (λ (had : Bool). IsFromThere had (most_of c.args.conf.now c.args.conf.now.command) (files (g.S.Dir.told c.args.site.now)) k) c.if-had_first.true from)

pub returns-else-had_first-clause-is : goal.returns-else-had_first-clause-is
returns-else-had_first-clause-is g c =
    λ k tells from. if_afresh (most_of c.args.conf.now c.args.conf.now.command) (files (g.S.Dir.told c.args.site.now)) k (λ o. IfOk c.start_afresh.result (λ reached. reached.k ≡ unwrap_or o 0)) (λ none. c.start_afresh.ensures.is tells none) (subst (λ (had : Bool). IsFromThere had (most_of c.args.conf.now c.args.conf.now.command) (files (g.S.Dir.told c.args.site.now)) k) c.if-had_first.false from)

pub returns-else-had_first-clause-ok : goal.returns-else-had_first-clause-ok
returns-else-had_first-clause-ok g c =
    λ edges k tells kept from.
    let mining : Mining = mining_of g.S.Site.gives c.args.conf.now edges in
    if_afresh (most_of c.args.conf.now c.args.conf.now.command) (files (g.S.Dir.told c.args.site.now)) k (λ o. OnOk c.start_afresh.result ((g.S.Console.said c.start_afresh.new.site) ≡ added (g.S.Console.said c.args.site.now) (from_text mining o))) (λ none. c.start_afresh.ensures.ok edges tells kept) (subst (λ (had : Bool). IsFromThere had (most_of c.args.conf.now c.args.conf.now.command) (files (g.S.Dir.told c.args.site.now)) k) c.if-had_first.false from)

pub returns-else-had_first-clause-part : goal.returns-else-had_first-clause-part
returns-else-had_first-clause-part g c =
    λ edges k tells kept from.
    let mining : Mining = mining_of g.S.Site.gives c.args.conf.now edges in
    if_afresh (most_of c.args.conf.now c.args.conf.now.command) (files (g.S.Dir.told c.args.site.now)) k (λ o. AddsPart (g.S.Console.said c.args.site.now) (g.S.Console.said c.start_afresh.new.site) (from_text mining o)) (λ none. c.start_afresh.ensures.part edges tells kept) (subst (λ (had : Bool). IsFromThere had (most_of c.args.conf.now c.args.conf.now.command) (files (g.S.Dir.told c.args.site.now)) k) c.if-had_first.false from)

pub returns-then-had_first-clause-read : goal.returns-then-had_first-clause-read
returns-then-had_first-clause-read g c =
    λ k tells from. if_again (most_of c.args.conf.now c.args.conf.now.command) (files (g.S.Dir.told c.args.site.now)) k (λ o. IfOk c.start_again.result (λ reached. AreVectorsRead c.args.conf.now (first_read c.args.conf.now.command o) reached.k (files (g.S.Dir.told c.start_again.new.site)))) (λ j greatest. c.start_again.ensures.read j tells greatest) (subst (λ (had : Bool). IsFromThere had (most_of c.args.conf.now c.args.conf.now.command) (files (g.S.Dir.told c.args.site.now)) k) c.if-had_first.true from)

pub returns-else-had_first-clause-read : goal.returns-else-had_first-clause-read
returns-else-had_first-clause-read g c =
    λ k tells from. if_afresh (most_of c.args.conf.now c.args.conf.now.command) (files (g.S.Dir.told c.args.site.now)) k (λ o. IfOk c.start_afresh.result (λ reached. AreVectorsRead c.args.conf.now (first_read c.args.conf.now.command o) reached.k (files (g.S.Dir.told c.start_afresh.new.site)))) (λ none. c.start_afresh.ensures.read tells none) (subst (λ (had : Bool). IsFromThere had (most_of c.args.conf.now c.args.conf.now.command) (files (g.S.Dir.told c.args.site.now)) k) c.if-had_first.false from)
