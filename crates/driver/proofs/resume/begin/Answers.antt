use Rattle.std.proofs.Common.{◌≡◌, List, ℕ, arith, subst}
use Rattle.std.specs.Prelude.{Option}
use Rattle.dir_disk.specs.Moments.{Told, files}
use Rattle.dir_disk.specs.Streams.{AddsPart, added}
use Rattle.mining.specs.declared.place.Place.TheVariants.{Vector}
use Rattle.mining.specs.Flow.{Mining, mining_of}
use Rattle.mining.specs.Iterations.{line_at}
use Rattle.mining.proofs.AckLemmas.{acks_through}
use Rattle.mining.proofs.EnsureLemmas.{looks_stay, sure_same}
use Rattle.mining.proofs.Looks.{same_after}
use Rattle.driver.proofs.TakenUp.{first_line}
use Rattle.mining.specs.Stored.{IsNotAsMade}
use Rattle.mining.proofs.StoredLemmas.{err_is}
use Rattle.driver.proofs.Stored.{exits_none}
use Rattle.std.proofs.Common.{sym}
use Rattle.mining.specs.Read.{IsVectorRead}
use Rattle.driver.proofs.resume.begin.Goals as goal

pub returns-in_err-changed-clause-acked : goal.returns-in_err-changed-clause-acked
returns-in_err-changed-clause-acked g c =
    λ entry had tells sure acks.
    let d : Told = g.S.Dir.told c.args.site.now in
    let e : Told = g.S.Dir.told c.count_changed.new.site in
    acks_through had entry d e (g.S.Console.says c.args.site.now) (g.S.Console.says c.count_changed.new.site) c.count_changed.ensures.says (looks_stay d e (c.count_changed.ensures.stands tells)) acks

pub returns-in_err-say_iteration-clause-acked : goal.returns-in_err-say_iteration-clause-acked
returns-in_err-say_iteration-clause-acked g c =
    λ entry had tells sure acks.
    let d : Told = g.S.Dir.told c.args.site.now in
    let e : Told = g.S.Dir.told c.count_changed.new.site in
    c.say_iteration.ensures.acked entry had tells (omega arith) (sure_same (Vector 0) (files d) (files e) (same_after d e (c.count_changed.ensures.stands tells) _) sure) (c.in_ok-changed.ensures.fresh tells) (acks_through had entry d e (g.S.Console.says c.args.site.now) (g.S.Console.says c.count_changed.new.site) c.count_changed.ensures.says (looks_stay d e (c.count_changed.ensures.stands tells)) acks)

pub returns-clause-acked : goal.returns-clause-acked
returns-clause-acked g c =
    λ entry had tells sure acks.
    let d : Told = g.S.Dir.told c.args.site.now in
    let e : Told = g.S.Dir.told c.count_changed.new.site in
    c.say_iteration.ensures.acked entry had tells (omega arith) (sure_same (Vector 0) (files d) (files e) (same_after d e (c.count_changed.ensures.stands tells) _) sure) (c.in_ok-changed.ensures.fresh tells) (acks_through had entry d e (g.S.Console.says c.args.site.now) (g.S.Console.says c.count_changed.new.site) c.count_changed.ensures.says (looks_stay d e (c.count_changed.ensures.stands tells)) acks)

pub returns-in_err-say_iteration-clause-part : goal.returns-in_err-say_iteration-clause-part
returns-in_err-say_iteration-clause-part g c =
    λ edges tells kept sure.
    let mining : Mining = mining_of g.S.Site.gives c.args.conf.now edges in
    let line = first_line mining (files (g.S.Dir.told c.args.site.now)) c.in_ok-changed.changed (λ q. g.met.S.Dir.now_allowed c.args.site.now q tells) kept sure (c.in_ok-changed.ensures.count tells) in
    subst (λ (said : Option (List ℕ)). AddsPart said (g.S.Console.said c.say_iteration.new.site) (line_at mining 0)) c.count_changed.ensures.said (subst (λ (text : List ℕ). AddsPart (g.S.Console.said c.count_changed.new.site) (g.S.Console.said c.say_iteration.new.site) text) line c.say_iteration.ensures.part)

pub returns-clause-part : goal.returns-clause-part
returns-clause-part g c =
    λ edges tells kept sure.
    let mining : Mining = mining_of g.S.Site.gives c.args.conf.now edges in
    let line = first_line mining (files (g.S.Dir.told c.args.site.now)) c.in_ok-changed.changed (λ q. g.met.S.Dir.now_allowed c.args.site.now q tells) kept sure (c.in_ok-changed.ensures.count tells) in
    subst (λ (said : Option (List ℕ)). AddsPart said (g.S.Console.said c.say_iteration.new.site) (line_at mining 0)) c.count_changed.ensures.said (subst (λ (text : List ℕ). AddsPart (g.S.Console.said c.count_changed.new.site) (g.S.Console.said c.say_iteration.new.site) text) line c.say_iteration.ensures.part)

pub returns-clause-ok : goal.returns-clause-ok
returns-clause-ok g c =
    λ edges tells kept sure.
    let mining : Mining = mining_of g.S.Site.gives c.args.conf.now edges in
    let line = first_line mining (files (g.S.Dir.told c.args.site.now)) c.in_ok-changed.changed (λ q. g.met.S.Dir.now_allowed c.args.site.now q tells) kept sure (c.in_ok-changed.ensures.count tells) in
    subst (λ (said : Option (List ℕ)). g.S.Console.said c.say_iteration.new.site ≡ added said (line_at mining 0)) c.count_changed.ensures.said (subst (λ (text : List ℕ). g.S.Console.said c.say_iteration.new.site ≡ added (g.S.Console.said c.count_changed.new.site) text) line c.in_ok-say_iteration.ensures.ok)

pub returns-in_err-changed-clause-stored : goal.returns-in_err-changed-clause-stored
returns-in_err-changed-clause-stored g c =
    λ tells sure. err_is (IsNotAsMade c.args.conf.now (files (g.S.Dir.told c.count_changed.new.site))) c.from_residual.result c.in_err-changed.field-0.0 c.from_residual.ensures.1 (c.in_err-changed.ensures.stored tells (omega arith) sure)

pub returns-in_err-say_iteration-clause-stored : goal.returns-in_err-say_iteration-clause-stored
returns-in_err-say_iteration-clause-stored g c =
    λ tells sure. exits_none (IsNotAsMade c.args.conf.now (files (g.S.Dir.told c.say_iteration.new.site))) c.from_residual-in_err-say_iteration.result c.in_err-say_iteration.field-0.0 c.from_residual-in_err-say_iteration.ensures.1 c.in_err-say_iteration.ensures.no_store

pub returns-clause-read : goal.returns-clause-read
returns-clause-read g c =
    λ tells sure. subst (λ (t : Told). IsVectorRead c.args.conf.now 0 (files t)) (sym (c.say_iteration.ensures.told tells)) (c.in_ok-changed.ensures.read tells sure)
