use Rattle.std.proofs.Common.{◌≡◌, ◌∙◌, ℕ, List, sym, ap, subst}
use Rattle.std.specs.Prelude.{Option}
use Rattle.dir_disk.specs.Moments.{EachImage, Through, Told}
use Rattle.dir_disk.specs.Streams.{AddsPart, added}
use Rattle.dir_disk.proofs.Through.{then_goes}
use Rattle.committer.specs.Paths.{success_of}
use Rattle.mining.specs.declared.place.Place.TheVariants.{Vector}
use Rattle.mining.specs.Places.{folder_of}
use Rattle.mining.specs.Flow.{Mining, mining_of}
use Rattle.mining.specs.Kept.{Kept}
use Rattle.mining.specs.Iterations.{IsAt, line_at}
use Rattle.mining.proofs.AckLemmas.{acks_through}
use Rattle.mining.proofs.EnsureLemmas.{kept_after, looks_keep, looks_stay, stays_then}
use Rattle.mining.proofs.Looks.{same_after}
use Rattle.driver.proofs.TakenUp.{ok_always}
use Rattle.dir_disk.specs.State.{Held}
use Rattle.driver.proofs.Starting.{looked_firm, looked_sure}
use Rattle.dir_disk.specs.Moments.{files}
use Rattle.mining.specs.Stored.{IsNotAsMade}
use Rattle.mining.proofs.StoredLemmas.{err_is}
use Rattle.std.proofs.Common.{arith}
use Rattle.driver.proofs.Vectors.{afresh_read, read_on}
use Rattle.driver.proofs.resume.start_afresh.Goals as goal

pub after_first-requires-clause-firm : goal.after_first-requires-clause-firm
after_first-requires-clause-firm g c =
    λ tells. looked_firm (g.S.Dir.told c.args.site.now) (g.S.Dir.told c.begin.new.site) (c.begin.ensures.stands tells) (c.requires.firm tells)

pub after_first-requires-clause-sure : goal.after_first-requires-clause-sure
after_first-requires-clause-sure g c =
    λ tells. looked_sure (Vector 0) (g.S.Dir.told c.args.site.now) (g.S.Dir.told c.begin.new.site) (c.begin.ensures.stands tells) (c.requires.sure tells)

pub returns-in_err-first-clause-stays : goal.returns-in_err-first-clause-stays
returns-in_err-first-clause-stays g c =
    λ tells. looks_stay (g.S.Dir.told c.args.site.now) (g.S.Dir.told c.begin.new.site) (c.begin.ensures.stands tells)

pub returns-in_err-first-clause-kept : goal.returns-in_err-first-clause-kept
returns-in_err-first-clause-kept g c =
    λ edges tells kept. looks_keep (mining_of g.S.Site.gives c.args.conf.now edges) (g.S.Dir.told c.args.site.now) (g.S.Dir.told c.begin.new.site) kept (c.begin.ensures.stands tells)

pub returns-in_err-first-clause-acked : goal.returns-in_err-first-clause-acked
returns-in_err-first-clause-acked g c =
    λ entry had tells acks. c.begin.ensures.acked entry had tells (c.requires.sure tells) acks

pub returns-in_err-first-clause-part : goal.returns-in_err-first-clause-part
returns-in_err-first-clause-part g c =
    λ edges tells kept. c.begin.ensures.part edges tells kept (c.requires.sure tells)

pub returns-clause-stays : goal.returns-clause-stays
returns-clause-stays g c =
    λ tells. stays_then (g.S.Dir.told c.args.site.now) (g.S.Dir.told c.begin.new.site) (g.S.Dir.told c.after_first.new.site) (looks_stay (g.S.Dir.told c.args.site.now) (g.S.Dir.told c.begin.new.site) (c.begin.ensures.stands tells)) (c.after_first.ensures.stays tells)

pub returns-clause-kept : goal.returns-clause-kept
returns-clause-kept g c =
    λ edges tells kept.
    let mining : Mining = mining_of g.S.Site.gives c.args.conf.now edges in
    let first : Through (EachImage (Kept mining)) (g.S.Dir.told c.args.site.now) (g.S.Dir.told c.begin.new.site) = looks_keep mining (g.S.Dir.told c.args.site.now) (g.S.Dir.told c.begin.new.site) kept (c.begin.ensures.stands tells) in
    then_goes (EachImage (Kept mining)) (g.S.Dir.told c.args.site.now) (g.S.Dir.told c.begin.new.site) (g.S.Dir.told c.after_first.new.site) first (c.after_first.ensures.kept edges tells (kept_after mining (g.S.Dir.told c.args.site.now) (g.S.Dir.told c.begin.new.site) kept first))

pub returns-clause-at : goal.returns-clause-at
returns-clause-at g c =
    λ edges tells kept.
    let mining : Mining = mining_of g.S.Site.gives c.args.conf.now edges in
    let first : Through (EachImage (Kept mining)) (g.S.Dir.told c.args.site.now) (g.S.Dir.told c.begin.new.site) = looks_keep mining (g.S.Dir.told c.args.site.now) (g.S.Dir.told c.begin.new.site) kept (c.begin.ensures.stands tells) in
    c.after_first.ensures.at edges tells (kept_after mining (g.S.Dir.told c.args.site.now) (g.S.Dir.told c.begin.new.site) kept first) (subst (λ (k : ℕ). IsAt mining k c.in_ok-first.first.changed) (sym c.in_ok-first.ensures.is) (c.in_ok-first.ensures.at edges))

pub returns-clause-acked : goal.returns-clause-acked
returns-clause-acked g c =
    λ entry had tells acks. acks_through had entry (g.S.Dir.told c.begin.new.site) (g.S.Dir.told c.after_first.new.site) (g.S.Console.says c.begin.new.site) (g.S.Console.says c.after_first.new.site) c.after_first.ensures.says (c.after_first.ensures.stays tells) (c.begin.ensures.acked entry had tells (c.requires.sure tells) acks)

pub returns-clause-is : goal.returns-clause-is
returns-clause-is g c =
    λ tells none. c.after_first.ensures.is tells (ap (λ (h : Held). h.now) (same_after (g.S.Dir.told c.args.site.now) (g.S.Dir.told c.begin.new.site) (c.begin.ensures.stands tells) (success_of (folder_of (Vector 1)))) ∙ none)

pub returns-clause-ok : goal.returns-clause-ok
returns-clause-ok g c =
    λ edges tells kept.
    let mining : Mining = mining_of g.S.Site.gives c.args.conf.now edges in
    ok_always ((g.S.Console.said c.after_first.new.site) ≡ added (g.S.Console.said c.args.site.now) (line_at mining 0)) c.after_first.result (c.after_first.ensures.said ∙ c.in_ok-first.ensures.ok edges tells kept (c.requires.sure tells))

pub returns-clause-part : goal.returns-clause-part
returns-clause-part g c =
    λ edges tells kept.
    let mining : Mining = mining_of g.S.Site.gives c.args.conf.now edges in
    subst (λ (said : Option (List ℕ)). AddsPart (g.S.Console.said c.args.site.now) said (line_at mining 0)) (sym c.after_first.ensures.said) (c.begin.ensures.part edges tells kept (c.requires.sure tells))

pub returns-in_err-first-clause-stored : goal.returns-in_err-first-clause-stored
returns-in_err-first-clause-stored g c =
    λ tells. err_is (IsNotAsMade c.args.conf.now (files (g.S.Dir.told c.begin.new.site))) c.from_residual.result c.in_err-first.field-0.0 c.from_residual.ensures.1 (c.in_err-first.ensures.stored tells (c.requires.sure tells))

pub returns-clause-read : goal.returns-clause-read
returns-clause-read g c =
    λ tells none.
    let d : Told = g.S.Dir.told c.args.site.now in
    let e : Told = g.S.Dir.told c.begin.new.site in
    let f : Told = g.S.Dir.told c.after_first.new.site in
    let none_then = ap (λ (h : Held). h.now) (same_after d e (c.begin.ensures.stands tells) (success_of (folder_of (Vector 1)))) ∙ none in
    afresh_read c.args.conf.now (files f) c.after_first.result (c.after_first.ensures.is tells none_then) (read_on c.args.conf.now 0 e f c.after_first.result (omega arith) (c.after_first.ensures.stays tells) (c.in_ok-first.ensures.read tells (c.requires.sure tells)))
