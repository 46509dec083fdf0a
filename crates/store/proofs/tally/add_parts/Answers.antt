use Rattle.std.proofs.Common.{◌≡◌, ◌∙◌, subst, arith, rules}
use Rattle.peg_text.specs.Records.{records_of}
use Rattle.dir_disk.specs.Moments.{files}
use Rattle.dir_disk.specs.State.{State, bytes_at}
use Rattle.dir_disk.specs.Calls.{HasFile, IsLength}
use Rattle.dir_disk.proofs.Says.{fresh_call}
use Rattle.store.specs.Parts.{IsFirstBad, records_below}
use Rattle.store.specs.Tallies.{HasAll}
use Rattle.store.proofs.LookLemmas.{looked, looks_more, looks_then}
use Rattle.store.proofs.ComparingLemmas.{sized_there}
use Rattle.store.proofs.PartLemmas.{missing_bad, record_bad, next_good, next_tallied}
use Rattle.store.proofs.tally.add_parts.Goals as goal

pub returns-in_err-size-clause-stands : goal.returns-in_err-size-clause-stands
returns-in_err-size-clause-stands g c =
    λ tells. looks_more c.in_ok-path.path (g.D.Dir.told c.args.dir.now) (g.D.Dir.told c.loop-part.dir) (g.D.Dir.told c.size.new.self) c.size.result (c.loop-part.invariant.stands tells) (c.size.ensures.call tells) (λ q. g.met.D.Dir.now_allowed c.loop-part.dir q tells)

pub returns-then-is_none-clause-bad : goal.returns-then-is_none-clause-bad
returns-then-is_none-clause-bad g c =
    λ tells.
    let entry = files (g.D.Dir.told c.args.dir.now) in
    let here : files (g.D.Dir.told c.loop-part.dir) ≡ entry = looked (g.D.Dir.told c.args.dir.now) (g.D.Dir.told c.loop-part.dir) (c.loop-part.invariant.stands tells) in
    missing_bad g.T.Tally.is_good entry c.args.folder.now c.args.parts c.loop-part.part c.in_ok-path.path (omega arith) c.in_ok-path.ensures (c.loop-part.invariant.good tells) c.in_ok-size.field-0 (subst (λ (s : State). IsLength (s c.in_ok-path.path).now c.in_ok-size.field-0) here (c.in_ok-size.ensures.length tells)) c.if-is_none.ensures

pub returns-in_err-line-clause-stands : goal.returns-in_err-line-clause-stands
returns-in_err-line-clause-stands g c =
    λ tells.
    let a = g.D.Dir.told c.args.dir.now in
    let b = g.D.Dir.told c.size.new.self in
    looks_then a b (g.D.Dir.told c.add_part.new.dir) (looks_more c.in_ok-path.path a (g.D.Dir.told c.loop-part.dir) b c.size.result (c.loop-part.invariant.stands tells) (c.size.ensures.call tells) (λ q. g.met.D.Dir.now_allowed c.loop-part.dir q tells)) (c.add_part.ensures.stands tells)

pub returns-in-Some-clause-bad : goal.returns-in-Some-clause-bad
returns-in-Some-clause-bad g c =
    λ tells.
    let entry = files (g.D.Dir.told c.args.dir.now) in
    let path = c.in_ok-path.path in
    let here : files (g.D.Dir.told c.loop-part.dir) ≡ entry = looked (g.D.Dir.told c.args.dir.now) (g.D.Dir.told c.loop-part.dir) (c.loop-part.invariant.stands tells) in
    let there : HasFile entry path = sized_there (entry path).now c.in_ok-size.field-0 (subst (λ (s : State). IsLength (s path).now c.in_ok-size.field-0) here (c.in_ok-size.ensures.length tells)) c.if-is_none.ensures in
    let now : files (g.D.Dir.told c.size.new.self) ≡ entry = (c.in_ok-size.ensures.call tells).ok.1 ∙ here in
    let bad : IsFirstBad g.T.Tally.is_good (records_of (bytes_at (files (g.D.Dir.told c.size.new.self)) path)) c.in-Some.line = rw c.in-Some.is at (c.in_ok-line.ensures.added tells (records_below entry c.args.folder.now c.loop-part.part) (c.loop-part.invariant.tallied tells)) in
    record_bad g.T.Tally.is_good entry c.args.folder.now c.args.parts c.loop-part.part path (omega arith) c.in_ok-path.ensures (c.loop-part.invariant.good tells) c.in-Some.line there (subst (λ (s : State). IsFirstBad g.T.Tally.is_good (records_of (bytes_at s path)) c.in-Some.line) now bad)

pub returns-in-Some-clause-stands : goal.returns-in-Some-clause-stands
returns-in-Some-clause-stands g c =
    λ tells.
    let a = g.D.Dir.told c.args.dir.now in
    let b = g.D.Dir.told c.size.new.self in
    looks_then a b (g.D.Dir.told c.add_part.new.dir) (looks_more c.in_ok-path.path a (g.D.Dir.told c.loop-part.dir) b c.size.result (c.loop-part.invariant.stands tells) (c.size.ensures.call tells) (λ q. g.met.D.Dir.now_allowed c.loop-part.dir q tells)) (c.add_part.ensures.stands tells)

pub loop-part-preserved : goal.loop-part-preserved
loop-part-preserved g c =
    let a = g.D.Dir.told c.args.dir.now in
    let b = g.D.Dir.told c.size.new.self in
    let path = c.in_ok-path.path in
    let All : State → Type 0 = λ (s : State). HasAll g.T.Tally.is_good (g.T.Tally.tallies c.add_part.new.tally) (records_below (files a) c.args.folder.now c.loop-part.part) c.loop-part.part (records_of (bytes_at s path)) in
    let all : g.D.Dir.tells → All (files a) = λ tells.
    let here : files (g.D.Dir.told c.loop-part.dir) ≡ files a = looked a (g.D.Dir.told c.loop-part.dir) (c.loop-part.invariant.stands tells) in
    let now : files b ≡ files a = (c.in_ok-size.ensures.call tells).ok.1 ∙ here in
    let found : All (files b) = rw c.in_default.is at (c.in_ok-line.ensures.added tells (records_below (files a) c.args.folder.now c.loop-part.part) (c.loop-part.invariant.tallied tells)) in
    subst All now found in
    record {
      tallied = λ tells. next_tallied g.T.Tally.is_good (files a) c.args.folder.now c.args.parts c.loop-part.part path (omega arith) c.in_ok-path.ensures (c.loop-part.invariant.good tells) (g.T.Tally.tallies c.add_part.new.tally) (all tells);
      good =
          λ tells.
          let here : files (g.D.Dir.told c.loop-part.dir) ≡ files a = looked a (g.D.Dir.told c.loop-part.dir) (c.loop-part.invariant.stands tells) in
          let there : HasFile (files a) path = sized_there (files a path).now c.in_ok-size.field-0 (subst (λ (s : State). IsLength (s path).now c.in_ok-size.field-0) here (c.in_ok-size.ensures.length tells)) c.if-is_none.ensures in
          next_good g.T.Tally.is_good (files a) c.args.folder.now c.args.parts c.loop-part.part path (omega arith) c.in_ok-path.ensures (c.loop-part.invariant.good tells) there (all tells).good;
      stands = λ tells. looks_then a b (g.D.Dir.told c.add_part.new.dir) (looks_more path a (g.D.Dir.told c.loop-part.dir) b c.size.result (c.loop-part.invariant.stands tells) (c.size.ensures.call tells) (λ q. g.met.D.Dir.now_allowed c.loop-part.dir q tells)) (c.in_ok-line.ensures.stands tells);
      fresh = λ tells some. c.in_ok-line.ensures.fresh tells (fresh_call (g.D.Dir.told c.loop-part.dir) b (c.in_ok-size.ensures.call tells).ok.0 (λ early late order below. g.met.D.Dir.clock c.loop-part.dir early late tells order below));
      lent = search rules;
      beside = search rules;
      later = search rules;
    }

pub returns-clause-good : goal.returns-clause-good
returns-clause-good g c =
    λ tells part below. c.loop-part.invariant.good tells part (omega arith)
