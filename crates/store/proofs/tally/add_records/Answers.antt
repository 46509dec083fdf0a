use Rattle.std.proofs.Common.{◌≡◌, ◌∙◌, ◌++◌, ◌+◌, ◌∷◌, List, [], ℕ, true, false, sym, ap, subst, refl, arith}
use Rattle.peg_text.specs.Records.{BeginsWithRecord, TakesFirstRecord, records_of}
use Rattle.store.specs.Parts.{Record}
use Rattle.store.proofs.TallyLemmas.{if_found, shorter, tallied_more, tallied_bad}
use Rattle.store.proofs.tally.add_records.Goals as goal

pub returns-then-not-branch-clause-added : goal.returns-then-not-branch-clause-added
returns-then-not-branch-clause-added g c =
    λ before texts more has.
    let line = c.next.new.line.items in
    let first : TakesFirstRecord c.loop-text.held line c.next.new.self = if_found c.in_ok-next.field-0 (TakesFirstRecord c.loop-text.held line c.next.new.self) c.if-branch.true c.in_ok-next.ensures.records in
    let bad : g.T.Tally.is_good line ≡ false = ap g.T.Tally.is_good (sym c.deref.ensures.value) ∙ sym c.in_ok-add.ensures.good ∙ c.if-not-branch.true in
    tallied_bad g.T.Tally.is_good (g.T.Tally.tallies c.loop-text.tally) (g.T.Tally.tallies c.loop-text.tally) before c.args.part texts (c.loop-text.held ++ more) line (records_of (c.next.new.self ++ more)) c.loop-text.line (c.loop-text.invariant.added before texts more has) (first more) bad

pub loop-text-preserved : goal.loop-text-preserved
loop-text-preserved g c =
    let line = c.next.new.line.items in
    let begins : BeginsWithRecord c.loop-text.held line c.next.new.self = if_found c.in_ok-next.field-0 (BeginsWithRecord c.loop-text.held line c.next.new.self) c.if-branch.true c.in_ok-next.ensures.found in
    let first : TakesFirstRecord c.loop-text.held line c.next.new.self = if_found c.in_ok-next.field-0 (TakesFirstRecord c.loop-text.held line c.next.new.self) c.if-branch.true c.in_ok-next.ensures.records in
    record {
      few = omega (arith, c.loop-text.invariant.few, shorter c.loop-text.held line c.next.new.self begins);
      added =
          λ before texts more has.
          let good : g.T.Tally.is_good line ≡ true = ap g.T.Tally.is_good (sym c.deref.ensures.value) ∙ sym c.in_ok-add.ensures.good ∙ c.if-not-branch.false in
          let Added : List ℕ → Type 0 = λ text. (earlier : List Record) → g.T.Tally.tallies c.loop-text.tally earlier → g.T.Tally.tallies c.add.new.self (earlier ++ record { part = c.args.part; line = c.loop-text.line; text = text } ∷ []) in
          let added : Added line = subst Added c.deref.ensures.value (if_found c.in_ok-add.field-0 (Added c.deref.result.now) c.if-not-branch.false c.in_ok-add.ensures.added) in
          tallied_more g.T.Tally.is_good (g.T.Tally.tallies c.loop-text.tally) (g.T.Tally.tallies c.add.new.self) before c.args.part texts (c.loop-text.held ++ more) (c.next.new.self ++ more) line c.loop-text.line (c.loop-text.line + 1) (c.loop-text.invariant.added before texts more has) (first more) good added refl;
    }
