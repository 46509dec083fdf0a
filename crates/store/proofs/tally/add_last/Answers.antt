use Rattle.std.proofs.Common.{◌≡◌, ◌≢◌, [], ap}
use Rattle.peg_text.specs.Records.{records_of}
use Rattle.store.proofs.TallyLemmas.{if_found, if_none, one_record, tallied_all, tallied_last}
use Rattle.store.proofs.tally.add_last.Goals as goal

pub returns-then-not-branch : goal.returns-then-not-branch
returns-then-not-branch g c = record {
  added =
      λ before texts has.
      let none : c.args.held.now ≡ [] = if_none c.in_ok-last.field-0 (c.args.held.now ≡ []) c.if-not-branch.true c.in_ok-last.ensures.none in
      tallied_all g.T.Tally.is_good (g.T.Tally.tallies c.args.tally.now) (g.T.Tally.tallies c.args.tally.now) before c.args.part texts c.args.held.now c.args.line has (ap records_of none);
}

pub returns : goal.returns
returns g c = record {
  added =
      λ before texts has.
      let held = c.args.held.now in
      let text = c.last.new.line.items in
      let is : text ≡ held = if_found c.in_ok-last.field-0 (text ≡ held) c.if-not-branch.false c.in_ok-last.ensures.found in
      let some : held ≢ [] = if_found c.in_ok-last.field-0 (held ≢ []) c.if-not-branch.false c.in_ok-last.ensures.some in
      tallied_last g.T.Tally.is_good (g.T.Tally.tallies c.args.tally.now) (g.T.Tally.tallies c.add.new.self) before c.args.part texts held text c.deref.result.now c.args.line c.in_ok-good.good has (one_record held text c.requires.unbroken is some) c.deref.ensures.value c.in_ok-good.ensures.good c.in_ok-good.ensures.added;
}
