use Rattle.std.proofs.Common.{◌++◌, ◌+◌, ◌≤◌, ℕ, List, length}
use Rattle.store.specs.Parts.{Record}
use Rattle.store.specs.Tallies.{HasTallied}
use Rattle.store.proofs.tally.add_records.Given as goal

abbrev pub invariant-loop-text : goal.invariant-loop-text
invariant-loop-text g l =
    record {
      few : l.line + length l.held ≤ l.fn.line + length l.fn.held;
      added : (before : List Record) (texts : List (List ℕ)) (more : List ℕ) → HasTallied g.T.Tally.is_good (g.T.Tally.tallies l.fn.tally) before l.part texts (l.fn.held ++ more) l.fn.line → HasTallied g.T.Tally.is_good (g.T.Tally.tallies l.tally) before l.part texts (l.held ++ more) l.line;
    }

abbrev pub decreases-loop-text : goal.decreases-loop-text
decreases-loop-text g l = length l.held
