-- The entries of the record's edge are written. No group is open, so nothing has to be written at once.
use Rattle.std.proofs.Common.{List, ℕ, Option, ap}
use Rattle.gimv_base.specs.Parts.{joined}
use Rattle.gimv_base.specs.Records.{edge_record_of}
use Rattle.gimv_base.specs.Rules.{text_part, role_out}
use Rattle.gimv_base.specs.BaseRules.{entries_rule}
use Rattle.gimv_base.specs.EdgeTexts.{unit_entries}
use Rattle.gimv_base.proofs.PartLemmas.{goes_on_with_none}
use Rattle.gimv_base.proofs.EdgeTexts.{entries_by_texts}
use Rattle.gimv_base.proofs.entries.EntriesRoleRole.line.Goals as goal

pub returns-clause-ok : goal.returns-clause-ok
returns-clause-ok c =
    let both = c.args.self.now.both in
    let source = c.in-Some.source.now in
    let target = c.in-Some.target.now in
    let written = entries_by_texts both (edge_record_of c.args.text.now) source target c.in-Some.ensures.is in record {
      added = unit_entries both source target;
      grown = c.in_ok-append_entries.ensures.ok;
      on = λ later. ap (λ (text : Option (List ℕ)). joined (text_part text) 1 (role_out (entries_rule both) later)) written;
    }

pub returns-clause-prompt : goal.returns-clause-prompt
returns-clause-prompt c = λ _. goes_on_with_none _ _ _ c.in_ok-append_entries.ensures.ok
