use Rattle.std.proofs.Common.{is_lt, rules}
use Rattle.std.proofs.lemmas.Fn.{always_returns_same}
use Rattle.std.proofs.lemmas.List.Sorted.{All-permutation, ranks_by}
use Rattle.spill.specs.Lines.{IsEntry, entry_cmp}
use Rattle.spill.proofs.EntryLemmas.{entries_sorted, key_cmp_total, sort_key}
use Rattle.spill.proofs.chunk.sort_entries.Goals as goal

pub returns-clause-are : goal.returns-clause-are
returns-clause-are c =
    All-permutation (IsEntry c.args.text.now) c.args.entries.now.items c.sort_unstable_by.new.self.items c.sort_unstable_by.ensures.permutation c.requires

pub returns-clause-sorted : goal.returns-clause-sorted
returns-clause-sorted c =
    let text = c.args.text.now in
    let before = c.args.entries.now.items in
    let after = c.sort_unstable_by.new.self.items in
    let same = c.sort_unstable_by.ensures.permutation in
    entries_sorted text before after (All-permutation (IsEntry text) before after same c.requires) same (c.sort_unstable_by.ensures.sorted (λ x y. is_lt (entry_cmp text x y)) (ranks_by key_cmp_total (sort_key text)) (always_returns_same _ _ _ (λ a r f k. search rules)))
