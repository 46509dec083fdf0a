use Rattle.std.proofs.Common.{ap, ◌∙◌}
use Rattle.gimv_block.specs.MatrixEntries.{entry_of}
use Rattle.gimv_block.specs.BlockRecords.{block_pair_of}
use Rattle.gimv_block.proofs.ListingLemmas.{listing_begins}
use Rattle.gimv_block.proofs.blocks_role.BlockPairsGrouping.begin.Goals as goal

pub returns-clause-ok : goal.returns-clause-ok
returns-clause-ok c =
    listing_begins c.in-Some.column_block c.in-Some.row_block (entry_of c.in-Some-read_cut.entry) c.args.text.now c.args.out.now.items c.append_head.new.out.items c.append_item.new.out.items
    (c.in-Some.ensures ∙ ap block_pair_of c.split_pair.ensures.key) c.in-Some-read_cut.ensures c.in_ok-append_head.ensures.ok c.in_ok-append_item.ensures.ok
