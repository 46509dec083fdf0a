use Rattle.std.proofs.Common.{◌≡◌, ◌+◌, ◌*◌, ◌≤◌, sym, ap, ◌∙◌, length, option_map, arith}
use Rattle.std.specs.List.{list_all}
use Rattle.gimv_block.proofs.SendLemmas.{values_fit, values_within, if_some_is}
use Rattle.gimv_block.specs.BlockRecords.{block_record_of}
use Rattle.gimv_block.proofs.unblock.UnblockRole.line.Goals as goal

pub append_numbers-requires-clause-fit : goal.append_numbers-requires-clause-fit
append_numbers-requires-clause-fit g c =
    let a = g.G.Gimv.algebra c.args.self.now.algorithm in
    if_some_is _ (block_record_of a c.args.self.now.blocks.len c.args.self.now.blocks.nodes c.args.text.now) (c.in-Some.block, c.in-Some.vals.items)
    (sym c.in_ok-block.ensures.is ∙ ap (option_map (λ block. (block.0, block.1.items))) c.in-Some.is)
    (values_fit a (g.met.G.Gimv.lawful c.args.self.now.algorithm) c.args.self.now.blocks.len c.args.self.now.blocks.nodes c.args.text.now)

pub append_numbers-requires-clause-few : goal.append_numbers-requires-clause-few
append_numbers-requires-clause-few g c =
    let a = g.G.Gimv.algebra c.args.self.now.algorithm in
    let within = if_some_is (λ block. block.0 * c.args.self.now.blocks.len + length block.1 ≤ c.args.self.now.blocks.nodes) (block_record_of a c.args.self.now.blocks.len c.args.self.now.blocks.nodes c.args.text.now) (c.in-Some.block, c.in-Some.vals.items)
    (sym c.in_ok-block.ensures.is ∙ ap (option_map (λ block. (block.0, block.1.items))) c.in-Some.is)
    (values_within a (g.met.G.Gimv.lawful c.args.self.now.algorithm) c.args.self.now.blocks.len c.args.self.now.blocks.nodes c.args.text.now c.start.ensures.some) in
    omega (arith, within, c.start.ensures.is, c.start.ensures.few)
