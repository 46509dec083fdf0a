use Rattle.std.proofs.Common.{ap}
use Rattle.pairs.specs.Taking.{Taken, line_of}
use Rattle.pairs.proofs.HeadLemmas.{lesser_before, greater_not_before}
use Rattle.pairs.proofs.pair_buf.PairBuf.comes_before.Goals as goal

pub returns-in-Less : goal.returns-in-Less
returns-in-Less c =
    let one = c.self.inside in
    let other = c.other.inside in
    lesser_before (line_of one.bytes.items one.head.start one.head.end) (line_of other.bytes.items other.head.start other.head.end) one.head.key other.head.key one.head.prefix other.head.prefix c.args.self.now.head c.args.other.now.head c.cmp.result c.self.invariant.place.has c.other.invariant.place.has (ap (λ (t : Taken). t.head) c.self.view_is) (ap (λ (t : Taken). t.head) c.other.view_is) c.cmp.ensures c.in-Less.is

pub returns-in-Greater : goal.returns-in-Greater
returns-in-Greater c =
    let one = c.self.inside in
    let other = c.other.inside in
    greater_not_before (line_of one.bytes.items one.head.start one.head.end) (line_of other.bytes.items other.head.start other.head.end) one.head.key other.head.key one.head.prefix other.head.prefix c.args.self.now.head c.args.other.now.head c.cmp.result c.self.invariant.place.has c.other.invariant.place.has (ap (λ (t : Taken). t.head) c.self.view_is) (ap (λ (t : Taken). t.head) c.other.view_is) c.cmp.ensures c.in-Greater.is
