use Rattle.std.proofs.Common.{arith}
use Rattle.dir_mem.proofs.ListLemmas.{all_more, all_done}
use Rattle.dir_mem.proofs.log.list_paths.Goals as goal

pub loop-change-preserved : goal.loop-change-preserved
loop-change-preserved c = record {
  kept = λ path was. c.list_path.ensures.kept path (c.loop-change.invariant.kept path was);
  listed = all_more c.loop-change.paths.items c.list_path.new.paths.items c.args.changes.now c.loop-change.change-index c.change-item.result c.list_path.ensures.kept c.loop-change.invariant.listed c.loop-change-test.true c.change-item.is c.in_ok-list_path.ensures.listed;
}

pub returns-clause-listed : goal.returns-clause-listed
returns-clause-listed c =
    λ path unlisted. all_done c.loop-change.paths.items c.args.changes.now c.loop-change.change-index path (omega arith) c.loop-change.invariant.listed unlisted
