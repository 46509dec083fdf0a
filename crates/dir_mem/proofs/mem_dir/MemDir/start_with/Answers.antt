use Rattle.std.proofs.Common.{Some}
use Rattle.dir_mem.specs.declared.log.Change.{Change}
use Rattle.dir_mem.specs.Log.{state_of}
use Rattle.dir_mem.proofs.ListLemmas.{listed_change}
use Rattle.dir_mem.proofs.mem_dir.MemDir.start_with.Goals as goal

pub add_change-requires-clause-listed : goal.add_change-requires-clause-listed
add_change-requires-clause-listed c =
    let change : Change = record { path = c.args.path; now = Some c.args.bytes; may = Some c.push.new.self } in
    listed_change c.list_one.new.self.paths.items change (state_of c.list_one.new.self.steps.items) c.in_ok-list_one.ensures.listed c.list_one.new.self.listed
