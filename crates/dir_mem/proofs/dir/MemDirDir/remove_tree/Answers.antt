use Rattle.dir_disk.specs.State.{after_remove}
use Rattle.dir_mem.specs.Log.{state_of}
use Rattle.dir_mem.proofs.SoundLemmas.{open_call, open_remove}
use Rattle.dir_mem.proofs.dir.MemDirDir.remove_tree.Goals as goal

pub finish-requires-clause-open_ends : goal.finish-requires-clause-open_ends
finish-requires-clause-open_ends c =
    let old = c.args.self.now in
    let top = c.args.path.now in
    open_call old.lent.items c.in-Ok.changes.items c.deref.result.now old.steps.items (after_remove top) c.deref.ensures.value c.in-Ok.ensures (open_remove old.lent.items top (state_of old.steps.items) c.requires old.open_ends)
