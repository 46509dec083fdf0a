use Rattle.std.proofs.Common.{List, ◌∙◌, sym, ap}
use Rattle.dir_disk.specs.State.{State}
use Rattle.dir_disk.specs.Moments.{files}
use Rattle.dir_mem.specs.declared.log.Step.{Step}
use Rattle.dir_mem.specs.Facts.{present}
use Rattle.dir_mem.specs.Log.{state_of, told_by}
use Rattle.dir_mem.proofs.LookLemmas.{found_there}
use Rattle.dir_mem.proofs.mem_dir.MemDir.has_file.Goals as goal

pub returns-clause-there : goal.returns-clause-there
returns-clause-there c =
    let steps = c.args.self.now.steps.items in
    let path = c.args.path.now in
    found_there c.is_some.result c.content_at.result (files (told_by steps) path).now c.is_some.ensures (c.content_at.ensures ∙ ap (λ (r : List Step). (state_of r path).now) c.deref.ensures.value ∙ sym (ap (λ (s : State). (s path).now) (present steps)))
