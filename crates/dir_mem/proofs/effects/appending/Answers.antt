use Rattle.std.proofs.Common.{◌∷◌, ◌++◌, [], List, ◌∙◌, ap}
use Rattle.dir_disk.specs.State.{appended}
use Rattle.dir_mem.specs.declared.log.Change.{Change}
use Rattle.dir_mem.specs.Log.{state_of}
use Rattle.dir_mem.proofs.EffectLemmas.{one_change}
use Rattle.dir_mem.proofs.effects.appending.Goals as goal

pub returns : goal.returns
returns c =
    let change = c.in_ok-append_of.field-0 in
    one_change (appended c.args.bytes.now) c.push.new.self.items change c.args.path.now (state_of c.args.steps.now) (c.in_ok-push.ensures.items ∙ ap (λ (cs : List Change). cs ++ change ∷ []) c.new-changes.ensures.items) c.in_ok-append_of.ensures.path c.in_ok-append_of.ensures.made
