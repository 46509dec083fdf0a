use Rattle.dir_mem.specs.Log.{state_of}
use Rattle.dir_mem.proofs.MoveLemmas.{moved}
use Rattle.dir_mem.proofs.effects.moving.Goals as goal

pub returns : goal.returns
returns c =
    moved c.args.from.now c.args.to.now c.in_ok-changes.changes.items c.in_ok-leaving.leaving.items c.append.new.self.items (state_of c.args.steps.now) c.in_ok-append.ensures.items c.requires.can.apart c.in_ok-changes.ensures.made c.in_ok-changes.ensures.within c.in_ok-leaving.ensures
