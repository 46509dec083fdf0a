use Rattle.std.proofs.Common.{◌≡◌, List, Vec, Global, ap, sym, ◌∙◌, subst}
use Rattle.dir_disk.specs.State.{State}
use Rattle.dir_mem.specs.declared.log.Step.{Step}
use Rattle.dir_mem.specs.declared.mem_dir.Lending.{Lending}
use Rattle.dir_mem.specs.Log.{after_changes, state_of}
use Rattle.dir_mem.specs.Sound.{IsSoundState, LendsOpen}
use Rattle.dir_mem.specs.Effects.{Leads, after_break}
use Rattle.dir_mem.proofs.SoundLemmas.{sound_same, sound_break, open_pointwise, open_break}
use Rattle.dir_mem.proofs.mem_dir.MemDir.break_off.Goals as goal

pub finish-requires-clause-sound : goal.finish-requires-clause-sound
finish-requires-clause-sound c =
    let old = c.args.self.now in
    let top = c.args.top.now in
    let other = c.args.other.now in
    let broken = c.in-Ok-breaking.broken.items in
    let fault : State = after_changes c.args.changes.now (state_of old.steps.items) in
    let same : c.list.new.self.steps.items ≡ old.steps.items = ap (λ (v : Vec Step Global). v.items) c.list.ensures.steps in
    let leads : Leads broken (state_of old.steps.items) (after_break top other fault (state_of old.steps.items)) = subst (λ (r : List Step). Leads broken (state_of r) (after_break top other (after_changes c.args.changes.now (state_of r)) (state_of r))) (c.deref.ensures.value ∙ same) c.in-Ok-breaking.ensures in
    subst (λ (r : List Step). IsSoundState (after_changes broken (state_of r))) (sym same) (sound_same (after_break top other fault (state_of old.steps.items)) (after_changes broken (state_of old.steps.items)) leads (sound_break top other fault (state_of old.steps.items) c.requires.sound old.sound))

pub finish-requires-clause-open_ends : goal.finish-requires-clause-open_ends
finish-requires-clause-open_ends c =
    let old = c.args.self.now in
    let top = c.args.top.now in
    let other = c.args.other.now in
    let broken = c.in-Ok-breaking.broken.items in
    let fault : State = after_changes c.args.changes.now (state_of old.steps.items) in
    let same : c.list.new.self.steps.items ≡ old.steps.items = ap (λ (v : Vec Step Global). v.items) c.list.ensures.steps in
    let leads : Leads broken (state_of old.steps.items) (after_break top other fault (state_of old.steps.items)) = subst (λ (r : List Step). Leads broken (state_of r) (after_break top other (after_changes c.args.changes.now (state_of r)) (state_of r))) (c.deref.ensures.value ∙ same) c.in-Ok-breaking.ensures in
    let opens : LendsOpen old.lent.items (after_changes broken (state_of old.steps.items)) = open_pointwise old.lent.items (after_break top other fault (state_of old.steps.items)) (after_changes broken (state_of old.steps.items)) leads (open_break old.lent.items top other fault (state_of old.steps.items) c.requires.free_top c.requires.free_other old.open_ends) in
    subst (λ (r : List Step). LendsOpen c.list.new.self.lent.items (after_changes broken (state_of r))) (sym same) (subst (λ (l : Vec Lending Global). LendsOpen l.items (after_changes broken (state_of old.steps.items))) (sym c.list.ensures.lent) opens)
