use Rattle.std.proofs.Common.{List, refl, sym, ap, subst}
use Rattle.dir_disk.specs.State.{Held, after_move}
use Rattle.dir_disk.specs.Calls.{Move}
use Rattle.dir_mem.specs.declared.log.Change.{Change}
use Rattle.dir_mem.specs.Log.{after_changes, state_of}
use Rattle.dir_mem.specs.Effects.{Leads}
use Rattle.dir_mem.specs.Sound.{IsSoundState, HasNoTop}
use Rattle.dir_mem.proofs.CallLemmas.{breaks_newest, does_fail, does_ok}
use Rattle.dir_mem.proofs.SoundLemmas.{leads_from, no_top_call, no_top_move, open_call, open_move, sound_call, sound_move}
use Rattle.dir_mem.proofs.dir.MemDirDir.move_tree.Goals as goal

pub break_off-requires-clause-sound : goal.break_off-requires-clause-sound
break_off-requires-clause-sound c =
    let old = c.args.self.now in
    let from = c.args.from.now in
    let to = c.args.to.now in
    subst (λ (cs : List Change). IsSoundState (after_changes cs (state_of old.steps.items))) (sym c.deref-then-is_due.ensures.value) (sound_call c.in-Ok.changes.items c.deref.result.now old.steps.items (after_move from to) c.deref.ensures.value c.in-Ok.ensures (sound_move from to (state_of old.steps.items) old.sound))

pub break_off-requires-clause-no_top : goal.break_off-requires-clause-no_top
break_off-requires-clause-no_top c =
    let old = c.args.self.now in
    let from = c.args.from.now in
    let to = c.args.to.now in
    subst (λ (cs : List Change). HasNoTop (after_changes cs (state_of old.steps.items))) (sym c.deref-then-is_due.ensures.value) (no_top_call c.in-Ok.changes.items c.deref.result.now old.steps.items (after_move from to) c.deref.ensures.value c.in-Ok.ensures (no_top_move from to (state_of old.steps.items) c.requires.can.apart.1 old.no_top))

pub finish-requires-clause-sound : goal.finish-requires-clause-sound
finish-requires-clause-sound c =
    let old = c.args.self.now in
    let from = c.args.from.now in
    let to = c.args.to.now in
    sound_call c.in-Ok.changes.items c.deref.result.now old.steps.items (after_move from to) c.deref.ensures.value c.in-Ok.ensures (sound_move from to (state_of old.steps.items) old.sound)

pub finish-requires-clause-no_top : goal.finish-requires-clause-no_top
finish-requires-clause-no_top c =
    let old = c.args.self.now in
    let from = c.args.from.now in
    let to = c.args.to.now in
    no_top_call c.in-Ok.changes.items c.deref.result.now old.steps.items (after_move from to) c.deref.ensures.value c.in-Ok.ensures (no_top_move from to (state_of old.steps.items) c.requires.can.apart.1 old.no_top)

pub finish-requires-clause-open_ends : goal.finish-requires-clause-open_ends
finish-requires-clause-open_ends c =
    let old = c.args.self.now in
    let from = c.args.from.now in
    let to = c.args.to.now in
    open_call old.lent.items c.in-Ok.changes.items c.deref.result.now old.steps.items (after_move from to) c.deref.ensures.value c.in-Ok.ensures (open_move old.lent.items from to (state_of old.steps.items) c.requires.lent_from c.requires.lent_to old.open_ends)

pub returns-then-is_due-clause-call : goal.returns-then-is_due-clause-call
returns-then-is_due-clause-call c =
    let old = c.args.self.now in
    let from = c.args.from.now in
    let to = c.args.to.now in
    let leads : Leads c.deref-then-is_due.result.now (state_of old.steps.items) (after_move from to (state_of old.steps.items)) = subst (λ (cs : List Change). Leads cs (state_of old.steps.items) (after_move from to (state_of old.steps.items))) (sym c.deref-then-is_due.ensures.value) (leads_from c.in-Ok.changes.items c.deref.result.now old.steps.items (after_move from to) c.deref.ensures.value c.in-Ok.ensures) in
    does_fail (Move from to) (after_changes c.deref-then-is_due.result.now (state_of old.steps.items)) from to old.steps.items c.break_off.new.self.steps.items c.break_off.result (λ path. refl) (λ path. ap (λ (h : Held). h.may) (leads path)) c.break_off.ensures.failed c.break_off.ensures.no_memory c.break_off.new.self.sound

pub returns-clause-call : goal.returns-clause-call
returns-clause-call c =
    let old = c.args.self.now in
    does_ok (Move c.args.from.now c.args.to.now) c.in-Ok.changes.items c.deref.result.now old.steps.items c.finish.new.self.steps.items c.finish.result c.deref.ensures.value c.in-Ok.ensures c.finish.ensures.ok c.finish.ensures.err c.finish.ensures.steps

pub returns-then-is_due-clause-newest : goal.returns-then-is_due-clause-newest
returns-then-is_due-clause-newest c =
    let old = c.args.self.now in
    let from = c.args.from.now in
    let to = c.args.to.now in
    breaks_newest (Move from to) (after_changes c.deref-then-is_due.result.now (state_of old.steps.items)) from to old.steps.items c.break_off.new.self.steps.items c.break_off.result (λ path. refl) c.break_off.ensures.failed
