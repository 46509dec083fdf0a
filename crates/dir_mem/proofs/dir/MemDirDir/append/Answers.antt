use Rattle.std.proofs.Common.{◌≡◌, ◌++◌, [], ℕ, Bool, true, false, List, if◌then◌else◌, refl, subst}
use Rattle.std.specs.Prelude.{not}
use Rattle.peg_base.specs.Names.{under, same_path}
use Rattle.dir_disk.specs.State.{Held, after_append, appended, bytes_of}
use Rattle.dir_disk.specs.Calls.{Append}
use Rattle.dir_mem.specs.declared.log.Step.{Step}
use Rattle.dir_mem.specs.Sound.{is_short}
use Rattle.dir_mem.proofs.CallLemmas.{breaks_newest, does_fail, or_same}
use Rattle.dir_mem.specs.Log.{state_of}
use Rattle.dir_mem.proofs.SoundLemmas.{open_call, open_append, sound_call, sound_append_unless}
use Rattle.dir_mem.proofs.dir.MemDirDir.append.Goals as goal

-- what a stop may leave after an append doesn't hang on the bytes
may_appended : (test : Bool) (bytes : List ℕ) (held : Held) → (if test then appended [] held else held).may ≡ (if test then appended bytes held else held).may
may_appended true bytes held = refl
may_appended false bytes held = refl

pub finish-requires-clause-sound : goal.finish-requires-clause-sound
finish-requires-clause-sound c =
    let old = c.args.self.now in
    sound_call c.in-Ok.changes.items c.deref-2.result.now old.steps.items (after_append c.args.path.now c.args.bytes.now) c.deref-2.ensures.value c.in-Ok.ensures (sound_append_unless c.args.path.now c.args.bytes.now (state_of old.steps.items) c.is_too_long.result old.sound (subst (λ (r : List Step). c.is_too_long.result ≡ not (is_short (bytes_of (state_of r c.args.path.now).now ++ c.args.bytes.now))) c.deref.ensures.value c.is_too_long.ensures) c.if-is_too_long.false)

pub finish-requires-clause-open_ends : goal.finish-requires-clause-open_ends
finish-requires-clause-open_ends c =
    let old = c.args.self.now in
    let path = c.args.path.now in
    open_call old.lent.items c.in-Ok.changes.items c.deref-2.result.now old.steps.items (after_append path c.args.bytes.now) c.deref-2.ensures.value c.in-Ok.ensures (open_append old.lent.items path c.args.bytes.now (state_of old.steps.items) c.requires.lent old.open_ends)

pub returns-then-is_due-clause-call : goal.returns-then-is_due-clause-call
returns-then-is_due-clause-call c =
    let old = c.args.self.now in
    let path = c.args.path.now in
    does_fail (Append path c.args.bytes.now) (after_append path [] (state_of old.steps.items)) path path old.steps.items c.break_append.new.self.steps.items c.break_append.result (λ q. or_same (under path q)) (λ q. may_appended (same_path path q) c.args.bytes.now (state_of old.steps.items q)) c.break_append.ensures.failed c.break_append.ensures.no_memory c.break_append.new.self.sound

pub returns-then-is_due-clause-newest : goal.returns-then-is_due-clause-newest
returns-then-is_due-clause-newest c =
    let old = c.args.self.now in
    let path = c.args.path.now in
    breaks_newest (Append path c.args.bytes.now) (after_append path [] (state_of old.steps.items)) path path old.steps.items c.break_append.new.self.steps.items c.break_append.result (λ q. or_same (under path q)) c.break_append.ensures.failed
