-- What is there after Ok may be there after a stop, where that held before.
use Rattle.std.proofs.Common.{ℕ, Bool, true, false, if◌then◌else◌, inl, List, [], ◌∷◌, ◌++◌, Some, None, refl}
use Rattle.peg_base.specs.Names.{under, same_path, after_top}
use Rattle.dir_disk.specs.State.{Member, Gone, Exactly, Anything, Content, Admits, Allows, Held, State, IsSound, just, appended, removed_from, removed, settled, arrival, moved_to}
use Rattle.dir_disk.specs.Calls.{Call, Look, Append, Move, Remove, Settle, after}

chosen : (test : Bool) (h k : Held) → Allows h.may h.now → Allows k.may k.now → Allows (if test then h else k).may (if test then h else k).now
chosen true h k first second = first
chosen false h k first second = second

removed_sound : (now : Content) (h : Held) → Allows h.may h.now → Allows (removed_from now h).may (removed_from now h).now
removed_sound None h sound = sound
removed_sound (Some bytes) h sound = inl refl

pub arrival_admits : (may : List Member) (bytes : List ℕ) → Admits (arrival may bytes) (Some bytes)
arrival_admits [] bytes = refl
arrival_admits (Gone ∷ may) bytes = refl
arrival_admits (Anything ∷ may) bytes = refl
arrival_admits (Exactly old ∷ []) bytes = refl
arrival_admits (Exactly old ∷ (member ∷ may)) bytes = refl

moved_sound : (now : Content) (may : List Member) (h : Held) → Allows h.may h.now → Allows (moved_to now may h).may (moved_to now may h).now
moved_sound None may h sound = sound
moved_sound (Some bytes) may h sound = inl (arrival_admits may bytes)

settled_sound : (now : Content) → Allows (just now ∷ []) now
settled_sound None = inl refl
settled_sound (Some bytes) = inl refl

pub sound_after : (call : Call) (s : State) → IsSound s → IsSound (after call s)
sound_after (Look path) s sound q = sound q
sound_after (Append path bytes) s sound q =
    chosen (same_path path q) (appended bytes (s q)) (s q) (inl refl) (sound q)
sound_after (Move from to) s sound q =
    let old : Held = s (from ++ after_top to q) in
    chosen (under to q) (moved_to old.now old.may (s q)) (if under from q then removed (s q) else s q) (moved_sound old.now old.may (s q) (sound q)) (chosen (under from q) (removed (s q)) (s q) (removed_sound (s q).now (s q) (sound q)) (sound q))
sound_after (Remove path) s sound q =
    chosen (under path q) (removed (s q)) (s q) (removed_sound (s q).now (s q) (sound q)) (sound q)
sound_after (Settle path) s sound q =
    chosen (under path q) (settled (s q)) (s q) (settled_sound (s q).now) (sound q)
