-- The examples of what a stop may leave.
use Rattle.std.proofs.Common.{◌≡◌, ℕ, Bool, true, false, if◌then◌else◌, ◌⊎◌, inl, inr, ⊎_elim, List, [], ◌∷◌, ◌++◌, Some, None, refl, sym, ◌∙◌, ap, subst}
use Rattle.std.specs.Prelude.{◌↔◌}
use Rattle.peg_base.specs.Names.{Names, under, same_path, after_top}
use Rattle.peg_base.proofs.Under.{same_path-refl}
use Rattle.dir_disk.specs.State.{Member, Gone, Exactly, Anything, Content, Allows, Held, State, IsSound, just, appended, removed_from, removed, moved_to}
use Rattle.dir_disk.specs.Calls.{Call, Look, Append, Move, Remove, Settle, after, after_fault, may_change}
use Rattle.dir_disk.specs.Examples.{AppendedMayBeAnything, MovedUnsettledMayBeAnything, SettledIsThere, MovedMayBeAtEitherOrNone, RemovedMayBeThere, RemovedAndSettledIsGone, SettledFolderIsThere, MovedFolderTakesAll, ArrivesAsItWas, FailsInAnyPart, FailedAppendMayBeAnything, FitsBetween, MixesWithin, StaysSound, CallMakesFresh, StartedMayLeaveAnything, StartLeavesOthers, EndLeavesOthers}
use Rattle.dir_disk.proofs.Sound.{sound_after}
use Rattle.dir_disk.proofs.Says.{fresh_call, clock_on}
use Rattle.dir_disk.proofs.Steps.{after_others, appended_at}

-- ---- one path

anything_or_gone : (content : Content) → Allows (Anything ∷ Gone ∷ []) content
anything_or_gone None = inr (inl refl)
anything_or_gone (Some bytes) = inl refl

only : (bytes : List ℕ) (content : Content) → Allows (Exactly bytes ∷ []) content ↔ (content ≡ Some bytes)
only bytes content = (λ allowed. ⊎_elim (λ is. is) (λ none. absurd none) allowed, λ is. inl is)

exactly_or_gone : (bytes : List ℕ) (content : Content) → Allows (Exactly bytes ∷ Gone ∷ []) content ↔ ((content ≡ None) ⊎ (content ≡ Some bytes))
exactly_or_gone bytes content =
    (λ allowed. ⊎_elim (λ is. inr is) (λ rest. ⊎_elim (λ none. inl none) (λ no. absurd no) rest) allowed, λ either. ⊎_elim (λ none. inr (inl none)) (λ is. inl is) either)

gone_or_exactly : (bytes : List ℕ) (content : Content) → Allows (Gone ∷ Exactly bytes ∷ []) content ↔ ((content ≡ None) ⊎ (content ≡ Some bytes))
gone_or_exactly bytes content =
    (λ allowed. ⊎_elim (λ none. inl none) (λ rest. ⊎_elim (λ is. inr is) (λ no. absurd no) rest) allowed, λ either. ⊎_elim (λ none. inl none) (λ is. inr (inl is)) either)

-- ---- the examples

pub appended_may_be_anything : AppendedMayBeAnything
appended_may_be_anything bytes = (refl, anything_or_gone)

pub moved_unsettled_may_be_anything : MovedUnsettledMayBeAnything
moved_unsettled_may_be_anything bytes = anything_or_gone

pub settled_is_there : SettledIsThere
settled_is_there bytes = only bytes

pub moved_may_be_at_either_or_none : MovedMayBeAtEitherOrNone
moved_may_be_at_either_or_none bytes = (gone_or_exactly bytes, exactly_or_gone bytes)

pub removed_may_be_there : RemovedMayBeThere
removed_may_be_there bytes = (refl, gone_or_exactly bytes)

pub removed_and_settled_is_gone : RemovedAndSettledIsGone
removed_and_settled_is_gone bytes = refl

pub settled_folder_is_there : SettledFolderIsThere
settled_folder_is_there bytes = only bytes

pub moved_folder_takes_all : MovedFolderTakesAll
moved_folder_takes_all bytes = refl

pub arrives_as_it_was : ArrivesAsItWas
arrives_as_it_was [] bytes allowed = absurd allowed
arrives_as_it_was (Gone ∷ may) bytes allowed = (λ is. cc, λ is. cc)
arrives_as_it_was (Anything ∷ may) bytes allowed = (λ is. cc, λ is. cc)
arrives_as_it_was (Exactly old ∷ []) bytes allowed = (λ is. ⊎_elim (λ same. cc) (λ no. absurd no) allowed, λ is. refl)
arrives_as_it_was (Exactly old ∷ (member ∷ may)) bytes allowed = (λ is. cc, λ is. cc)

-- ---- calls that fail

removed_more : (now : Content) (h : Held) (content : Content) → Allows h.may content → Allows (removed_from now h).may content
removed_more None h content allowed = allowed
removed_more (Some bytes) h content allowed = inr allowed

moved_more : (now : Content) (may : List Member) (h : Held) (content : Content) → Allows h.may content → Allows (moved_to now may h).may content
moved_more None may h content allowed = allowed
moved_more (Some bytes) may h content allowed = inr allowed

chosen : (test : Bool) (h k l : Held) (content : Content) → (Allows l.may content → Allows h.may content) → (Allows l.may content → Allows k.may content) → Allows l.may content → Allows (if test then h else k).may content
chosen true h k l content first second allowed = first allowed
chosen false h k l content first second allowed = second allowed

-- a call that failed takes no member away
fault_more : (call : Call) (s : State) (q : Names) (content : Content) → Allows (s q).may content → Allows (after_fault call s q).may content
fault_more (Look path) s q content allowed = allowed
fault_more (Append path bytes) s q content allowed =
    chosen (same_path path q) (appended bytes (s q)) (s q) (s q) content (λ a. inr a) (λ a. a) allowed
fault_more (Move from to) s q content allowed =
    let old : Held = s (from ++ after_top to q) in
    chosen (under to q) (moved_to old.now old.may (s q)) (if under from q then removed (s q) else s q) (s q) content (λ a. moved_more old.now old.may (s q) content a) (λ a. chosen (under from q) (removed (s q)) (s q) (s q) content (λ b. removed_more (s q).now (s q) content b) (λ b. b) a) allowed
fault_more (Remove path) s q content allowed =
    chosen (under path q) (removed (s q)) (s q) (s q) content (λ a. removed_more (s q).now (s q) content a) (λ a. a) allowed
fault_more (Settle path) s q content allowed = allowed

-- what stands after Ok is allowed after a fault too
ok_allowed : (call : Call) (s : State) (q : Names) → IsSound s → Allows (after_fault call s q).may (after call s q).now
ok_allowed (Look path) s q sound = sound q
ok_allowed (Append path bytes) s q sound = sound_after (Append path bytes) s sound q
ok_allowed (Move from to) s q sound = sound_after (Move from to) s sound q
ok_allowed (Remove path) s q sound = sound_after (Remove path) s sound q
ok_allowed (Settle path) s q sound = settled_allowed (under path q) (s q) (sound q)
  where
    settled_allowed : (test : Bool) (h : Held) → Allows h.may h.now → Allows h.may (if test then (let k : Held = record { now = h.now; may = just h.now ∷ [] } in k) else h).now
    settled_allowed true h allowed = allowed
    settled_allowed false h allowed = allowed

part_allowed : (test : Bool) (may : List Member) (finished before : Content) → Allows may finished → Allows may before → Allows may (if test then finished else before)
part_allowed true may finished before first second = first
part_allowed false may finished before first second = second

same_part : (test : Bool) (finished before : Held) (may : List Member) → finished ≡ before → may ≡ before.may → (let h : Held = record { now = if test then finished.now else before.now; may = may } in h) ≡ before
same_part true finished before may is same = ap (λ (m : List Member). let h : Held = record { now = finished.now; may = m } in h) same ∙ ap (λ (d : Held). let h : Held = record { now = d.now; may = before.may } in h) is
same_part false finished before may is same = ap (λ (m : List Member). let h : Held = record { now = before.now; may = m } in h) same

fault_others : (call : Call) (s : State) (q : Names) → may_change call q ≡ false → (after_fault call s q).may ≡ (s q).may
fault_others (Look path) s q apart = refl
fault_others (Append path bytes) s q apart = ap (λ (h : Held). h.may) (after_others (Append path bytes) s q apart)
fault_others (Move from to) s q apart = ap (λ (h : Held). h.may) (after_others (Move from to) s q apart)
fault_others (Remove path) s q apart = ap (λ (h : Held). h.may) (after_others (Remove path) s q apart)
fault_others (Settle path) s q apart = refl

pub fails_in_any_part : FailsInAnyPart
fails_in_any_part call s went sound =
    record {
      may = λ q. refl;
      now = λ q changes. part_allowed (went q) (after_fault call s q).may (after call s q).now (s q).now (ok_allowed call s q sound) (fault_more call s q (s q).now (sound q));
      others = λ q apart. same_part (went q) (after call s q) (s q) (after_fault call s q).may (after_others call s q apart) (fault_others call s q apart);
    }

pub failed_append_may_be_anything : FailedAppendMayBeAnything
failed_append_may_be_anything path bytes old new left broken some =
    subst (λ (may : List Member). Allows may left) (sym (broken.may path ∙ ap (λ (h : Held). h.may) (appended_at path bytes old path (same_path-refl path)))) (inl some)

-- ---- moments

pub fits_between : FitsBetween
fits_between state image =
    (λ fits path. ⊎_elim (λ before. before) (λ later. later) (fits path), λ fits path. inl (fits path))

pub mixes_within : MixesWithin
mixes_within before after first one other fits_one fits_other path =
    mix (first path) (one path) (other path) (before path).may (after path).may (fits_one path) (fits_other path)
  where
    mix : (test : Bool) (c d : Content) (may later : List Member) → Allows may c → Allows later d → Allows may (if test then c else d) ⊎ Allows later (if test then c else d)
    mix true c d may later allowed_one allowed_other = inl allowed_one
    mix false c d may later allowed_one allowed_other = inr allowed_other

pub stays_sound : StaysSound
stays_sound call state sound = sound_after call state sound

pub call_makes_fresh : CallMakesFresh
call_makes_fresh old new adds is_clock = (clock_on 1 old new adds is_clock, fresh_call old new adds is_clock)

-- ---- children

pub started_may_leave_anything : StartedMayLeaveAnything
started_may_leave_anything = anything_or_gone

pub start_leaves_others : StartLeavesOthers
start_leaves_others output path state other = rw other refl

pub end_leaves_others : EndLeavesOthers
end_leaves_others output path old new only other = held_same (new path) (old path) (only.others path other) (only.may path)
  where
    held_same : (a b : Held) → a.now ≡ b.now → a.may ≡ b.may → a ≡ b
    held_same a b now may =
        ap (λ (content : Content). (let held : Held = record { now = content; may = a.may } in held)) now
        ∙ ap (λ (members : List Member). (let held : Held = record { now = b.now; may = members } in held)) may
