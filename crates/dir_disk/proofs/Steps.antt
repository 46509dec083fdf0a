-- What a call may do to what a stop may leave, whatever it answers.
use Rattle.std.proofs.Common.{◌≡◌, ℕ, Bool, true, false, if◌then◌else◌, ◌⊎◌, inl, inr, ⊎_elim, List, [], ◌∷◌, ◌++◌, Some, None, refl, sym, ◌∙◌, ap, subst}
use Rattle.std.specs.Prelude.{IsSome, is_some}
use Rattle.std.proofs.lemmas.Bool.{false≢true, or_parts, cases_Bool}
use Rattle.peg_base.specs.Names.{Names, under, same_path, after_top}
use Rattle.peg_base.proofs.Under.{under-same, under-append, after_top-append}
use Rattle.dir_disk.specs.State.{Member, Gone, Exactly, Anything, Content, Admits, Allows, Held, State, Image, FitsEither, IsSound, StandsOutside, absent, just, appended, removed_from, removed, settled, arrival, moved_to, after_append, after_remove, after_settle, after_move}
use Rattle.dir_disk.specs.Calls.{Call, Look, Append, Move, Remove, Settle, after, after_fault, may_change, Broken}

-- what a call may add to what a stop may leave at a path
abbrev pub Gain : Call → Names → Content → Type 0
Gain (Look path) q content = ⊥
Gain (Append path bytes) q content = (same_path path q ≡ true) × IsSome content
Gain (Move from to) q content =
    ((under to q ≡ true) × IsSome content) ⊎ ((under from q ≡ true) × (content ≡ None))
Gain (Remove path) q content = (under path q ≡ true) × (content ≡ None)
Gain (Settle path) q content = ⊥

-- a stop may leave what it might have left before and what the call adds, and paths that the call doesn't name stand
pub record Steps (call : Call) (s t : State) : Type 0 where
  pub reach : (q : Names) (content : Content) → Allows (t q).may content → Allows (s q).may content ⊎ Gain call q content
  pub others : (q : Names) → may_change call q ≡ false → t q ≡ s q

-- ---- one path

just_only : (now content : Content) → Allows (just now ∷ []) content → content ≡ now
just_only None content (inl is) = is
just_only None content (inr none) = absurd none
just_only (Some bytes) content (inl is) = is
just_only (Some bytes) content (inr none) = absurd none

-- a path that allows one content alone has it in each image
pub settled_only : (h : Held) (content : Content) → Allows (settled h).may content → content ≡ h.now
settled_only h content allowed = just_only h.now content allowed

some_from : (content : Content) (bytes : List ℕ) → content ≡ Some bytes → IsSome content
some_from content bytes is = subst (λ (c : Content). is_some c ≡ true) (sym is) refl

arrival_some : (may : List Member) (bytes : List ℕ) (content : Content) → Admits (arrival may bytes) content → IsSome content
arrival_some [] bytes content some = some
arrival_some (Gone ∷ may) bytes content some = some
arrival_some (Anything ∷ may) bytes content some = some
arrival_some (Exactly old ∷ []) bytes content is = some_from content bytes is
arrival_some (Exactly old ∷ (member ∷ may)) bytes content some = some

removed_reach : (now : Content) (h : Held) (content : Content) → Allows (removed_from now h).may content → Allows h.may content ⊎ (content ≡ None)
removed_reach None h content allowed = inl allowed
removed_reach (Some bytes) h content (inl gone) = inr gone
removed_reach (Some bytes) h content (inr allowed) = inl allowed

moved_reach : (now : Content) (may : List Member) (h : Held) (content : Content) → Allows (moved_to now may h).may content → Allows h.may content ⊎ IsSome content
moved_reach None may h content allowed = inl allowed
moved_reach (Some bytes) may h content (inl arrives) = inr (arrival_some may bytes content arrives)
moved_reach (Some bytes) may h content (inr allowed) = inl allowed

settled_reach : (h : Held) (content : Content) → Allows h.may h.now → Allows (settled h).may content → Allows h.may content
settled_reach h content sound allowed =
    subst (λ (c : Content). Allows h.may c) (sym (settled_only h content allowed)) sound

-- a path that is changed where a test holds
chosen : (test : Bool) (h k : Held) (content : Content) (G : Type 0) → (test ≡ true → Allows h.may content → Allows k.may content ⊎ G) → Allows (if test then h else k).may content → Allows k.may content ⊎ G
chosen true h k content G changed allowed = changed refl allowed
chosen false h k content G changed allowed = inl allowed

-- the same, where another path is taken if the test doesn't hold
chosen_else : (test : Bool) (h k l : Held) (content : Content) (G : Type 0) → (test ≡ true → Allows h.may content → Allows l.may content ⊎ G) → (Allows k.may content → Allows l.may content ⊎ G) → Allows (if test then h else k).may content → Allows l.may content ⊎ G
chosen_else true h k l content G changed otherwise allowed = changed refl allowed
chosen_else false h k l content G changed otherwise allowed = otherwise allowed

unchanged : (test : Bool) (h k : Held) → test ≡ false → (if test then h else k) ≡ k
unchanged true h k fails = absurd (false≢true (sym fails))
unchanged false h k fails = refl

changed : (test : Bool) (h k : Held) → test ≡ true → (if test then h else k) ≡ h
changed true h k holds = refl
changed false h k holds = absurd (false≢true holds)

-- ---- the calls

pub append_reach : (path : Names) (bytes : List ℕ) (s : State) (q : Names) (content : Content) → Allows (after_append path bytes s q).may content → Allows (s q).may content ⊎ Gain (Append path bytes) q content
append_reach path bytes s q content =
    chosen (same_path path q) (appended bytes (s q)) (s q) content (Gain (Append path bytes) q content) (λ same allowed. ⊎_elim (λ some. inr (same, some)) (λ before. inl before) allowed)

pub remove_reach : (path : Names) (s : State) (q : Names) (content : Content) → Allows (after_remove path s q).may content → Allows (s q).may content ⊎ Gain (Remove path) q content
remove_reach path s q content =
    chosen (under path q) (removed (s q)) (s q) content (Gain (Remove path) q content) (λ below allowed. ⊎_elim (λ before. inl before) (λ gone. inr (below, gone)) (removed_reach (s q).now (s q) content allowed))

pub settle_reach : (path : Names) (s : State) (q : Names) (content : Content) → IsSound s → Allows (after_settle path s q).may content → Allows (s q).may content ⊎ Gain (Settle path) q content
settle_reach path s q content sound =
    chosen (under path q) (settled (s q)) (s q) content (Gain (Settle path) q content) (λ below allowed. inl (settled_reach (s q) content (sound q) allowed))

pub move_reach : (from to : Names) (s : State) (q : Names) (content : Content) → Allows (after_move from to s q).may content → Allows (s q).may content ⊎ Gain (Move from to) q content
move_reach from to s q content =
    let old : Held = s (from ++ after_top to q) in
    let gain : Type 0 = Gain (Move from to) q content in
    chosen_else (under to q) (moved_to old.now old.may (s q)) (if under from q then removed (s q) else s q) (s q) content gain (λ below allowed. ⊎_elim (λ before. inl before) (λ some. inr (inl (below, some))) (moved_reach old.now old.may (s q) content allowed)) (chosen (under from q) (removed (s q)) (s q) content gain (λ below allowed. ⊎_elim (λ before. inl before) (λ gone. inr (inr (below, gone))) (removed_reach (s q).now (s q) content allowed)))

not_same : (path q : Names) → under path q ≡ false → same_path path q ≡ false
not_same path q apart =
    ⊎_elim (λ same. absurd (false≢true (sym apart ∙ under-same path q same))) (λ other. other) (cases_Bool (same_path path q))

pub after_others : (call : Call) (s : State) (q : Names) → may_change call q ≡ false → after call s q ≡ s q
after_others (Look path) s q apart = refl
after_others (Append path bytes) s q apart = unchanged (same_path path q) _ _ (not_same path q apart)
after_others (Move from to) s q apart =
    let parts = or_parts (under from q) (under to q) apart in
    unchanged (under to q) _ _ parts.1 ∙ unchanged (under from q) _ _ parts.0
after_others (Remove path) s q apart = unchanged (under path q) _ _ apart
after_others (Settle path) s q apart = unchanged (under path q) _ _ apart

after_reach : (call : Call) (s : State) (q : Names) (content : Content) → IsSound s → Allows (after call s q).may content → Allows (s q).may content ⊎ Gain call q content
after_reach (Look path) s q content sound allowed = inl allowed
after_reach (Append path bytes) s q content sound allowed = append_reach path bytes s q content allowed
after_reach (Move from to) s q content sound allowed = move_reach from to s q content allowed
after_reach (Remove path) s q content sound allowed = remove_reach path s q content allowed
after_reach (Settle path) s q content sound allowed = settle_reach path s q content sound allowed

fault_reach : (call : Call) (s : State) (q : Names) (content : Content) → Allows (after_fault call s q).may content → Allows (s q).may content ⊎ Gain call q content
fault_reach (Look path) s q content allowed = inl allowed
fault_reach (Append path bytes) s q content allowed = append_reach path bytes s q content allowed
fault_reach (Move from to) s q content allowed = move_reach from to s q content allowed
fault_reach (Remove path) s q content allowed = remove_reach path s q content allowed
fault_reach (Settle path) s q content allowed = inl allowed

pub steps_ok : (call : Call) (s t : State) → IsSound s → t ≡ after call s → Steps call s t
steps_ok call s t sound is =
    let steps : Steps call s (after call s) = record { reach = λ q content allowed. after_reach call s q content sound allowed; others = after_others call s } in
    subst (λ (u : State). Steps call s u) (sym is) steps

pub steps_failed : (call : Call) (s t : State) → Broken call s t → Steps call s t
steps_failed call s t broken =
    record { reach = λ q content allowed. fault_reach call s q content (subst (λ (may : List Member). Allows may content) (broken.may q) allowed); others = broken.others }

-- an image within the call has at each path what one before it might have had, or what the call adds
pub either : (call : Call) (s t : State) → Steps call s t → (image : Image) → FitsEither s t image → (q : Names) → Allows (s q).may (image q) ⊎ Gain call q (image q)
either call s t steps image fits q = ⊎_elim (λ before. inl before) (λ later. steps.reach q (image q) later) (fits q)

-- ---- what stands after Ok

pub removed_now : (top : Names) (s : State) (q : Names) → under top q ≡ true → (after_remove top s q).now ≡ None
removed_now top s q below =
    ap (λ (h : Held). h.now) (changed (under top q) (removed (s q)) (s q) below) ∙ none (s q).now (s q) refl
  where
    none : (now : Content) (h : Held) → h.now ≡ now → (removed_from now h).now ≡ None
    none None h is = is
    none (Some bytes) h is = refl

pub settled_at : (top : Names) (s : State) (q : Names) → under top q ≡ true → after_settle top s q ≡ settled (s q)
settled_at top s q below = changed (under top q) _ _ below

pub settled_none : (top : Names) (s : State) (q : Names) → under top q ≡ true → (s q).now ≡ None → after_settle top s q ≡ absent
settled_none top s q below none =
    settled_at top s q below ∙ ap (λ (now : Content). let h : Held = record { now = now; may = just now ∷ [] } in h) none

pub appended_at : (path : Names) (bytes : List ℕ) (s : State) (q : Names) → same_path path q ≡ true → after_append path bytes s q ≡ appended bytes (s q)
appended_at path bytes s q same = changed (same_path path q) _ _ same

pub moved_at : (from to : Names) (s : State) (rest : Names) → after_move from to s (to ++ rest) ≡ moved_to (s (from ++ rest)).now (s (from ++ rest)).may (s (to ++ rest))
moved_at from to s rest =
    changed (under to (to ++ rest)) _ _ (under-append to rest) ∙ ap (λ (r : Names). moved_to (s (from ++ r)).now (s (from ++ r)).may (s (to ++ rest))) (after_top-append to rest)

pub moved_into : (from to : Names) (s : State) (rest : Names) → (s (to ++ rest)).now ≡ None → (after_move from to s (to ++ rest)).now ≡ (s (from ++ rest)).now
moved_into from to s rest none =
    ap (λ (h : Held). h.now) (moved_at from to s rest) ∙ arrived (s (from ++ rest)).now (s (from ++ rest)).may (s (to ++ rest)) none
  where
    arrived : (now : Content) (may : List Member) (h : Held) → h.now ≡ None → (moved_to now may h).now ≡ now
    arrived None may h empty = empty
    arrived (Some bytes) may h empty = refl

-- ---- what stands outside a path

-- a call changes nothing but at and under the path
pub stands_call : (top : Names) (entry s t : State) (call : Call) → StandsOutside top entry s → Steps call s t → ((q : Names) → under top q ≡ false → may_change call q ≡ false) → StandsOutside top entry t
stands_call top entry s t call stands steps within q apart = steps.others q (within q apart) ∙ stands q apart

pub stands_wider : (wide top : Names) (entry s : State) → ((q : Names) → under top q ≡ true → under wide q ≡ true) → StandsOutside top entry s → StandsOutside wide entry s
stands_wider wide top entry s within stands q apart =
    ⊎_elim (λ below. absurd (false≢true (sym apart ∙ within q below))) (λ outside. stands q outside) (cases_Bool (under top q))
