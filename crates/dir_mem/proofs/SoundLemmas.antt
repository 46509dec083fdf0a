-- Each call keeps a directory sound.
use Rattle.std.proofs.Common.{◌≡◌, ◌≢◌, ℕ, Bool, true, false, ◌&&◌, ◌||◌, if◌then◌else◌, ⊎_elim, List, [], ◌∷◌, ◌++◌, All, Some, None, refl, sym, ◌∙◌, ap, subst}
use Rattle.std.specs.Prelude.{not}
use Rattle.std.specs.List.{list_all}
use Rattle.std.proofs.lemmas.Bool.{false≢true, cases_Bool, and_parts, and_from}
use Rattle.std.proofs.lemmas.List.Elements.{All-head, All-tail, All-weaker}
use Rattle.peg_base.specs.Names.{Names, under, same_path, after_top}
use Rattle.peg_base.proofs.Under.{bytes_eq-refl, same_path-true, same_path-refl, under-same}
use Rattle.dir_disk.specs.State.{Member, Gone, Exactly, Anything, Content, Held, State, absent, just, bytes_of, appended, removed, removed_from, settled, arrival, moved_to, after_append, after_remove, after_settle, after_move}
use Rattle.dir_disk.specs.Calls.{Append, Move, Remove, Settle}
use Rattle.dir_disk.proofs.Steps.{after_others}
use Rattle.dir_disk.specs.Lent.{Loan, IsFree}
use Rattle.dir_mem.specs.declared.log.Change.{Change}
use Rattle.dir_mem.specs.declared.log.Step.{Step}
use Rattle.dir_mem.specs.Log.{after_changes, replaced, state_of, told_by}
use Rattle.dir_mem.specs.declared.mem_dir.Lending.{Lending}
use Rattle.dir_mem.specs.Traces.{newest, shown}
use Rattle.dir_mem.specs.Sound.{admits, allows, is_short, is_short_content, is_short_member, is_sound, is_absent, is_open_end, IsSoundState, HasNoTop, LendsOpen, ListsAll, is_listed, loans_of}
use Rattle.dir_mem.specs.Facts.{absent_from, allowed_now, present, short_now}
use Rattle.dir_disk.specs.Moments.{files}
use Rattle.dir_disk.specs.Children.{after_start, lent_out}
use Rattle.dir_mem.specs.Effects.{Leads, broken, after_break}
use Rattle.dir_mem.proofs.EffectLemmas.{if_false, if_true, one_change, or_first, or_neither, or_second}

-- ---- one path

pub sound_from : (held : Held) → allows held.may held.now ≡ true → is_short_content held.now ≡ true → list_all is_short_member held.may ≡ true → is_sound held ≡ true
sound_from held allowed short all = and_from _ _ allowed (and_from _ _ short all)

pub short_may : (held : Held) → is_sound held ≡ true → list_all is_short_member held.may ≡ true
short_may held sound = (and_parts _ _ (and_parts _ _ sound).1).1

sound_appended : (bytes : List ℕ) (held : Held) → is_sound held ≡ true → is_short (bytes_of held.now ++ bytes) ≡ true → is_sound (appended bytes held) ≡ true
sound_appended bytes held sound short = sound_from (appended bytes held) refl short (short_may held sound)

sound_removed : (now : Content) (held : Held) → is_sound held ≡ true → is_sound (removed_from now held) ≡ true
sound_removed None held sound = sound
sound_removed (Some bytes) held sound = sound_from (removed_from (Some bytes) held) refl refl (short_may held sound)

admits_just : (now : Content) → admits (just now) now ≡ true
admits_just None = refl
admits_just (Some bytes) = bytes_eq-refl bytes

short_just : (now : Content) → is_short_content now ≡ true → is_short_member (just now) ≡ true
short_just None short = refl
short_just (Some bytes) short = short

sound_settled : (held : Held) → is_sound held ≡ true → is_sound (settled held) ≡ true
sound_settled held sound =
    sound_from (settled held) (ap (λ (test : Bool). test || false) (admits_just held.now)) (short_now held sound) (ap (λ (test : Bool). test && true) (short_just held.now (short_now held sound)))

admits_arrival : (may : List Member) (bytes : List ℕ) → admits (arrival may bytes) (Some bytes) ≡ true
admits_arrival [] bytes = refl
admits_arrival (Gone ∷ may) bytes = refl
admits_arrival (Anything ∷ may) bytes = refl
admits_arrival (Exactly old ∷ []) bytes = bytes_eq-refl bytes
admits_arrival (Exactly old ∷ (member ∷ may)) bytes = refl

short_arrival : (may : List Member) (bytes : List ℕ) → is_short bytes ≡ true → is_short_member (arrival may bytes) ≡ true
short_arrival [] bytes short = refl
short_arrival (Gone ∷ may) bytes short = refl
short_arrival (Anything ∷ may) bytes short = refl
short_arrival (Exactly old ∷ []) bytes short = short
short_arrival (Exactly old ∷ (member ∷ may)) bytes short = refl

sound_moved : (now : Content) (may : List Member) (held : Held) → is_short_content now ≡ true → is_sound held ≡ true → is_sound (moved_to now may held) ≡ true
sound_moved None may held short sound = sound
sound_moved (Some bytes) may held short sound =
    sound_from (moved_to (Some bytes) may held) (ap (λ (test : Bool). test || allows held.may (Some bytes)) (admits_arrival may bytes)) short (and_from _ _ (short_arrival may bytes short) (short_may held sound))

pub admits_shown : (member : Member) → admits member (shown member) ≡ true
admits_shown Gone = refl
admits_shown (Exactly bytes) = bytes_eq-refl bytes
admits_shown Anything = refl

pub short_shown : (member : Member) → is_short_member member ≡ true → is_short_content (shown member) ≡ true
short_shown Gone short = refl
short_shown (Exactly bytes) short = short
short_shown Anything short = refl

sound_newest : (may : List Member) (now : Content) → allows may now ≡ true → list_all is_short_member may ≡ true → is_sound (let h : Held = record { now = newest may; may = may } in h) ≡ true
sound_newest [] now allowed short = absurd (false≢true allowed)
sound_newest (member ∷ may) now allowed short =
    sound_from (let h : Held = record { now = shown member; may = member ∷ may } in h) (ap (λ (test : Bool). test || allows may (shown member)) (admits_shown member)) (short_shown member (and_parts _ _ short).0) short

sound_broken : (held : Held) → is_sound held ≡ true → is_sound (broken held) ≡ true
sound_broken held sound = sound_newest held.may held.now (allowed_now held sound) (short_may held sound)

-- ---- states

chosen : (test : Bool) (first second : Held) → is_sound first ≡ true → is_sound second ≡ true → is_sound (if test then first else second) ≡ true
chosen true first second one other = one
chosen false first second one other = other

pub chosen_if : (test : Bool) (first second : Held) → (test ≡ true → is_sound first ≡ true) → is_sound second ≡ true → is_sound (if test then first else second) ≡ true
chosen_if true first second one other = one refl
chosen_if false first second one other = other

pub sound_append : (place : Names) (bytes : List ℕ) (state : State) → IsSoundState state → is_short (bytes_of (state place).now ++ bytes) ≡ true → IsSoundState (after_append place bytes state)
sound_append place bytes state sound short path =
    chosen_if (same_path place path) (appended bytes (state path)) (state path) (λ same. sound_appended bytes (state path) (sound path) (subst (λ (p : Names). is_short (bytes_of (state p).now ++ bytes) ≡ true) (same_path-true place path same) short)) (sound path)

pub sound_remove : (top : Names) (state : State) → IsSoundState state → IsSoundState (after_remove top state)
sound_remove top state sound path =
    chosen (under top path) (removed (state path)) (state path) (sound_removed (state path).now (state path) (sound path)) (sound path)

pub sound_settle : (top : Names) (state : State) → IsSoundState state → IsSoundState (after_settle top state)
sound_settle top state sound path =
    chosen (under top path) (settled (state path)) (state path) (sound_settled (state path) (sound path)) (sound path)

pub sound_move : (from to : Names) (state : State) → IsSoundState state → IsSoundState (after_move from to state)
sound_move from to state sound path =
    let old : Held = state (from ++ after_top to path) in
    chosen (under to path) (moved_to old.now old.may (state path)) (if under from path then removed (state path) else state path) (sound_moved old.now old.may (state path) (short_now old (sound (from ++ after_top to path))) (sound path)) (chosen (under from path) (removed (state path)) (state path) (sound_removed (state path).now (state path) (sound path)) (sound path))

pub sound_break : (top other : Names) (fault state : State) → IsSoundState fault → IsSoundState state → IsSoundState (after_break top other fault state)
sound_break top other fault state sound before path =
    chosen (under top path || under other path) (broken (fault path)) (state path) (sound_broken (fault path) (sound path)) (before path)

-- a state that is pointwise another
pub sound_same : (old new : State) → ((path : Names) → new path ≡ old path) → IsSoundState old → IsSoundState new
sound_same old new same sound path = ap is_sound (same path) ∙ sound path

-- ---- the path without names

pub no_top_same : (old new : State) → ((path : Names) → new path ≡ old path) → HasNoTop old → HasNoTop new
no_top_same old new same none = ap is_absent (same []) ∙ none

pub no_top_append : (place : Names) (bytes : List ℕ) (state : State) → place ≢ [] → HasNoTop state → HasNoTop (after_append place bytes state)
no_top_append [] bytes state named none = absurd (named refl)
no_top_append (name ∷ place) bytes state named none = none

absent_if : (test : Bool) (becomes : Held → Held) (held : Held) → becomes absent ≡ absent → is_absent held ≡ true → is_absent (if test then becomes held else held) ≡ true
absent_if true becomes held stays none = ap is_absent (ap becomes (absent_from held none) ∙ stays)
absent_if false becomes held stays none = none

pub no_top_remove : (top : Names) (state : State) → HasNoTop state → HasNoTop (after_remove top state)
no_top_remove top state none = absent_if (under top []) removed (state []) refl none

pub no_top_settle : (top : Names) (state : State) → HasNoTop state → HasNoTop (after_settle top state)
no_top_settle top state none = absent_if (under top []) settled (state []) refl none

pub no_top_move : (from to : Names) (state : State) → under to from ≡ false → HasNoTop state → HasNoTop (after_move from to state)
no_top_move from [] state apart none = absurd (false≢true (sym apart))
no_top_move from (name ∷ to) state apart none = absent_if (under from []) removed (state []) refl none

pub no_top_break : (top other : Names) (fault state : State) → HasNoTop fault → HasNoTop state → HasNoTop (after_break top other fault state)
no_top_break top other fault state none before = at (under top [] || under other [])
  where
    at : (test : Bool) → is_absent (if test then broken (fault []) else state []) ≡ true
    at true = ap is_absent (ap broken (absent_from (fault []) none))
    at false = before

-- ---- what is lent

open_same : (lent : List Lending) (old new : State) → All (λ (loan : Loan). new loan.output ≡ old loan.output) (loans_of lent) → LendsOpen lent old → LendsOpen lent new
open_same [] old new same opens = refl
open_same (lending ∷ lent) old new same opens =
    let loan : Loan = record { input = lending.input; output = lending.output } in
    let parts = and_parts _ _ opens in
    and_from _ _ (ap is_open_end (All-head (λ (l : Loan). new l.output ≡ old l.output) loan (loans_of lent) same) ∙ parts.0) (open_same lent old new (All-tail (λ (l : Loan). new l.output ≡ old l.output) loan (loans_of lent) same) parts.1)

-- what no path under a free one changes
pub open_free : (lent : List Lending) (top : Names) (old new : State) → ((path : Names) → under top path ≡ false → new path ≡ old path) → IsFree (loans_of lent) top → LendsOpen lent old → LendsOpen lent new
open_free lent top old new same free =
    open_same lent old new (All-weaker (λ (loan : Loan). (under top loan.input ≡ false) × (under top loan.output ≡ false)) (λ (loan : Loan). new loan.output ≡ old loan.output) (λ loan apart. same loan.output apart.1) (loans_of lent) free)

pub open_pointwise : (lent : List Lending) (old new : State) → ((path : Names) → new path ≡ old path) → LendsOpen lent old → LendsOpen lent new
open_pointwise [] old new same opens = refl
open_pointwise (lending ∷ lent) old new same opens =
    let parts = and_parts _ _ opens in
    and_from _ _ (ap is_open_end (same lending.output) ∙ parts.0) (open_pointwise lent old new same parts.1)

open_two : (lent : List Lending) (top other : Names) (old new : State) → ((path : Names) → under top path ≡ false → under other path ≡ false → new path ≡ old path) → IsFree (loans_of lent) top → IsFree (loans_of lent) other → LendsOpen lent old → LendsOpen lent new
open_two [] top other old new same free_top free_other opens = refl
open_two (lending ∷ lent) top other old new same free_top free_other opens =
    let loan : Loan = record { input = lending.input; output = lending.output } in
    let parts = and_parts _ _ opens in
    let one = λ (path : Names). λ (l : Loan). (under path l.input ≡ false) × (under path l.output ≡ false) in
    and_from _ _ (ap is_open_end (same lending.output (All-head (one top) loan (loans_of lent) free_top).1 (All-head (one other) loan (loans_of lent) free_other).1) ∙ parts.0) (open_two lent top other old new same (All-tail (one top) loan (loans_of lent) free_top) (All-tail (one other) loan (loans_of lent) free_other) parts.1)

pub open_break : (lent : List Lending) (top other : Names) (fault state : State) → IsFree (loans_of lent) top → IsFree (loans_of lent) other → LendsOpen lent state → LendsOpen lent (after_break top other fault state)
open_break lent top other fault state free_top free_other opens =
    open_two lent top other state (after_break top other fault state) (λ path apart apart_other. if_false (under top path || under other path) (broken (fault path)) (state path) (or_neither (under top path) (under other path) apart apart_other)) free_top free_other opens

pub open_move : (lent : List Lending) (from to : Names) (state : State) → IsFree (loans_of lent) from → IsFree (loans_of lent) to → LendsOpen lent state → LendsOpen lent (after_move from to state)
open_move lent from to state free_from free_to opens =
    open_two lent from to state (after_move from to state) (λ path apart apart_to. after_others (Move from to) state path (or_neither (under from path) (under to path) apart apart_to)) free_from free_to opens

-- ---- changes that lead to the state of a call

-- the log that the changes were made from is the log
pub leads_from : (changes : List Change) (read old : List Step) (goes : State → State) → read ≡ old → Leads changes (state_of read) (goes (state_of read)) → Leads changes (state_of old) (goes (state_of old))
leads_from changes read old goes same leads =
    subst (λ (r : List Step). Leads changes (state_of r) (goes (state_of r))) same leads

pub sound_call : (changes : List Change) (read old : List Step) (goes : State → State) → read ≡ old → Leads changes (state_of read) (goes (state_of read)) → IsSoundState (goes (state_of old)) → IsSoundState (after_changes changes (state_of old))
sound_call changes read old goes same leads sound =
    sound_same (goes (state_of old)) (after_changes changes (state_of old)) (leads_from changes read old goes same leads) sound

pub no_top_call : (changes : List Change) (read old : List Step) (goes : State → State) → read ≡ old → Leads changes (state_of read) (goes (state_of read)) → HasNoTop (goes (state_of old)) → HasNoTop (after_changes changes (state_of old))
no_top_call changes read old goes same leads none =
    no_top_same (goes (state_of old)) (after_changes changes (state_of old)) (leads_from changes read old goes same leads) none

pub open_call : (lent : List Lending) (changes : List Change) (read old : List Step) (goes : State → State) → read ≡ old → Leads changes (state_of read) (goes (state_of read)) → LendsOpen lent (goes (state_of old)) → LendsOpen lent (after_changes changes (state_of old))
open_call lent changes read old goes same leads opens =
    open_pointwise lent (goes (state_of old)) (after_changes changes (state_of old)) (leads_from changes read old goes same leads) opens

pub open_append : (lent : List Lending) (place : Names) (bytes : List ℕ) (state : State) → IsFree (loans_of lent) place → LendsOpen lent state → LendsOpen lent (after_append place bytes state)
open_append lent place bytes state free opens =
    open_free lent place state (after_append place bytes state) (λ path apart. after_others (Append place bytes) state path apart) free opens

pub open_remove : (lent : List Lending) (top : Names) (state : State) → IsFree (loans_of lent) top → LendsOpen lent state → LendsOpen lent (after_remove top state)
open_remove lent top state free opens =
    open_free lent top state (after_remove top state) (λ path apart. after_others (Remove top) state path apart) free opens

pub open_settle : (lent : List Lending) (top : Names) (state : State) → IsFree (loans_of lent) top → LendsOpen lent state → LendsOpen lent (after_settle top state)
open_settle lent top state free opens =
    open_free lent top state (after_settle top state) (λ path apart. after_others (Settle top) state path apart) free opens

-- an append to a file of few enough bytes, from the test that it is not too long
pub sound_append_unless : (place : Names) (bytes : List ℕ) (state : State) (too_long : Bool) → IsSoundState state → too_long ≡ not (is_short (bytes_of (state place).now ++ bytes)) → too_long ≡ false → IsSoundState (after_append place bytes state)
sound_append_unless place bytes state too_long sound is fits =
    sound_append place bytes state sound (short_unless (is_short (bytes_of (state place).now ++ bytes)) (sym is ∙ fits))
  where
    short_unless : (test : Bool) → not test ≡ false → test ≡ true
    short_unless true fails = refl
    short_unless false fails = absurd (false≢true (sym fails))

-- ---- an output that is lent

one_changed : (changes : List Change) (change : Change) (place : Names) (state : State) → changes ≡ change ∷ [] → change.path ≡ place → replaced change (state place) ≡ lent_out (state place) → Leads changes state (after_start place state)
one_changed changes change place state one at makes path = one_change lent_out changes change place state one at makes path

sound_lent : (held : Held) → is_sound held ≡ true → is_sound (lent_out held) ≡ true
sound_lent held sound =
    sound_from (lent_out held) (or_second (admits Anything held.now) (allows held.may held.now) (allowed_now held sound)) (short_now held sound) (short_may held sound)

sound_lend : (output : Names) (state : State) → IsSoundState state → IsSoundState (after_start output state)
sound_lend output state sound path =
    chosen (same_path output path) (lent_out (state path)) (state path) (sound_lent (state path) (sound path)) (sound path)

no_top_lend : (output : Names) (state : State) → output ≢ [] → HasNoTop state → HasNoTop (after_start output state)
no_top_lend [] state named none = absurd (named refl)
no_top_lend (name ∷ output) state named none = none

lend_others : (output : Names) (state : State) (path : Names) → under output path ≡ false → after_start output state path ≡ state path
lend_others output state path apart =
    if_false (same_path output path) (lent_out (state path)) (state path) (⊎_elim (λ same. absurd (false≢true (sym apart ∙ under-same output path same))) (λ other. other) (cases_Bool (same_path output path)))

open_one : (held : Held) → held.now ≡ None → is_sound held ≡ true → is_open_end (lent_out held) ≡ true
open_one held none sound =
    and_from _ _ (or_second (admits Anything None) (allows held.may None) (ap (λ (now : Content). allows held.may now) (sym none) ∙ allowed_now held sound)) refl

open_push : (lent : List Lending) (lending : Lending) (state : State) → LendsOpen lent state → is_open_end (state lending.output) ≡ true → LendsOpen (lent ++ lending ∷ []) state
open_push [] lending state opens one = and_from _ _ one refl
open_push (first ∷ lent) lending state opens one =
    let parts = and_parts _ _ opens in
    and_from _ _ parts.0 (open_push lent lending state parts.1 one)

pub lends_sound : (change : Change) (output : Names) (state : State) → change.path ≡ output → replaced change (state output) ≡ lent_out (state output) → IsSoundState state → IsSoundState (after_changes (change ∷ []) state)
lends_sound change output state at makes sound =
    sound_same (after_start output state) (after_changes (change ∷ []) state) (one_changed (change ∷ []) change output state refl at makes) (sound_lend output state sound)

pub lends_no_top : (change : Change) (output : Names) (state : State) → change.path ≡ output → replaced change (state output) ≡ lent_out (state output) → output ≢ [] → HasNoTop state → HasNoTop (after_changes (change ∷ []) state)
lends_no_top change output state at makes named none =
    no_top_same (after_start output state) (after_changes (change ∷ []) state) (one_changed (change ∷ []) change output state refl at makes) (no_top_lend output state named none)

pub lends_open : (lent : List Lending) (lending : Lending) (change : Change) (output : Names) (state : State) → change.path ≡ output → replaced change (state output) ≡ lent_out (state output) → lending.output ≡ output → IsFree (loans_of lent) output → (state output).now ≡ None → IsSoundState state → LendsOpen lent state → LendsOpen (lent ++ lending ∷ []) (after_changes (change ∷ []) state)
lends_open lent lending change output state at makes same free none sound opens =
    let leads = one_changed (change ∷ []) change output state refl at makes in
    let others : LendsOpen lent (after_start output state) = open_free lent output state (after_start output state) (lend_others output state) free opens in
    let at_output : after_changes (change ∷ []) state output ≡ lent_out (state output) = leads output ∙ if_true (same_path output output) (lent_out (state output)) (state output) (same_path-refl output) in
    open_push lent lending (after_changes (change ∷ []) state) (open_pointwise lent (after_start output state) (after_changes (change ∷ []) state) leads others) (ap (λ (p : Names). is_open_end (after_changes (change ∷ []) state p)) same ∙ ap is_open_end at_output ∙ open_one (state output) none (sound output))

-- what was open at the end stays so where a stop may leave anything
pub spoils_open : (lent : List Lending) (change : Change) (output : Names) (state : State) → change.path ≡ output → replaced change (state output) ≡ lent_out (state output) → LendsOpen lent state → LendsOpen lent (after_changes (change ∷ []) state)
spoils_open lent change output state at makes opens =
    open_pointwise lent (after_start output state) (after_changes (change ∷ []) state) (one_changed (change ∷ []) change output state refl at makes) (open_more lent opens)
  where
    open_same : (test : Bool) (held : Held) → is_open_end held ≡ true → is_open_end (if test then lent_out held else held) ≡ true
    open_same true held is = and_from _ _ (and_parts _ _ is).0 refl
    open_same false held is = is

    open_more : (lendings : List Lending) → LendsOpen lendings state → LendsOpen lendings (after_start output state)
    open_more [] is = refl
    open_more (first ∷ others) is =
        let parts = and_parts _ _ is in
        and_from _ _ (open_same (same_path output first.output) (state first.output) parts.0) (open_more others parts.1)

pub lends_listed : (paths : List Names) (change : Change) (output : Names) (state : State) → change.path ≡ output → replaced change (state output) ≡ lent_out (state output) → is_listed paths output ≡ true → ListsAll paths state → ListsAll paths (after_changes (change ∷ []) state)
lends_listed paths change output state at makes listed lists path =
    ⊎_elim (λ same. or_first (is_listed paths path) (is_absent (after_changes (change ∷ []) state path)) (subst (λ (p : Names). is_listed paths p ≡ true) (same_path-true output path same) listed)) (λ other. ap (λ (h : Held). is_listed paths path || is_absent h) (one_changed (change ∷ []) change output state refl at makes path ∙ if_false (same_path output path) (lent_out (state path)) (state path) other) ∙ lists path) (cases_Bool (same_path output path))

-- the state after a loan is made
pub lends_to : (change : Change) (output : Names) (old new : List Step) → change.path ≡ output → replaced change (state_of old output) ≡ lent_out (state_of old output) → state_of new ≡ after_changes (change ∷ []) (state_of old) → files (told_by new) ≡ after_start output (files (told_by old))
lends_to change output old new at makes reaches =
    present new ∙ reaches ∙ same_state (after_changes (change ∷ []) (state_of old)) (after_start output (state_of old)) (one_changed (change ∷ []) change output (state_of old) refl at makes) ∙ ap (after_start output) (sym (present old))
  where
    same_state : (s t : State) → ((path : Names) → s path ≡ t path) → s ≡ t
    same_state s t same = λ i path. same path i
