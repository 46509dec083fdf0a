-- What holds after each step so far.
use Rattle.std.proofs.Common.{◌≡◌, ℕ, true, ◌||◌, ⊎_elim, List, [], ◌∷◌, ◌++◌, length, take, refl, ◌∙◌, ap, arith}
use Rattle.std.proofs.lemmas.Bool.{or_cases, and_parts, and_from, cases_lt}
use Rattle.std.proofs.lemmas.List.{take_all, take-append-le, length_push}
use Rattle.peg_base.specs.Names.{Names}
use Rattle.dir_disk.specs.State.{Held, State}
use Rattle.dir_mem.specs.declared.log.Step.{Step}
use Rattle.dir_mem.specs.Log.{state_of}
use Rattle.dir_mem.specs.Sound.{IsSoundState, HasNoTop, ListsAll, WasFine, has_name, is_absent, is_fine, is_listed, is_sound}
use Rattle.dir_mem.proofs.EffectLemmas.{or_first, or_second}

named_or_absent : (state : State) (path : Names) → HasNoTop state → (has_name path || is_absent (state path)) ≡ true
named_or_absent state [] none = none
named_or_absent state (name ∷ path) none = refl

pub fine_from : (paths : List Names) (state : State) → IsSoundState state → HasNoTop state → ListsAll paths state → (path : Names) → is_fine paths path (state path) ≡ true
fine_from paths state sound none lists path =
    and_from (is_sound (state path)) _ (sound path) (and_from (is_listed paths path || is_absent (state path)) _ (lists path) (named_or_absent state path none))

-- one step more
pub past_push : (paths : List Names) (old new : List Step) (step : Step) → new ≡ old ++ step ∷ [] → WasFine paths old → IsSoundState (state_of new) → HasNoTop (state_of new) → ListsAll paths (state_of new) → WasFine paths new
past_push paths old new step is past sound none lists place path =
    ⊎_elim (λ late. ap (λ (steps : List Step). is_fine paths path (state_of steps path)) (take_all place new (omega (arith, ap length is, length_push old step, late))) ∙ fine_from paths (state_of new) sound none lists path) (λ early. ap (λ (steps : List Step). is_fine paths path (state_of steps path)) (ap (take place) is ∙ take-append-le place old (step ∷ []) early) ∙ past place path) (cases_lt (length old) place)

-- more paths are listed
pub past_more : (old new : List Names) (steps : List Step) → ((path : Names) → is_listed old path ≡ true → is_listed new path ≡ true) → WasFine old steps → WasFine new steps
past_more old new steps kept past place path =
    let held : Held = state_of (take place steps) path in
    let parts = and_parts (is_sound held) _ (past place path) in
    let others = and_parts (is_listed old path || is_absent held) (has_name path || is_absent held) parts.1 in
    and_from (is_sound held) _ parts.0 (and_from (is_listed new path || is_absent held) _ (⊎_elim (λ listed. or_first (is_listed new path) (is_absent held) (kept path listed)) (λ absent. or_second (is_listed new path) (is_absent held) absent) (or_cases (is_listed old path) (is_absent held) others.0)) others.1)

-- ---- what held after the first of the steps

pub past_sound : (paths : List Names) (steps : List Step) (place : ℕ) → WasFine paths steps → IsSoundState (state_of (take place steps))
past_sound paths steps place past path = (and_parts (is_sound (state_of (take place steps) path)) _ (past place path)).0

pub past_lists : (paths : List Names) (steps : List Step) (place : ℕ) → WasFine paths steps → ListsAll paths (state_of (take place steps))
past_lists paths steps place past path =
    let held : Held = state_of (take place steps) path in
    (and_parts (is_listed paths path || is_absent held) _ (and_parts (is_sound held) _ (past place path)).1).0

pub past_no_top : (paths : List Names) (steps : List Step) (place : ℕ) → WasFine paths steps → HasNoTop (state_of (take place steps))
past_no_top paths steps place past =
    let held : Held = state_of (take place steps) [] in
    (and_parts (is_listed paths [] || is_absent held) (is_absent held) (and_parts (is_sound held) _ (past place [])).1).1
