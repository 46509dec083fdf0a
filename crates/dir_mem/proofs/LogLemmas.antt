-- The state after one step more.
use Rattle.std.proofs.Common.{◌≡◌, ℕ, zero, suc, ⊎_elim, ◌+◌, ◌-◌, ◌<◌, ◌≤◌, List, [], ◌∷◌, ◌++◌, length, get_or, take, Option, Some, None, unwrap_or, refl, sym, ◌∙◌, ap, arith}
use Rattle.std.specs.Prelude.{option_and_then}
use Rattle.std.proofs.lemmas.Bool.{cases_lt}
use Rattle.std.proofs.lemmas.List.{take_more, take_all, take-append-le, length_push}
use Rattle.peg_base.specs.Names.{Names}
use Rattle.dir_disk.specs.State.{Member, Held, State, no_files}
use Rattle.dir_disk.specs.Moments.{Moment}
use Rattle.dir_mem.specs.declared.log.Step.{Step}
use Rattle.dir_mem.specs.declared.log.Step.TheVariants.{Call, Between}
use Rattle.dir_mem.specs.declared.log.Change.{Change}
use Rattle.dir_mem.specs.Log.{AddsStep, after_changes, change_at, replaced_by, traces_of, traces_at, changes_of, state_from, state_of, calls_of, count_of}

pub state_push : (steps : List Step) (step : Step) (state : State) → state_from (steps ++ step ∷ []) state ≡ after_changes (changes_of step) (state_from steps state)
state_push [] step state = refl
state_push (first ∷ steps) step state = state_push steps step (after_changes (changes_of first) state)

pub calls_push : (steps : List Step) (step : Step) → calls_of (steps ++ step ∷ []) ≡ calls_of steps + count_of step
calls_push [] step = omega arith
calls_push (first ∷ steps) step = omega (arith, calls_push steps step)

-- the state after the first steps and one more of them
pub state_more : (steps : List Step) (place : ℕ) (step : Step) (path : Names) → place < length steps → step ≡ get_or steps place step → state_of (take (place + 1) steps) path ≡ replaced_by (change_at (changes_of step) path) (state_of (take place steps) path)
state_more steps place step path within is =
    ap (λ (some : List Step). state_of some path) (take_more steps place step within ∙ ap (λ (x : Step). take place steps ++ x ∷ []) (sym is)) ∙ ap (λ (s : State). s path) (state_push (take place steps) step no_files)

-- a state, seen from one step earlier; what is looked at is a field of what the path holds
pub looked : {F : Type 0} (field : Held → F) (steps : List Step) (place : ℕ) (step : Step) (changes : List Change) (found : Option Change) (path : Names) → 0 < place → (place ≤ length steps) × (field (state_of steps path) ≡ field (state_of (take place steps) path)) → step ≡ get_or steps (place - 1) step → changes ≡ changes_of step → found ≡ change_at changes path → field (state_of steps path) ≡ field (replaced_by found (state_of (take (place - 1) steps) path))
looked field steps place step changes found path some so_far is same by =
    let back : place - 1 + 1 ≡ place = omega arith in
    so_far.1 ∙ ap (λ (n : ℕ). field (state_of (take n steps) path)) (sym back) ∙ ap field (state_more steps (place - 1) step path (omega (arith, so_far.0)) is) ∙ ap (λ (o : Option Change). field (replaced_by o (state_of (take (place - 1) steps) path))) (sym (by ∙ ap (λ (cs : List Change). change_at cs path) same))

-- what a path may have after a change of the path, or none
pub replaced_may : (found : Option Change) (held : Held) → (replaced_by found held).may ≡ unwrap_or (option_and_then traces_of found) held.may
replaced_may None held = refl
replaced_may (Some change) held = refl

-- what may be left, seen from one step earlier
pub looked_may : (steps : List Step) (place : ℕ) (step : Step) (changes : List Change) (named : Option (List Member)) (path : Names) → 0 < place → (place ≤ length steps) × ((state_of steps path).may ≡ (state_of (take place steps) path).may) → step ≡ get_or steps (place - 1) step → changes ≡ changes_of step → named ≡ traces_at changes path → (state_of steps path).may ≡ unwrap_or named (state_of (take (place - 1) steps) path).may
looked_may steps place step changes named path some so_far is same by =
    let found = change_at changes path in
    let held = state_of (take (place - 1) steps) path in
    looked (λ (h : Held). h.may) steps place step changes found path some so_far is same refl ∙ replaced_may found held ∙ ap (λ (o : Option (List Member)). unwrap_or o held.may) (sym by)

pub calls_le : (steps : List Step) → calls_of steps ≤ length steps
calls_le [] = omega arith
calls_le (Call changes ∷ steps) = omega (arith, calls_le steps)
calls_le (Between change ∷ steps) = omega (arith, calls_le steps)

-- what is told after one step more
pub adds_push : (old new : List Step) (step : Step) (state : State) → new ≡ old ++ step ∷ [] → state_of new ≡ state → AddsStep (count_of step) old new state
adds_push old new step state is same =
    let longer : length new ≡ length old + 1 = ap length is ∙ length_push old step in
    let front : (moment : ℕ) → moment ≤ length old → take moment new ≡ take moment old = λ moment within. ap (take moment) is ∙ take-append-le moment old (step ∷ []) within in
    record {
      adds = record {
        count = longer;
        past = λ moment within. ap (λ (steps : List Step). let m : Moment = record { calls = calls_of steps; state = state_of steps } in m) (front moment within);
        calls = ap calls_of (take_all (length new) new (omega arith)) ∙ ap calls_of is ∙ calls_push old step ∙ ap (λ (steps : List Step). calls_of steps + count_of step) (sym (take_all (length old) old (omega arith)));
      };
      reaches = same;
    }

-- ---- one step back

some_left : (steps : List Step) (place calls call : ℕ) → call < calls → calls ≡ calls_of (take place steps) → 0 < place
some_left steps zero calls call more counted = absurd (omega (arith, more, counted))
some_left steps (suc place) calls call more counted = omega arith

-- the calls up to a place, and up to the one before
pub calls_back : (steps : List Step) (place calls call : ℕ) (step : Step) → call < calls → calls ≡ calls_of (take place steps) → place ≤ length steps → step ≡ get_or steps (place - 1) step → calls ≡ calls_of (take (place - 1) steps) + count_of step
calls_back steps place calls call step more counted within is =
    let some : 0 < place = some_left steps place calls call more counted in
    let back : place - 1 + 1 ≡ place = omega arith in
    counted ∙ ap (λ (n : ℕ). calls_of (take n steps)) (sym back) ∙ ap calls_of (take_more steps (place - 1) step (omega (arith, within, some)) ∙ ap (λ (s : Step). take (place - 1) steps ++ s ∷ []) (sym is)) ∙ calls_push (take (place - 1) steps) step

-- more calls were made by each later place
pub later_back : (steps : List Step) (place calls call : ℕ) → call < calls → calls ≡ calls_of (take place steps) → ((later : ℕ) → place < later → later ≤ length steps → call < calls_of (take later steps)) → (later : ℕ) → place - 1 < later → later ≤ length steps → call < calls_of (take later steps)
later_back steps place calls call more counted so_far later after within =
    ⊎_elim (λ further. so_far later further within) (λ here. let same : place ≡ later = omega (arith, after, here) in omega (arith, more, counted, ap (λ (n : ℕ). calls_of (take n steps)) same)) (cases_lt place later)
