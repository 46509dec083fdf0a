-- The moments of a directory, with their states, and what holds at each of them.
use Rattle.std.specs.Prelude.{◌≡◌, ℕ, ◌+◌, ◌<◌, ◌≤◌}
use Rattle.dir_disk.specs.State.{State, Image, FitsEither}

-- a moment between two steps: how many calls of the directory were made before it, and the state
pub record Moment : Type 0 where
  pub calls : ℕ
  pub state : State

-- all moments so far, by their numbers; `count` is the number of the present one
pub record Told : Type 0 where
  pub count : ℕ
  pub at : ℕ → Moment

-- the present state
abbrev pub files : Told → State
files told = (told.at told.count).state

-- how many calls were made
abbrev pub clock : Told → ℕ
clock told = (told.at told.count).calls

-- one step more, which is so many calls of the directory
pub record AddsBy (more : ℕ) (old new : Told) : Type 0 where
  pub count : new.count ≡ old.count + 1
  pub past : (moment : ℕ) → moment ≤ old.count → new.at moment ≡ old.at moment
  pub calls : (new.at new.count).calls ≡ (old.at old.count).calls + more

-- one call more
abbrev pub Adds : Told → Told → Type 0
Adds = AddsBy 1

-- each step since old goes from one state to the next by Step
pub record Through (Step : State → State → Type 0) (old new : Told) : Type 0 where
  pub later : old.count ≤ new.count
  pub past : (moment : ℕ) → moment ≤ old.count → new.at moment ≡ old.at moment
  pub each : (moment : ℕ) → old.count ≤ moment → moment < new.count → Step (new.at moment).state (new.at (moment + 1)).state

-- each image of a moment within a step has P
abbrev pub EachImage : (Image → Type 0) → State → State → Type 0
EachImage P before after = (image : Image) → FitsEither before after image → P image

-- the states before and after a step have P
abbrev pub Both : (State → Type 0) → State → State → Type 0
Both P before after = P before × P after

-- the number of calls never falls
abbrev pub IsClock : Told → Type 0
IsClock told = (early late : ℕ) → early ≤ late → late ≤ told.count → (told.at early).calls ≤ (told.at late).calls

-- no step was made at the present clock yet
abbrev pub IsFresh : Told → Type 0
IsFresh told = (moment : ℕ) → moment < told.count → (told.at moment).calls < clock told
