-- Places in bytes that are searched from the front.
use Rattle.std.specs.Prelude.{◌≢◌, ℕ, ◌<◌, ◌≤◌, List, length, slice_index}

-- the bytes from `start` up to `searched` have no LF
pub record IsSearched (bytes : List ℕ) (start searched : ℕ) : Type 0 where
  pub ordered : start ≤ searched
  pub inside : searched ≤ length bytes
  pub unbroken : (k : ℕ) → start ≤ k → k < searched → slice_index bytes k ≢ 10
