-- The words of a command.
use Rattle.std.specs.Prelude.{◌≢◌, ℕ, ◌≤◌, List, length, All}

-- 1 to 255 bytes, none of which is NUL
pub record IsWord (word : List ℕ) : Type 0 where
  pub some : 1 ≤ length word
  pub short : length word ≤ 255
  pub no_nul : All (λ b. b ≢ 0) word
