-- How far a file was compared with a text.
use Rattle.std.specs.Prelude.{◌≡◌, ◌≢◌, ℕ, ◌+◌, ◌^◌, ◌≤◌, List, length, take}
use Rattle.store.specs.declared.comparing.Compared.{Compared}
use Rattle.store.specs.Differing.{lfs, common, parting_line}

-- no more lines were counted than bytes, and these are not too many
pub record IsCounted (compared : Compared) : Type 0 where
  pub lines : compared.line ≤ compared.place + 1
  pub few : compared.place ≤ 2 ^ 50 + 65536

-- the text is a front of the file, and this is where it ends there
pub record IsSame (file text : List ℕ) (compared : Compared) : Type 0 where
  pub place : compared.place ≡ length text
  pub front : take compared.place file ≡ text
  pub line : compared.line ≡ lfs text + 1

-- the text is no front of the file, and this is the line in which they part
pub record IsParted (file text : List ℕ) (compared : Compared) : Type 0 where
  pub no_front : common file text ≢ text
  pub line : compared.line ≡ parting_line file text
