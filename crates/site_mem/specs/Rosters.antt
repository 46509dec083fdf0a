-- The children of a site in memory.
use Rattle.std.specs.Prelude.{List}
use Rattle.dir_disk.specs.Children.{Given, Seen}

-- what the site knows of its children, and what each start was given
pub record Roll : Type 0 where
  pub seen : Seen
  pub given : List Given
