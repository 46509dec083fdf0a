-- The end of a child of a site in memory.
use Rattle.std.specs.Prelude.{◌≡◌, ℕ, ℤ, List, Some, length, if◌then◌else◌}
use Rattle.peg_base.specs.declared.tasks.Attempt.{Attempt}
use Rattle.dir_disk.specs.Children.{Child, Ends, Leaves, Seen}
use Rattle.dir_disk.specs.Moments.{Told, files}
use Rattle.dir_mem.specs.Traces.{garbage}
use Rattle.site_mem.specs.Ends.{is_zero}
use Rattle.site_mem.specs.Plans.{IsNext, Planned, status_of}

-- the child that the plan names next has ended with the status that the plan gives it, and left its answer or `garbage`
abbrev pub EndsNext : (List (List ℕ) → List ℕ → List ℕ) → Planned → Attempt → ℤ → Seen → Seen → Told → Told → Type 0
EndsNext gives plan attempt status old new was is =
    (child : Child)
    × (ends : Ends attempt status child old new)
    × Leaves gives child status was is
    × IsNext plan old.log old.running (length ends.before)
    × (status ≡ status_of plan old.log child.attempt (gives child.words child.given))
    × ((files is child.output).now ≡ Some (if is_zero status then gives child.words child.given else garbage))
