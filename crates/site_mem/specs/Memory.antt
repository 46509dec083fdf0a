-- What a site in memory is.
use Rattle.std.specs.Prelude.{ℕ, List, []}
use Rattle.dir_disk.specs.Children.{Given, Seen}
use Rattle.dir_mem.specs.Memory.{fail_of}
use Rattle.dir_mem.specs.declared.mem_dir.MemDir.{MemDir}
use Rattle.site_mem.specs.Voices.{Voiced}
use Rattle.site_mem.specs.Plans.{Planned, unplanned}

-- its directory, its children, what each start was given, what was said, and what the children are told to do
pub record Memory : Type 0 where
  pub dir : MemDir
  pub seen : Seen
  pub given : List Given
  pub voice : Voiced
  pub plan : Planned

-- what the calls of its directory leave as it is
abbrev pub beside_dir : Memory → Seen × List Given × Voiced × Planned × List ℕ
beside_dir site = (site.seen, site.given, site.voice, site.plan, fail_of site.dir)

-- nothing was started or said yet
abbrev pub fresh : MemDir → Memory
fresh dir =
    record {
      dir = dir;
      seen = record { running = []; log = []; start_faults = 0 };
      given = [];
      voice = record { said = []; says = []; mute = []; faults = 0 };
      plan = unplanned;
    }
