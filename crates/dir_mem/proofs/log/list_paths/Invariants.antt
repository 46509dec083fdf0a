use Rattle.std.proofs.Common.{◌≡◌, true, take}
use Rattle.peg_base.specs.Names.{Names}
use Rattle.dir_mem.specs.Sound.{is_listed}
use Rattle.dir_mem.specs.Effects.{AllListed}
use Rattle.dir_mem.proofs.log.list_paths.Given as goal

-- the paths so far are listed
abbrev pub invariant-loop-change : goal.invariant-loop-change
invariant-loop-change l = record {
  kept : (path : Names) → is_listed l.initial.paths.items path ≡ true → is_listed l.paths.items path ≡ true;
  listed : AllListed l.paths.items (take l.change-index l.changes);
}
