use Rattle.std.proofs.Common.{◌≡◌, ℕ, List, [], Some}
use Rattle.std.specs.BTreeMap.{btree_map_len}
use Rattle.peg_base.specs.Names.{Names}
use Rattle.dir_disk.specs.Moments.{clock}
use Rattle.dir_mem.specs.Images.{image_of, settled_files}
use Rattle.dir_mem.specs.Log.{state_of}
use Rattle.dir_mem.specs.Memory.{told_of}
use Rattle.dir_mem.proofs.StartLemmas.{over}
use Rattle.dir_mem.proofs.mem_dir.MemDir.from_image.Given as goal

-- the files that are not in the directory yet are left in the image
abbrev pub invariant-loop-path : goal.invariant-loop-path
invariant-loop-path l = record {
  calls : clock (told_of l.dir) ≡ 0;
  lent : l.dir.lent.items ≡ [];
  fail : l.dir.fail.items ≡ [];
  faults : l.dir.faults ≡ 0;
  rest : (path : Names) (bytes : List ℕ) → image_of l.image path ≡ Some bytes → image_of l.fn.image path ≡ Some bytes;
  state : (path : Names) → over (image_of l.image path) (state_of l.dir.steps.items path) ≡ settled_files (image_of l.fn.image) path;
}

abbrev pub decreases-loop-path : goal.decreases-loop-path
decreases-loop-path l = btree_map_len l.image
