use Rattle.std.proofs.Common.{◌≡◌, true}
use Rattle.std.specs.List.{list_all}
use Rattle.dir_mem.specs.Images.{bytes_in, is_fair}
use Rattle.dir_mem.specs.Log.{state_of}
use Rattle.dir_mem.proofs.images.contents_of.Given as goal

abbrev pub invariant-loop-trace : goal.invariant-loop-trace
invariant-loop-trace l = list_all (λ c. is_fair (state_of l.steps l.path) (bytes_in c)) l.contents.items ≡ true
