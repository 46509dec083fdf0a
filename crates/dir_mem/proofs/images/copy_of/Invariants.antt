use Rattle.std.proofs.Common.{take}
use Rattle.dir_mem.specs.Images.{image_of}
use Rattle.dir_mem.proofs.ImageLemmas.{PutUpTo}
use Rattle.dir_mem.proofs.images.copy_of.Given as goal

abbrev pub invariant-loop-path : goal.invariant-loop-path
invariant-loop-path l = PutUpTo (take l.path-index l.paths) (image_of l.image) (image_of l.copy)
