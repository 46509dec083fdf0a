use Rattle.std.proofs.Common.{take}
use Rattle.dir_mem.specs.Images.{image_of, seen}
use Rattle.dir_mem.specs.Log.{state_of}
use Rattle.dir_mem.proofs.ImageLemmas.{PutUpTo}
use Rattle.dir_mem.proofs.images.image_at.Given as goal

abbrev pub invariant-loop-path : goal.invariant-loop-path
invariant-loop-path l =
    PutUpTo (take l.path-index l.paths) (λ p. seen l.view (state_of l.steps p)) (image_of l.image)
