use Rattle.std.proofs.Common.{All}
use Rattle.dir_mem.specs.Images.{HasViewsFirst, IsFair, image_of}
use Rattle.dir_mem.specs.Log.{state_of}
use Rattle.dir_mem.proofs.images.shown.Given as goal

abbrev pub invariant-loop-path : goal.invariant-loop-path
invariant-loop-path l = record {
  fair : All (λ image. IsFair (state_of l.steps) (image_of image)) l.images.items;
  views : HasViewsFirst (state_of l.steps) l.images.items;
}
