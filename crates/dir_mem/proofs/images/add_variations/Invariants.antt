use Rattle.std.proofs.Common.{◌≡◌, ◌++◌, List, All}
use Rattle.dir_mem.specs.Images.{Files, IsFair, image_of}
use Rattle.dir_mem.specs.Log.{state_of}
use Rattle.dir_mem.proofs.images.add_variations.Given as goal

abbrev pub invariant-loop-content : goal.invariant-loop-content
invariant-loop-content l = record {
  fair : All (λ image. IsFair (state_of l.steps) (image_of image)) l.images.items;
  grows : (more : List Files) × (l.images.items ≡ l.initial.images.items ++ more);
}
