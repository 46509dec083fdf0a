use Rattle.std.proofs.Common.{◌≡◌, List, [], ◌∷◌, All, sym, subst}
use Rattle.dir_disk.specs.State.{State}
use Rattle.dir_mem.specs.declared.images.View.TheVariants.{Now, Oldest, Newest}
use Rattle.dir_mem.specs.Images.{Files, IsFair, image_of}
use Rattle.dir_mem.specs.Log.{state_of}
use Rattle.dir_mem.proofs.ImageLemmas.{fair_three, fair_view, now_copied, three_pushed}
use Rattle.dir_mem.proofs.images.shown.Goals as goal

pub loop-path-init : goal.loop-path-init
loop-path-init c =
    let state : State = state_of c.args.steps.now in
    let first = c.in_ok-copy_of.field-0 in
    let second = c.in_ok-image_at.field-0 in
    let third = c.in_ok-image_at-2.field-0 in
    let images = c.push-3.new.self.items in
    let are : images ≡ first ∷ second ∷ third ∷ [] = three_pushed c.new-images.result.items c.push.new.self.items c.push-2.new.self.items images first second third c.new-images.ensures.items c.in_ok-push.ensures.items c.in_ok-push-2.ensures.items c.in_ok-push-3.ensures.items in
    let now = now_copied c.args.paths.now state (image_of c.in_ok-now.now) (image_of first) c.requires.lists c.in_ok-now.ensures c.in_ok-copy_of.ensures in
    record {
      fair = subst (λ (l : List Files). All (λ image. IsFair state (image_of image)) l) (sym are) (fair_three state first second third (fair_view Now state (image_of first) c.requires.sound now) (fair_view Oldest state (image_of second) c.requires.sound c.in_ok-image_at.ensures) (fair_view Newest state (image_of third) c.requires.sound c.in_ok-image_at-2.ensures));
      views = record { first = first; second = second; third = third; others = []; are = are; now = now; of_oldest = c.in_ok-image_at.ensures; of_newest = c.in_ok-image_at-2.ensures };
    }
