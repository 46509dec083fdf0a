use Rattle.std.proofs.Common.{ℕ, List, Option, All, ◌∙◌, sym, ap, subst}
use Rattle.std.specs.Global.{Vec}
use Rattle.std.specs.List.{list_all}
use Rattle.std.proofs.lemmas.List.Elements.{All-push}
use Rattle.dir_disk.specs.State.{State}
use Rattle.dir_mem.specs.Images.{Files, IsFair, bytes_in, image_of, is_fair}
use Rattle.dir_mem.specs.Log.{state_of}
use Rattle.dir_mem.proofs.ImageLemmas.{fair_at, fair_variation, grows_push}
use Rattle.dir_mem.proofs.images.add_variations.Goals as goal

pub loop-content-preserved : goal.loop-content-preserved
loop-content-preserved c =
    let state : State = state_of c.args.steps.now in
    let path = c.args.path.now in
    let image = c.in_ok-variation.field-0 in
    let P : Files → Type 0 = λ image. IsFair state (image_of image) in
    let content = c.content-item.result in
    let fair = fair_at (is_fair (state path)) c.deref-content-items.result.now c.loop-content.content-index content (ap (λ (cs : List (Option (Vec ℕ))). list_all (λ c. is_fair (state path) (bytes_in c)) cs) c.deref-content-items.ensures.value ∙ c.in_ok-contents.ensures) c.loop-content-test.true c.content-item.is in
    record {
      fair = subst (λ (images : List Files). All P images) (sym c.in_ok-push.ensures.items) (All-push P c.loop-content.images.items image c.loop-content.invariant.fair (fair_variation c.args.paths.now state (image_of c.args.now.now) (image_of image) path (bytes_in content) c.requires.sound c.requires.lists c.requires.now fair c.in_ok-variation.ensures));
      grows = grows_push c.args.images.now.items c.loop-content.images.items c.push.new.self.items image c.in_ok-push.ensures.items c.loop-content.invariant.grows;
    }
