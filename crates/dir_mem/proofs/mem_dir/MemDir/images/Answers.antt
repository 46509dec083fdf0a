use Rattle.std.proofs.Common.{List, All, take, subst}
use Rattle.std.specs.Prelude.{IfOk}
use Rattle.dir_mem.specs.declared.log.Step.{Step}
use Rattle.dir_mem.specs.Images.{HasViewsFirst, IsFair, IsRightBefore, image_of}
use Rattle.dir_mem.specs.Log.{state_of, told_by}
use Rattle.dir_mem.proofs.ImageLemmas.{shows_from}
use Rattle.dir_mem.proofs.mem_dir.MemDir.images.Goals as goal

pub returns : goal.returns
returns c =
    let place = c.place_before-place.result in
    let steps = c.args.self.now.steps.items in
    let fair = subst (λ (s : List Step). IfOk c.shown.result (λ images. All (λ image. IsFair (state_of (take place s)) (image_of image)) images.items)) c.deref-2.ensures.value c.shown.ensures.fair in
    let views = subst (λ (s : List Step). IfOk c.shown.result (λ images. HasViewsFirst (state_of (take place s)) images.items)) c.deref-2.ensures.value c.shown.ensures.views in
    let before = subst (λ (s : List Step). IsRightBefore c.args.moment place (told_by s)) c.deref.ensures.value c.place_before-place.ensures in
    shows_from c.shown.result c.args.moment place steps c.args.self.now.paths.items before c.args.self.now.past fair views
