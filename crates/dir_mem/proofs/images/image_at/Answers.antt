use Rattle.std.proofs.Common.{arith}
use Rattle.dir_mem.specs.Images.{image_of, seen}
use Rattle.dir_mem.specs.Log.{state_of}
use Rattle.dir_mem.specs.Traces.{content_of}
use Rattle.dir_mem.proofs.ImageLemmas.{put_none, put_more, seen_done}
use Rattle.dir_mem.proofs.images.image_at.Goals as goal

pub loop-path-init : goal.loop-path-init
loop-path-init c = put_none (λ p. seen c.args.view (state_of c.args.steps.now p)) c.new-image.result c.new-image.ensures.empty

pub loop-path-preserved : goal.loop-path-preserved
loop-path-preserved c =
    put_more c.args.paths.now c.loop-path.path-index c.path-item.result (λ p. seen c.args.view (state_of c.args.steps.now p)) (content_of c.seen.result) (image_of c.loop-path.image) (image_of c.set_file.new.image) c.loop-path-test.true c.path-item.is c.seen.ensures c.loop-path.invariant c.in_ok-set_file.ensures

pub returns : goal.returns
returns c =
    seen_done c.args.paths.now c.loop-path.path-index c.args.view (state_of c.args.steps.now) (image_of c.loop-path.image) c.requires (omega arith) c.loop-path.invariant
