use Rattle.std.proofs.Common.{arith}
use Rattle.dir_mem.specs.Images.{image_of}
use Rattle.dir_mem.specs.Traces.{content_of}
use Rattle.dir_mem.proofs.ImageLemmas.{put_none, put_more, put_done}
use Rattle.dir_mem.proofs.images.copy_of.Goals as goal

pub loop-path-init : goal.loop-path-init
loop-path-init c = put_none (image_of c.args.image.now) c.new-copy.result c.new-copy.ensures.empty

pub loop-path-preserved : goal.loop-path-preserved
loop-path-preserved c =
    put_more c.args.paths.now c.loop-path.path-index c.path-item.result (image_of c.args.image.now) (content_of c.content_in-content.result) (image_of c.loop-path.copy) (image_of c.set_file.new.image) c.loop-path-test.true c.path-item.is c.content_in-content.ensures c.loop-path.invariant c.in_ok-set_file.ensures

pub returns : goal.returns
returns c = put_done c.args.paths.now c.loop-path.path-index (image_of c.args.image.now) (image_of c.loop-path.copy) (omega arith) c.loop-path.invariant
