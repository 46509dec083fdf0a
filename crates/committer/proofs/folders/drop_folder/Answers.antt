use Rattle.dir_disk.specs.Moments.{Told, Through, Both, files}
use Rattle.dir_disk.proofs.Through.{weaker, then_goes, at_end}
use Rattle.committer.specs.Folders.{Less, Drops, IsUnmarked}
use Rattle.committer.proofs.FolderLemmas.{drops_rest, less_start}
use Rattle.committer.proofs.folders.drop_folder.Goals as goal

pub returns-clause-steps : goal.returns-clause-steps
returns-clause-steps g c =
    λ tells.
    let folder = c.args.folder.now in
    let old : Told = g.D.Dir.told c.args.dir.now in
    let mid : Told = g.D.Dir.told c.take_mark.new.dir in
    let new : Told = g.D.Dir.told c.clear.new.dir in
    let first : Through (Drops folder (files old)) old mid = c.take_mark.ensures.steps tells in
    let less : Less folder (files old) (files mid) = at_end (Drops folder (files old)) (Less folder (files old)) old mid first (less_start folder (files old)) (λ s t drops. drops.less.1) in
    let unmarked : IsUnmarked folder (files mid) = c.in_ok-take_mark.ensures.unmarked tells in
    then_goes (Drops folder (files old)) old mid new first (weaker (Both (Less folder (files mid))) (Drops folder (files old)) mid new (λ s t rest. drops_rest folder (files old) (files mid) s t less unmarked rest) (c.clear.ensures.steps tells))
