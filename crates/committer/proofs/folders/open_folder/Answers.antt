use Rattle.dir_disk.specs.Moments.{Told, Both, files}
use Rattle.dir_disk.proofs.Through.{weaker}
use Rattle.committer.specs.Folders.{Less, Opens}
use Rattle.committer.proofs.FolderLemmas.{opens}
use Rattle.committer.proofs.folders.open_folder.Goals as goal

pub returns-clause-steps : goal.returns-clause-steps
returns-clause-steps g c =
    λ tells.
    let folder = c.args.folder.now in
    let old : Told = g.D.Dir.told c.args.dir.now in
    weaker (Both (Less folder (files old))) (Opens folder (files old)) old (g.D.Dir.told c.clear.new.dir) (λ s t less. opens folder (files old) s t (c.requires.unmarked tells) less) (c.clear.ensures.steps tells)
