use Rattle.std.proofs.Common.{◌≡◌, ◌+◌, ◌<◌, false}
use Rattle.dir_disk.specs.Moments.{files}
use Rattle.committer.specs.Folders.{IsUnmarked}
use Rattle.mining.specs.declared.place.Place.TheVariants.{Vector}
use Rattle.mining.specs.Places.{folder_of}
use Rattle.mining.proofs.DueLemmas.{if_ok}
use Rattle.driver.proofs.Stored.{err_disk}
use Rattle.driver.proofs.resume.goes_further.Goals as goal

pub returns-then-k-most-clause-no : goal.returns-then-k-most-clause-no
returns-then-k-most-clause-no g c =
    λ tells.
    if_ok (λ more. more ≡ false → IsUnmarked (folder_of (Vector (c.args.k + 1))) (files (g.S.Dir.told c.has.new.site))) (λ more. more ≡ false → c.args.k < c.args.most → IsUnmarked (folder_of (Vector (c.args.k + 1))) (files (g.S.Dir.told c.has.new.site))) c.has.result (λ more none is less. none is) (c.has.ensures.no tells)

pub returns-then-k-most-clause-no_store : goal.returns-then-k-most-clause-no_store
returns-then-k-most-clause-no_store g c =
    err_disk (λ path line. ⊥) c.has.result c.has.ensures.of_disk
