use Rattle.std.proofs.Common.{sym, subst}
use Rattle.peg_base.specs.Names.{Names}
use Rattle.dir_disk.specs.Moments.{Told, files}
use Rattle.dir_disk.specs.Calls.{CanAppend}
use Rattle.committer.specs.Folders.{IsBegun}
use Rattle.committer.proofs.SealingLemmas.{ready_begun, ready_unmarked, can_mark}
use Rattle.committer.proofs.sealing.Sealing.finish.Goals as goal

pub seal-requires-clause-unmarked : goal.seal-requires-clause-unmarked
seal-requires-clause-unmarked g c =
    λ tells.
    let old : Told = g.D.Dir.told c.args.dir.now in
    let begun : IsBegun c.self.inside.folder (files old) = subst (λ (folder : Names). IsBegun folder (files old)) (sym c.self.view_is) (c.requires.begun tells) in
    ready_unmarked c.self.inside.folder (files old) (ready_begun c.self.inside.folder (files old) begun)

pub seal-requires-clause-can : goal.seal-requires-clause-can
seal-requires-clause-can g c =
    λ tells.
    let old : Told = g.D.Dir.told c.args.dir.now in
    let begun : IsBegun c.self.inside.folder (files old) = subst (λ (folder : Names). IsBegun folder (files old)) (sym c.self.view_is) (c.requires.begun tells) in
    subst (λ (path : Names). CanAppend (files old) path) (sym c.self.invariant.1) (can_mark c.self.inside.folder (files old) (ready_begun c.self.inside.folder (files old) begun))
