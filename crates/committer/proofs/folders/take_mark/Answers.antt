use Rattle.std.proofs.Common.{◌≡◌, true, [], ◌∷◌, sym, subst}
use Rattle.std.proofs.lemmas.Result.{on_ok_weaker}
use Rattle.peg_base.specs.Names.{Names, under}
use Rattle.peg_base.proofs.Under.{under-append, under-refl}
use Rattle.dir_disk.specs.Calls.{Remove, Settle, after_all}
use Rattle.dir_disk.specs.Lent.{IsFree}
use Rattle.dir_disk.specs.Moments.{Told, Through, Both, files}
use Rattle.dir_disk.proofs.Lendings.{free_below}
use Rattle.dir_disk.proofs.Through.{weaker}
use Rattle.committer.specs.Paths.{success_name, success_of}
use Rattle.committer.specs.Folders.{Less, Drops}
use Rattle.committer.proofs.FolderLemmas.{drops_mark, cleared_is_empty, empty_is_unmarked}
use Rattle.committer.proofs.folders.take_mark.Goals as goal

pub clear-requires : goal.clear-requires
clear-requires g c =
    let folder = c.args.folder.now in
    subst (λ (path : Names). IsFree (g.D.Dir.lent c.args.dir.now) path) (sym c.in_ok-success.ensures) (free_below (g.D.Dir.lent c.args.dir.now) folder (success_of folder) (under-append folder (success_name ∷ [])) c.requires.lent)

pub returns-clause-steps : goal.returns-clause-steps
returns-clause-steps g c =
    λ tells.
    let folder = c.args.folder.now in
    let old : Told = g.D.Dir.told c.args.dir.now in
    let new : Told = g.D.Dir.told c.clear.new.dir in
    let steps : Through (Both (Less (success_of folder) (files old))) old new = subst (λ (path : Names). Through (Both (Less path (files old))) old new) c.in_ok-success.ensures (c.clear.ensures.steps tells) in
    weaker (Both (Less (success_of folder) (files old))) (Drops folder (files old)) old new (λ s t less. drops_mark folder (files old) s t less) steps

pub returns-clause-unmarked : goal.returns-clause-unmarked
returns-clause-unmarked g c =
    λ tells.
    let folder = c.args.folder.now in
    let old : Told = g.D.Dir.told c.args.dir.now in
    let new : Told = g.D.Dir.told c.clear.new.dir in
    let mark = c.in_ok-success.success in
    on_ok_weaker c.clear.result (λ (left : files new ≡ after_all (Remove mark ∷ Settle mark ∷ []) (files old)). empty_is_unmarked folder mark (files new) (subst (λ (path : Names). under mark path ≡ true) c.in_ok-success.ensures (under-refl mark)) (cleared_is_empty mark (files old) (files new) left)) (c.clear.ensures.left tells)
