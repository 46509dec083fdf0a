use Rattle.std.proofs.Common.{◌≡◌, [], ◌∷◌, sym, subst}
use Rattle.std.proofs.lemmas.Result.{on_ok_weaker}
use Rattle.peg_base.specs.Names.{Names}
use Rattle.peg_base.proofs.Under.{under-append}
use Rattle.dir_disk.specs.State.{after_settle}
use Rattle.dir_disk.specs.Calls.{Append, Settle, after_all}
use Rattle.dir_disk.specs.Lent.{IsFree}
use Rattle.dir_disk.specs.Moments.{Told, Through, Both, files}
use Rattle.dir_disk.proofs.Lendings.{free_below}
use Rattle.dir_disk.proofs.Through.{goes_on, started, weaker, then_goes}
use Rattle.committer.specs.Paths.{success_name, success_of}
use Rattle.committer.specs.Folders.{More, Seals}
use Rattle.committer.proofs.FolderLemmas.{seals_files, seals_mark, sealed}
use Rattle.committer.proofs.steps.seal.Goals as goal

pub make_mark-requires-clause-lent : goal.make_mark-requires-clause-lent
make_mark-requires-clause-lent g c =
    let folder = c.args.folder.now in
    subst (λ (path : Names). IsFree (g.D.Dir.lent c.settle.new.self) path) (sym c.requires.success) (subst (λ lent. IsFree lent (success_of folder)) (sym c.settle.ensures.lent) (free_below (g.D.Dir.lent c.args.dir.now) folder (success_of folder) (under-append folder (success_name ∷ [])) c.requires.lent))

pub returns-clause-steps : goal.returns-clause-steps
returns-clause-steps g c =
    λ tells.
    let folder = c.args.folder.now in
    let old : Told = g.D.Dir.told c.args.dir.now in
    let mid : Told = g.D.Dir.told c.settle.new.self in
    let new : Told = g.D.Dir.told c.make_mark.new.dir in
    let first : Through (Seals folder (files old)) old mid = goes_on (Seals folder (files old)) old old mid (Settle folder) c.settle.result (started (Seals folder (files old)) old) (c.settle.ensures.call tells) (λ q. g.met.D.Dir.now_allowed c.args.dir.now q tells) (λ t steps. seals_files folder (files old) t (c.requires.unmarked tells) steps) in
    let settled_files : files mid ≡ after_settle folder (files old) = (c.in_ok-settle.ensures.call tells).ok.1 in
    let steps : Through (Both (More (success_of folder) (files mid))) mid new = subst (λ (path : Names). Through (Both (More path (files mid))) mid new) c.requires.success (c.make_mark.ensures.steps tells) in
    then_goes (Seals folder (files old)) old mid new first (weaker (Both (More (success_of folder) (files mid))) (Seals folder (files old)) mid new (λ s t more. seals_mark folder (files old) (files mid) s t settled_files more) steps)

pub returns-clause-sealed : goal.returns-clause-sealed
returns-clause-sealed g c =
    λ tells.
    let folder = c.args.folder.now in
    let success = c.args.success.now in
    let old : Told = g.D.Dir.told c.args.dir.now in
    let mid : Told = g.D.Dir.told c.settle.new.self in
    let new : Told = g.D.Dir.told c.make_mark.new.dir in
    let settled_files : files mid ≡ after_settle folder (files old) = (c.in_ok-settle.ensures.call tells).ok.1 in
    on_ok_weaker c.make_mark.result (λ (left : files new ≡ after_all (Append success [] ∷ Settle success ∷ []) (files mid)). sealed folder (files old) (files mid) (files new) (λ q. g.met.D.Dir.now_allowed c.args.dir.now q tells) (c.requires.unmarked tells) settled_files (subst (λ (path : Names). files new ≡ after_all (Append path [] ∷ Settle path ∷ []) (files mid)) c.requires.success left)) (c.make_mark.ensures.left tells)
