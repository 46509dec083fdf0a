use Rattle.std.proofs.Common.{◌≡◌, [], ◌∷◌, sym, subst}
use Rattle.std.proofs.lemmas.Result.{on_ok_weaker}
use Rattle.peg_base.specs.Names.{Names}
use Rattle.peg_base.proofs.Under.{under-append}
use Rattle.dir_disk.specs.State.{after_remove}
use Rattle.dir_disk.specs.Calls.{Remove, CanAppend, Does}
use Rattle.dir_disk.specs.Lent.{IsFree}
use Rattle.dir_disk.specs.Moments.{Told, files}
use Rattle.dir_disk.proofs.Lendings.{free_below}
use Rattle.committer.specs.Paths.{temporary_name, temporary_of}
use Rattle.committer.specs.Folders.{IsSealed}
use Rattle.committer.proofs.JobLemmas.{moving, removing, IsGathered, gathered, gathered_unmarked, gathered_can_mark, sealing, committed}
use Rattle.committer.proofs.commits.commit_job.Goals as goal

pub returns-in_err-move_parts-clause-steps : goal.returns-in_err-move_parts-clause-steps
returns-in_err-move_parts-clause-steps g c =
    λ tells.
    moving c.args.folder.now c.args.reducers (g.D.Dir.told c.args.dir.now) (g.D.Dir.told c.move_parts.new.dir) (c.requires.can tells) (c.move_parts.ensures.steps tells)

pub remove_tree-requires : goal.remove_tree-requires
remove_tree-requires g c =
    let folder = c.args.folder.now in
    subst (λ (path : Names). IsFree (g.D.Dir.lent c.move_parts.new.dir) path) (sym c.in_ok-temporary.ensures) (subst (λ lent. IsFree lent (temporary_of folder)) (sym c.move_parts.ensures.lent) (free_below (g.D.Dir.lent c.args.dir.now) folder (temporary_of folder) (under-append folder (temporary_name ∷ [])) c.requires.lent))

pub returns-in_err-remove_tree-clause-steps : goal.returns-in_err-remove_tree-clause-steps
returns-in_err-remove_tree-clause-steps g c =
    λ tells.
    let folder = c.args.folder.now in
    let mid : Told = g.D.Dir.told c.move_parts.new.dir in
    let new : Told = g.D.Dir.told c.remove_tree.new.self in
    let does : Does (Remove (temporary_of folder)) mid new c.remove_tree.result = subst (λ (path : Names). Does (Remove path) mid new c.remove_tree.result) c.in_ok-temporary.ensures (c.remove_tree.ensures.call tells) in
    removing folder c.args.reducers (g.D.Dir.told c.args.dir.now) mid new c.remove_tree.result (c.requires.can tells) (c.move_parts.ensures.steps tells) (λ q. g.met.D.Dir.now_allowed c.move_parts.new.dir q tells) does

pub seal-requires-clause-unmarked : goal.seal-requires-clause-unmarked
seal-requires-clause-unmarked g c =
    λ tells.
    let folder = c.args.folder.now in
    let old : Told = g.D.Dir.told c.args.dir.now in
    let mid : Told = g.D.Dir.told c.move_parts.new.dir in
    let new : Told = g.D.Dir.told c.remove_tree.new.self in
    let removed : files new ≡ after_remove (temporary_of folder) (files mid) = subst (λ (path : Names). files new ≡ after_remove path (files mid)) c.in_ok-temporary.ensures (c.in_ok-remove_tree.ensures.call tells).ok.1 in
    gathered_unmarked folder c.args.reducers (files old) (files new) (gathered folder c.args.reducers old mid new (c.requires.can tells) (c.move_parts.ensures.steps tells) (c.in_ok-move_parts.ensures.moved tells) removed)

pub seal-requires-clause-can : goal.seal-requires-clause-can
seal-requires-clause-can g c =
    λ tells.
    let folder = c.args.folder.now in
    let old : Told = g.D.Dir.told c.args.dir.now in
    let mid : Told = g.D.Dir.told c.move_parts.new.dir in
    let new : Told = g.D.Dir.told c.remove_tree.new.self in
    let removed : files new ≡ after_remove (temporary_of folder) (files mid) = subst (λ (path : Names). files new ≡ after_remove path (files mid)) c.in_ok-temporary.ensures (c.in_ok-remove_tree.ensures.call tells).ok.1 in
    subst (λ (path : Names). CanAppend (files new) path) (sym c.in_ok-success.ensures) (gathered_can_mark folder c.args.reducers (files old) (files new) (c.requires.can tells) (gathered folder c.args.reducers old mid new (c.requires.can tells) (c.move_parts.ensures.steps tells) (c.in_ok-move_parts.ensures.moved tells) removed))

pub returns-clause-steps : goal.returns-clause-steps
returns-clause-steps g c =
    λ tells.
    let folder = c.args.folder.now in
    let old : Told = g.D.Dir.told c.args.dir.now in
    let mid : Told = g.D.Dir.told c.move_parts.new.dir in
    let new : Told = g.D.Dir.told c.remove_tree.new.self in
    let does : Does (Remove (temporary_of folder)) mid new c.remove_tree.result = subst (λ (path : Names). Does (Remove path) mid new c.remove_tree.result) c.in_ok-temporary.ensures (c.remove_tree.ensures.call tells) in
    let removed : files new ≡ after_remove (temporary_of folder) (files mid) = subst (λ (path : Names). files new ≡ after_remove path (files mid)) c.in_ok-temporary.ensures (c.in_ok-remove_tree.ensures.call tells).ok.1 in
    sealing folder c.args.reducers old new (g.D.Dir.told c.seal.new.dir) (removing folder c.args.reducers old mid new c.remove_tree.result (c.requires.can tells) (c.move_parts.ensures.steps tells) (λ q. g.met.D.Dir.now_allowed c.move_parts.new.dir q tells) does) (gathered folder c.args.reducers old mid new (c.requires.can tells) (c.move_parts.ensures.steps tells) (c.in_ok-move_parts.ensures.moved tells) removed) (c.seal.ensures.steps tells)

pub returns-clause-committed : goal.returns-clause-committed
returns-clause-committed g c =
    λ tells.
    let folder = c.args.folder.now in
    let old : Told = g.D.Dir.told c.args.dir.now in
    let mid : Told = g.D.Dir.told c.move_parts.new.dir in
    let new : Told = g.D.Dir.told c.remove_tree.new.self in
    let end : Told = g.D.Dir.told c.seal.new.dir in
    let removed : files new ≡ after_remove (temporary_of folder) (files mid) = subst (λ (path : Names). files new ≡ after_remove path (files mid)) c.in_ok-temporary.ensures (c.in_ok-remove_tree.ensures.call tells).ok.1 in
    let gathers : IsGathered folder c.args.reducers (files old) (files new) = gathered folder c.args.reducers old mid new (c.requires.can tells) (c.move_parts.ensures.steps tells) (c.in_ok-move_parts.ensures.moved tells) removed in
    on_ok_weaker c.seal.result (λ (seals : IsSealed folder (files new) (files end)). committed folder c.args.reducers (files old) (files new) (files end) gathers seals) (c.seal.ensures.sealed tells)
