use Rattle.std.proofs.Common.{◌≡◌, ap, ◌∙◌}
use Rattle.std.proofs.lemmas.Result.{on_ok_weaker}
use Rattle.peg_base.proofs.Under.{under-refl}
use Rattle.dir_disk.specs.State.{State, after_settle}
use Rattle.dir_disk.specs.Moments.{Told, Adds, files}
use Rattle.dir_disk.proofs.Steps.{settled_none, removed_now}
use Rattle.vectors.proofs.silent_dir.take_away.Goals as goal

-- the file was removed, and a path that has none and is settled is absent
pub returns-clause-gone : goal.returns-clause-gone
returns-clause-gone g c =
    λ tells.
    let path = c.args.path.now in
    let mid : Told = g.D.Dir.told c.remove_tree.new.self in
    let new : Told = g.D.Dir.told c.settle.new.self in
    let removed = (c.in_ok-remove_tree.ensures.call tells).ok in
    let none = ap (λ (s : State). (s path).now) removed.1 ∙ removed_now path (files (g.D.Dir.told c.args.dir.now)) path (under-refl path) in
    on_ok_weaker c.settle.result (λ (settled : Adds mid new × (files new ≡ after_settle path (files mid))). ap (λ (s : State). s path) settled.1 ∙ settled_none path (files mid) path (under-refl path) none) (c.settle.ensures.call tells).ok
