use Rattle.std.proofs.Common.{◌≡◌, ◌++◌, ◌∷◌, [], IfOk, ℕ, List, subst}
use Rattle.merge.specs.Runs.{merge_name}
use Rattle.merge.proofs.passes.merge_path.Goals as goal

pub returns : goal.returns
unfolding merge_name
returns c =
    subst (λ (n : List ℕ). IfOk c.child.result (λ path. path ≡ c.args.scratch.now ++ n ∷ [])) c.in_ok-name.ensures c.child.ensures
