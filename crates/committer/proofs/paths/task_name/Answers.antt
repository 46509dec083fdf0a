use Rattle.std.proofs.Common.{◌≡◌, ℕ, List, ◌++◌, ◌∙◌, IfOk, ap, subst}
use Rattle.digit_names.specs.Digits.{digits}
use Rattle.committer.specs.Paths.{task_front, task_name}
use Rattle.committer.proofs.paths.task_name.Goals as goal

pub returns : goal.returns
unfolding task_name
returns c =
    let text : c.task_front.result.now ++ digits 6 c.from.result ≡ task_front c.args.phase ++ digits 6 c.args.task = ap (λ (front : List ℕ). front ++ digits 6 c.from.result) c.task_front.ensures ∙ ap (λ (n : ℕ). task_front c.args.phase ++ digits 6 n) c.from.ensures in
    subst (λ (t : List ℕ). IfOk c.numbered.result (λ name. name ≡ t)) text c.numbered.ensures
