-- A record that is read as an edge list isn't bad. No group is open, so nothing has to be written at once.
use Rattle.std.proofs.Common.{◌≡◌, ◌∙◌, ℕ, List, [], ◌∷◌, ◌++◌, ap}
use Rattle.gimv_base.specs.Lines.{with_lf}
use Rattle.gimv_base.proofs.PartLemmas.{goes_on_with_none}
use Rattle.child.proofs.EdgesLemmas.{not_bad, where_ok}
use Rattle.child.proofs.edges.EdgesRoleRole.line.Goals as goal

pub returns-clause-good : goal.returns-clause-good
returns-clause-good c =
    let held = c.in_ok-extend_from_slice.ensures.items ∙ ap (λ (l : List ℕ). l ++ c.args.text.now) c.clear.ensures.items in
    let list : c.deref.result.now ≡ with_lf c.args.text.now = c.deref.ensures.value ∙ c.in_ok-push.ensures.items ∙ ap (λ (l : List ℕ). l ++ (10 ∷ [])) held in
    where_ok c.append_edges.result (not_bad _ _ _ list) c.append_edges.ensures.good

pub returns-clause-prompt : goal.returns-clause-prompt
returns-clause-prompt c = where_ok c.append_edges.result (λ grown. λ _. goes_on_with_none _ _ _ grown) c.append_edges.ensures.ok
