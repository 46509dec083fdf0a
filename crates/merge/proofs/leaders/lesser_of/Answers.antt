use Rattle.std.proofs.Common.{◌∙◌, ℕ, Option, sym, subst}
use Rattle.merge.specs.Sources.{IsLeastOf}
use Rattle.merge.proofs.LeaderLemmas.{first_least, second_least}
use Rattle.merge.proofs.leaders.lesser_of.Goals as goal

pub returns-then-comes_before : goal.returns-then-comes_before
returns-then-comes_before c =
    λ low mid high up on first second.
    let sources = c.args.sources.now in
    first_least sources low mid high up on c.in-Some.first c.in-Some-other.second (subst (λ (o : Option ℕ). IsLeastOf sources low mid o) c.in-Some.is first) (subst (λ (o : Option ℕ). IsLeastOf sources mid high o) c.in-Some-other.is second) c.index-sources-first.result c.index-sources-second.result (sym c.comes_before.ensures ∙ c.if-comes_before.true)

pub returns-else-comes_before : goal.returns-else-comes_before
returns-else-comes_before c =
    λ low mid high up on first second.
    let sources = c.args.sources.now in
    second_least sources low mid high up on c.in-Some.first c.in-Some-other.second (subst (λ (o : Option ℕ). IsLeastOf sources low mid o) c.in-Some.is first) (subst (λ (o : Option ℕ). IsLeastOf sources mid high o) c.in-Some-other.is second) c.index-sources-first.result c.index-sources-second.result (sym c.comes_before.ensures ∙ c.if-comes_before.false)
