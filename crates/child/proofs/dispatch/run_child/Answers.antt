use Rattle.std.proofs.Common.{Option, IfSome, option_map, subst}
use Rattle.child.specs.declared.kinds.Kind.{Kind}
use Rattle.child.specs.Child.{IsFirstBad}
use Rattle.child.specs.Words.{rule_of_kind}
use Rattle.child.proofs.dispatch.run_child.Goals as goal

pub returns-in-Some-clause-bad : goal.returns-in-Some-clause-bad
returns-in-Some-clause-bad g c = λ line e.
    subst (λ (kind : Option Kind). IfSome (option_map rule_of_kind kind) (λ rule. IfSome (g.I.Source.left c.args.source.now) (λ bytes. IsFirstBad rule bytes line))) c.in-Some.ensures.is (c.run_kind.ensures.runs.bad line e)
