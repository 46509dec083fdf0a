use Rattle.std.proofs.Common.{◌≡◌, ◌∙◌, sym, subst, true}
use Rattle.peg_base.specs.Names.{Names, under, after_top}
use Rattle.peg_base.proofs.Under.{under-take, under-split, under-append}
use Rattle.peg_base.proofs.paths.Path.under.Goals as goal

value_of : (c : goal.After-starts_with) → c.starts_with.result ≡ under c.args.top.now c.args.self.now
value_of c =
    rw (c.names.ensures.value, c.names-2.ensures.value) at c.starts_with.ensures.value ∙ sym (under-take c.args.top.now c.args.self.now)

pub returns-clause-value : goal.returns-clause-value
returns-clause-value c = value_of c

pub returns-clause-prefix : goal.returns-clause-prefix
returns-clause-prefix c = (
  λ is_under. (after_top c.args.top.now c.args.self.now, under-split c.args.top.now c.args.self.now (sym (value_of c) ∙ is_under)),
  λ split. value_of c ∙ subst (λ (path : Names). under c.args.top.now path ≡ true) (sym split.1) (under-append c.args.top.now split.0),
)
