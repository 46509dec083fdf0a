use Rattle.std.proofs.Common.{List, ◌∙◌, sym, subst}
use Rattle.dir_disk.specs.State.{Member, Allows}
use Rattle.dir_mem.proofs.LookLemmas.{gone_all}
use Rattle.dir_mem.proofs.LookBackLemmas.{all_gone}
use Rattle.dir_mem.proofs.looking.leaves_none.Goals as goal

pub returns-in-Some-clause-none : goal.returns-in-Some-clause-none
returns-in-Some-clause-none c = λ is content allowed.
    gone_all c.in-Some.traces.now content (sym c.leave_none.ensures ∙ is) (subst (λ (may : List Member). Allows may content) (sym c.in-Some.ensures) allowed)

pub returns-in-Some-clause-some : goal.returns-in-Some-clause-some
returns-in-Some-clause-some c = λ none.
    c.leave_none.ensures ∙ all_gone c.in-Some.traces.now (λ content allowed. none content (subst (λ (may : List Member). Allows may content) c.in-Some.ensures allowed))
