use Rattle.std.proofs.Common.{◌==◌, ◌∙◌, length, sym, ap}
use Rattle.std.proofs.lemmas.Bool.{false≢true}
use Rattle.peg_base.specs.Names.{Names}
use Rattle.dir_mem.specs.Log.{state_of}
use Rattle.dir_mem.proofs.LookLemmas.{append_clear, not_true}
use Rattle.dir_mem.proofs.LookBackLemmas.{append_open, not_false}
use Rattle.dir_mem.proofs.looking.can_append.Goals as goal

pub returns-then-not-is_empty-clause-can : goal.returns-then-not-is_empty-clause-can
returns-then-not-is_empty-clause-can c = λ is.
    append_clear c.args.paths.now (state_of c.args.steps.now) c.args.path.now c.requires (λ none. false≢true (c.if-not-is_empty.ensures ∙ ap (λ (p : Names). length p == 0) (c.names.ensures.value ∙ none))) (sym c.is_blocked.ensures ∙ not_true c.is_blocked.result is)

pub returns-then-not-is_empty-clause-cannot : goal.returns-then-not-is_empty-clause-cannot
returns-then-not-is_empty-clause-cannot c = λ can.
    not_false c.is_blocked.result (c.is_blocked.ensures ∙ append_open c.args.paths.now (state_of c.args.steps.now) c.args.path.now can)
