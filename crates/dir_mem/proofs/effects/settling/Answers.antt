use Rattle.std.proofs.Common.{sym, ◌∙◌, ap, arith, Vec, Global}
use Rattle.dir_disk.specs.State.{after_settle, settled}
use Rattle.peg_base.specs.Names.{under}
use Rattle.dir_mem.specs.declared.log.Change.{Change}
use Rattle.dir_mem.specs.Log.{state_of}
use Rattle.dir_mem.proofs.EffectLemmas.{brings_push, brings_skip, brings_all, if_true, if_false, if_same}
use Rattle.dir_mem.proofs.effects.settling.Goals as goal
use Rattle.dir_mem.proofs.effects.settling.Goals.{then-under+in_ok-settling_of+in_ok-push, else-under}

pub loop-path-preserved : goal.loop-path-preserved
loop-path-preserved c =
    let s = state_of c.args.steps.now in
    let top = c.args.top.now in
    let path = c.path-item.result in
    elim c.if-under.branch [
      | then-under+in_ok-settling_of+in_ok-push w ↦ brings_push c.args.paths.now c.loop-path.path-index path c.loop-path.changes.items c.if-under.changes.items w.in_ok-settling_of.field-0 s (after_settle top s) c.loop-path-test.true c.path-item.is (ap (λ (v : Vec Change Global). v.items) w.changes-is ∙ w.in_ok-push.ensures.items) w.in_ok-settling_of.ensures.path (w.in_ok-settling_of.ensures.made ∙ sym (if_true (under top path) (settled (s path)) (s path) (sym c.under.ensures.value ∙ w.if-under.true))) c.loop-path.invariant
      | else-under w ↦ brings_skip c.args.paths.now c.loop-path.path-index path c.loop-path.changes.items c.if-under.changes.items s (after_settle top s) c.loop-path-test.true c.path-item.is (ap (λ (v : Vec Change Global). v.items) w.changes-is) (if_false (under top path) (settled (s path)) (s path) (sym c.under.ensures.value ∙ w.if-under.false)) c.loop-path.invariant
    ]

pub returns : goal.returns
returns c =
    let s = state_of c.args.steps.now in
    brings_all c.args.paths.now c.loop-path.path-index c.loop-path.changes.items s (after_settle c.args.top.now s) (omega arith) c.requires (λ path unlisted is. if_same (under c.args.top.now path) (settled (s path)) (s path) (λ below. ap settled is ∙ sym is)) c.loop-path.invariant
