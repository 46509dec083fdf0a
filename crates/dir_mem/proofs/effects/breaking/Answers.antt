use Rattle.std.proofs.Common.{◌||◌, sym, ◌∙◌, ap, arith, Vec, Global}
use Rattle.peg_base.specs.Names.{under}
use Rattle.dir_disk.specs.State.{State}
use Rattle.dir_mem.specs.declared.log.Change.{Change}
use Rattle.dir_mem.specs.Log.{after_changes, state_of}
use Rattle.dir_mem.specs.Effects.{broken, after_break}
use Rattle.dir_mem.proofs.EffectLemmas.{brings_push, brings_skip, brings_all, if_true, if_false, if_same, or_first, or_second, or_neither, unlisted_absent}
use Rattle.dir_mem.proofs.effects.breaking.Goals as goal
use Rattle.dir_mem.proofs.effects.breaking.Goals.{then-under+in_ok-break_of+in_ok-push, then-under-via-then-under, then-under-via-else-under+then-under-2, else-under+else-under-2}

pub loop-path-preserved : goal.loop-path-preserved
loop-path-preserved c =
    let s = state_of c.args.steps.now in
    let fault : State = after_changes c.args.changes.now s in
    let top = c.args.top.now in
    let other = c.args.other.now in
    let path = c.path-item.result in
    let reach = under top path || under other path in
    elim c.if-under.branch [
      | then-under+in_ok-break_of+in_ok-push w ↦ brings_push c.args.paths.now c.loop-path.path-index path c.loop-path.broken.items c.if-under.broken.items w.in_ok-break_of.field-0 s (after_break top other fault s) c.loop-path-test.true c.path-item.is (ap (λ (v : Vec Change Global). v.items) w.broken-is ∙ w.in_ok-push.ensures.items) w.in_ok-break_of.ensures.path (w.in_ok-break_of.ensures.made ∙ sym (if_true reach (broken (fault path)) (s path) (elim w.then-under.branch [
        | then-under-via-then-under w' ↦ or_first (under top path) (under other path) (sym c.under.ensures.value ∙ w'.if-under.true)
        | then-under-via-else-under+then-under-2 w' ↦ or_second (under top path) (under other path) (sym w'.under-else-under.ensures.value ∙ w'.if-under-2.true)
      ]))) c.loop-path.invariant
      | else-under+else-under-2 w ↦ brings_skip c.args.paths.now c.loop-path.path-index path c.loop-path.broken.items c.if-under.broken.items s (after_break top other fault s) c.loop-path-test.true c.path-item.is (ap (λ (v : Vec Change Global). v.items) w.broken-is) (if_false reach (broken (fault path)) (s path) (or_neither (under top path) (under other path) (sym c.under.ensures.value ∙ w.if-under.false) (sym w.under-else-under.ensures.value ∙ w.if-under-2.false))) c.loop-path.invariant
    ]

pub returns : goal.returns
returns c =
    let s = state_of c.args.steps.now in
    let fault : State = after_changes c.args.changes.now s in
    brings_all c.args.paths.now c.loop-path.path-index c.loop-path.broken.items s (after_break c.args.top.now c.args.other.now fault s) (omega arith) c.requires.before (λ path unlisted is. if_same (under c.args.top.now path || under c.args.other.now path) (broken (fault path)) (s path) (λ below. ap broken (unlisted_absent c.args.paths.now fault path c.requires.after unlisted) ∙ sym is)) c.loop-path.invariant
