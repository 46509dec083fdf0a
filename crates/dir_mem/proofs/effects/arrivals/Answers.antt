use Rattle.std.proofs.Common.{◌≡◌, ◌++◌, sym, ◌∙◌, ap, subst, arith, Vec, Global, rules}
use Rattle.std.proofs.lemmas.Bool.{false≢true}
use Rattle.peg_base.specs.Names.{Names, after_top}
use Rattle.peg_base.proofs.Under.{under-split}
use Rattle.dir_disk.specs.State.{State, moved_to}
use Rattle.dir_disk.specs.Calls.{HasFile}
use Rattle.dir_mem.specs.declared.log.Change.{Change}
use Rattle.dir_mem.specs.Log.{state_of, replaced}
use Rattle.dir_mem.proofs.MoveLemmas.{arrives_push, arrives_skip, arrives_all}
use Rattle.dir_mem.proofs.effects.arrivals.Goals as goal
use Rattle.dir_mem.proofs.effects.arrivals.Goals.{then-under+in-Some+in_ok-moved+in_ok-arrival_of+in_ok-push, else-under, else-under-via-else-under, else-under-via-then-under+in-None-1}

pub moved_path-requires : goal.moved_path-requires
moved_path-requires c =
    let path = c.path-item.result in
    let from = c.args.from.now in
    let split : path ≡ from ++ after_top from path = under-split from path (sym c.under.ensures.value ∙ c.if-under.true) in
    c.requires.short (after_top from path) (subst (λ (p : Names). HasFile (state_of c.args.steps.now) p) split (c.in-Some.bytes.now, sym c.in-Some.ensures))

pub loop-path-preserved : goal.loop-path-preserved
loop-path-preserved c =
    let s : State = state_of c.args.steps.now in
    let path = c.path-item.result in
    elim c.if-under.branch [
      | then-under+in-Some+in_ok-moved+in_ok-arrival_of+in_ok-push w ↦ arrives_push c.args.from.now c.args.to.now c.args.paths.now c.loop-path.path-index path c.loop-path.changes.items c.if-under.changes.items w.in_ok-arrival_of.field-0 s c.loop-path-test.true c.path-item.is (ap (λ (v : Vec Change Global). v.items) w.changes-is ∙ w.in_ok-push.ensures.items) (sym c.under.ensures.value ∙ w.if-under.true) (w.in_ok-arrival_of.ensures.path ∙ w.in_ok-moved.ensures) (subst (λ (p : Names). replaced w.in_ok-arrival_of.field-0 (s p) ≡ moved_to (s path).now (s path).may (s p)) w.in_ok-moved.ensures w.in_ok-arrival_of.ensures.made) c.loop-path.invariant
      | else-under w ↦ arrives_skip c.args.from.now c.args.to.now c.args.paths.now c.loop-path.path-index path c.loop-path.changes.items c.if-under.changes.items s c.loop-path-test.true c.path-item.is (ap (λ (v : Vec Change Global). v.items) w.changes-is) (elim w.else-under.branch [
        | else-under-via-else-under w' ↦ λ below. absurd (false≢true (sym w'.if-under.false ∙ c.under.ensures.value ∙ below))
        | else-under-via-then-under+in-None-1 w' ↦ λ below. search rules
      ]) c.loop-path.invariant
    ]

pub returns-clause-made : goal.returns-clause-made
returns-clause-made c =
    arrives_all c.args.from.now c.args.to.now c.args.paths.now c.loop-path.path-index c.loop-path.changes.items (state_of c.args.steps.now) (omega arith) c.requires.lists c.loop-path.invariant
