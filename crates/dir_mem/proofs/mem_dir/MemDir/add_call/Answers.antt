use Rattle.std.proofs.Common.{◌≡◌, ◌++◌, ◌∷◌, [], List, ◌∙◌, ap, sym, subst, arith}
use Rattle.dir_disk.specs.State.{no_files}
use Rattle.dir_mem.specs.declared.log.Step.{Step}
use Rattle.dir_mem.specs.declared.log.Step.TheVariants.{Call}
use Rattle.dir_mem.specs.Log.{state_of, after_changes, calls_of}
use Rattle.dir_mem.specs.Sound.{IsSoundState, HasNoTop, ListsAll, LendsOpen}
use Rattle.dir_mem.proofs.PastLemmas.{past_push}
use Rattle.dir_mem.proofs.LogLemmas.{state_push, calls_push, calls_le, adds_push}
use Rattle.dir_mem.proofs.mem_dir.MemDir.add_call.Goals as goal
use Rattle.dir_mem.proofs.mem_dir.MemDir.add_call.Goals.{In_ok-push}

pub overflow_add-self : goal.overflow_add-self
overflow_add-self c =
    omega (arith, calls_le c.args.self.now.steps.items, c.args.self.now.counted, c.args.self.now.steps.ok.0, c.push.new.self.small, c.in_ok-push.ensures.len)

items_of : (c : In_ok-push) → c.push.new.self.items ≡ c.args.self.now.steps.items ++ Call c.args.changes ∷ []
items_of c =
    c.in_ok-push.ensures.items ∙ ap (λ (steps : List Step). steps ++ Call c.args.changes ∷ []) c.in_ok-reserve.ensures.items

state_is : (c : In_ok-push) → state_of c.push.new.self.items ≡ after_changes c.args.changes.items (state_of c.args.self.now.steps.items)
state_is c = ap state_of (items_of c) ∙ state_push c.args.self.now.steps.items (Call c.args.changes) no_files

pub returns-clause-ok : goal.returns-clause-ok
returns-clause-ok c =
    adds_push c.args.self.now.steps.items c.push.new.self.items (Call c.args.changes) (after_changes c.args.changes.items (state_of c.args.self.now.steps.items)) (items_of ((goal.at.returns-clause-ok c).In_ok-push)) (state_is ((goal.at.returns-clause-ok c).In_ok-push))

pub invariant_of-self-2 : goal.invariant_of-self-2
invariant_of-self-2 c =
    let old : List Step = c.args.self.now.steps.items in
    let step : Step = Call c.args.changes in
    let items : c.push.new.self.items ≡ old ++ step ∷ [] = c.in_ok-push.ensures.items ∙ ap (λ (steps : List Step). steps ++ step ∷ []) c.in_ok-reserve.ensures.items in
    let state : state_of c.push.new.self.items ≡ after_changes c.args.changes.items (state_of old) = ap state_of items ∙ state_push old step no_files in
    record {
      counted = omega (arith, c.args.self.now.counted, ap calls_of items ∙ calls_push old step);
      sound = subst IsSoundState (sym state) c.requires.sound;
      no_top = subst HasNoTop (sym state) c.requires.no_top;
      listed = subst (ListsAll c.args.self.now.paths.items) (sym state) c.requires.listed;
      open_ends = subst (LendsOpen c.args.self.now.lent.items) (sym state) c.requires.open_ends;
      past = past_push c.args.self.now.paths.items old c.push.new.self.items step items c.args.self.now.past (subst IsSoundState (sym state) c.requires.sound) (subst HasNoTop (sym state) c.requires.no_top) (subst (ListsAll c.args.self.now.paths.items) (sym state) c.requires.listed);
      room = omega (arith, c.in_ok-push.ensures.len, c.in_ok-reserve.ensures.ok, c.in_ok-push.ensures.capacity, c.in_ok-reserve.ensures.len, c.len.ensures);
    }
