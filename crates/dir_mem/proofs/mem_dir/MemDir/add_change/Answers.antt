use Rattle.std.proofs.Common.{◌≡◌, ◌++◌, ◌∷◌, [], List, ◌∙◌, ap, sym, subst, arith}
use Rattle.std.specs.Prelude.{is_ok}
use Rattle.dir_disk.specs.State.{no_files}
use Rattle.dir_mem.specs.declared.log.Step.{Step}
use Rattle.dir_mem.specs.declared.log.Step.TheVariants.{Between}
use Rattle.dir_mem.specs.Log.{state_of, after_changes, calls_of}
use Rattle.dir_mem.specs.Sound.{IsSoundState, HasNoTop, ListsAll, LendsOpen}
use Rattle.dir_mem.proofs.EffectLemmas.{if_true}
use Rattle.dir_mem.proofs.LogLemmas.{state_push, calls_push, adds_push}
use Rattle.dir_mem.proofs.PastLemmas.{past_push}
use Rattle.dir_mem.proofs.mem_dir.MemDir.add_change.Goals as goal

pub unwrap-requires : goal.unwrap-requires
unwrap-requires c = c.push.ensures.succeeds (omega (arith, c.in_ok-reserve.ensures.ok))

pub returns-clause-ok : goal.returns-clause-ok
returns-clause-ok c =
    let old : List Step = c.args.self.now.steps.items in
    let step : Step = Between c.args.change in
    let items : c.push.new.self.items ≡ old ++ step ∷ [] = c.push.ensures.items ∙ if_true (is_ok c.push.result) (c.reserve.new.self.items ++ step ∷ []) c.reserve.new.self.items (c.push.ensures.succeeds (omega (arith, c.in_ok-reserve.ensures.ok))) ∙ ap (λ (steps : List Step). steps ++ step ∷ []) c.in_ok-reserve.ensures.items in
    adds_push old c.push.new.self.items step (after_changes (c.args.change ∷ []) (state_of old)) items (ap state_of items ∙ state_push old step no_files)

pub invariant_of-self-2 : goal.invariant_of-self-2
invariant_of-self-2 c =
    let old : List Step = c.args.self.now.steps.items in
    let step : Step = Between c.args.change in
    let items : c.push.new.self.items ≡ old ++ step ∷ [] = c.push.ensures.items ∙ if_true (is_ok c.push.result) (c.reserve.new.self.items ++ step ∷ []) c.reserve.new.self.items (c.push.ensures.succeeds (omega (arith, c.in_ok-reserve.ensures.ok))) ∙ ap (λ (steps : List Step). steps ++ step ∷ []) c.in_ok-reserve.ensures.items in
    let state : state_of c.push.new.self.items ≡ after_changes (c.args.change ∷ []) (state_of old) = ap state_of items ∙ state_push old step no_files in
    record {
      counted = omega (arith, c.args.self.now.counted, ap calls_of items ∙ calls_push old step);
      sound = subst IsSoundState (sym state) c.requires.sound;
      no_top = subst HasNoTop (sym state) c.requires.no_top;
      listed = subst (ListsAll c.args.self.now.paths.items) (sym state) c.requires.listed;
      open_ends = subst (LendsOpen c.args.self.now.lent.items) (sym state) c.requires.open_ends;
      past = past_push c.args.self.now.paths.items old c.push.new.self.items step items c.args.self.now.past (subst IsSoundState (sym state) c.requires.sound) (subst HasNoTop (sym state) c.requires.no_top) (subst (ListsAll c.args.self.now.paths.items) (sym state) c.requires.listed);
      room = omega (arith, c.len.ensures, c.in_ok-reserve.ensures.ok, c.in_ok-reserve.ensures.len, c.push.ensures.upper_bound, c.push.ensures.capacity);
    }
