use Rattle.std.proofs.Common.{◌≡◌, ◌++◌, ◌∷◌, [], List, ◌∙◌, ap, sym, subst, arith}
use Rattle.dir_disk.specs.State.{no_files}
use Rattle.dir_mem.specs.declared.log.Step.{Step}
use Rattle.dir_mem.specs.declared.log.Step.TheVariants.{Between}
use Rattle.dir_mem.specs.declared.mem_dir.Lending.{Lending}
use Rattle.dir_mem.specs.Log.{state_of, after_changes, calls_of}
use Rattle.dir_mem.specs.Sound.{IsSoundState, HasNoTop, ListsAll, LendsOpen}
use Rattle.std.specs.Prelude.{is_ok}
use Rattle.dir_mem.proofs.EffectLemmas.{if_true}
use Rattle.dir_mem.proofs.PastLemmas.{past_push}
use Rattle.dir_mem.proofs.LogLemmas.{state_push, calls_push, adds_push}
use Rattle.dir_mem.proofs.mem_dir.MemDir.add_loan.Goals as goal

pub returns-clause-ok : goal.returns-clause-ok
returns-clause-ok c =
    let old : List Step = c.args.self.now.steps.items in
    let step : Step = Between c.args.change in
    let items : c.push.new.self.items ≡ old ++ step ∷ [] = c.in_ok-push.ensures.items ∙ ap (λ (steps : List Step). steps ++ step ∷ []) c.in_ok-reserve-2.ensures.items in
    adds_push old c.push.new.self.items step (after_changes (c.args.change ∷ []) (state_of old)) items (ap state_of items ∙ state_push old step no_files)

pub invariant_of-self-2 : goal.invariant_of-self-2
invariant_of-self-2 c =
    let old : List Step = c.args.self.now.steps.items in
    let step : Step = Between c.args.change in
    let items : c.push.new.self.items ≡ old ++ step ∷ [] = c.in_ok-push.ensures.items ∙ ap (λ (steps : List Step). steps ++ step ∷ []) c.in_ok-reserve-2.ensures.items in
    let state : state_of c.push.new.self.items ≡ after_changes (c.args.change ∷ []) (state_of old) = ap state_of items ∙ state_push old step no_files in
    let lent : c.push-2.new.self.items ≡ c.args.self.now.lent.items ++ c.args.lending ∷ [] = c.push-2.ensures.items ∙ if_true (is_ok c.push-2.result) (c.reserve.new.self.items ++ c.args.lending ∷ []) c.reserve.new.self.items (c.push-2.ensures.succeeds (omega (arith, c.in_ok-reserve.ensures.ok))) ∙ ap (λ (ls : List Lending). ls ++ c.args.lending ∷ []) c.in_ok-reserve.ensures.items in
    record {
      counted = omega (arith, c.args.self.now.counted, ap calls_of items ∙ calls_push old step);
      sound = subst IsSoundState (sym state) c.requires.sound;
      no_top = subst HasNoTop (sym state) c.requires.no_top;
      listed = subst (ListsAll c.args.self.now.paths.items) (sym state) c.requires.listed;
      open_ends = subst (λ (ls : List Lending). LendsOpen ls (state_of c.push.new.self.items)) (sym lent) (subst (LendsOpen (c.args.self.now.lent.items ++ c.args.lending ∷ [])) (sym state) c.requires.open_ends);
      past = past_push c.args.self.now.paths.items old c.push.new.self.items step items c.args.self.now.past (subst IsSoundState (sym state) c.requires.sound) (subst HasNoTop (sym state) c.requires.no_top) (subst (ListsAll c.args.self.now.paths.items) (sym state) c.requires.listed);
      room = omega (arith, c.in_ok-push.ensures.len, c.in_ok-reserve-2.ensures.ok, c.in_ok-push.ensures.capacity, c.in_ok-reserve-2.ensures.len, c.push-2.ensures.upper_bound, c.in_ok-reserve.ensures.len, c.len.ensures);
    }
