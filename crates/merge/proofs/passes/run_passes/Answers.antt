use Rattle.std.proofs.Common.{◌≡◌, ◌∙◌, ◌+◌, ◌*◌, ◌^◌, ◌<◌, ◌≤◌, ◌++◌, ◌∷◌, [], ℕ, List, length, ap, sym, subst, refl, arith, rules}
use Rattle.std.specs.List.{All}
use Rattle.std.proofs.lemmas.List.{append-nil}
use Rattle.peg_base.specs.Names.{Names}
use Rattle.dir_disk.specs.Keeping.{HasWritten}
use Rattle.dir_disk.specs.Lent.{Loan, IsNoOutput}
use Rattle.dir_disk.specs.Moments.{Told, Both, files}
use Rattle.dir_disk.proofs.Through.{started}
use Rattle.pairs.specs.Pairs.{pairs_text}
use Rattle.merge.specs.Runs.{IsAfterPasses, IsRun, StandsBesidePasses, lists_at, merge_of, passes, queue_of, ten_merged}
use Rattle.merge.proofs.PassLemmas.{after_more, after_none, length_queue, passes_stand, queue_lent, queue_more, vacant_later}
use Rattle.merge.proofs.passes.run_passes.Goals as goal

pub loop-number-init : goal.loop-number-init
loop-number-init g c =
    let runs = c.args.runs.now in
    let scratch = c.args.scratch.now in
    let a : Told = g.D.Dir.told c.args.dir.now in
    record {
      queue = c.in_ok-queue.ensures ∙ sym (append-nil runs);
      after = λ tells. after_none runs scratch (files a) (c.requires.runs tells);
      steps = λ tells. started (Both (StandsBesidePasses scratch (passes (length runs)) (files a))) a;
      lent = refl;
      beside = refl;
      later = omega arith;
    }

pub pass-requires-clause-enough : goal.pass-requires-clause-enough
pass-requires-clause-enough g c =
    let runs = c.args.runs.now in
    let number = c.loop-number.number in
    let below : number < passes (length runs) = omega (arith, c.loop-number-test.true, c.passes_for-number-end.ensures.is) in
    let long : length c.loop-number.queue.items ≡ length runs + number = ap length c.loop-number.invariant.queue ∙ length_queue runs c.args.scratch.now number in
    let enough : 10 * number + 10 ≤ length c.loop-number.queue.items = omega (arith, below, long) in
    enough

pub pass-requires-clause-lent_queue : goal.pass-requires-clause-lent_queue
pass-requires-clause-lent_queue g c =
    let runs = c.args.runs.now in
    let scratch = c.args.scratch.now in
    let number = c.loop-number.number in
    let few : number ≤ passes (length runs) = omega (arith, c.loop-number-test.true, c.passes_for-number-end.ensures.is) in
    let at_entry = queue_lent (g.D.Dir.lent c.args.dir.now) runs scratch number (passes (length runs)) few c.requires.lent_runs c.requires.lent_scratch in
    subst (λ (l : List Names). All (IsNoOutput (g.D.Dir.lent c.loop-number.dir)) l) (sym c.loop-number.invariant.queue) (subst (λ (lent : List Loan). All (IsNoOutput lent) (queue_of runs scratch number)) (sym c.loop-number.invariant.lent) at_entry)

pub pass-requires-clause-runs : goal.pass-requires-clause-runs
pass-requires-clause-runs g c =
    λ tells.
    subst (λ (l : List Names). All (IsRun (files (g.D.Dir.told c.loop-number.dir))) l) (sym c.loop-number.invariant.queue) (c.loop-number.invariant.after tells).each

pub pass-requires-clause-vacant : goal.pass-requires-clause-vacant
pass-requires-clause-vacant g c =
    λ tells.
    let runs = c.args.runs.now in
    let number = c.loop-number.number in
    let below : number < passes (length runs) = omega (arith, c.loop-number-test.true, c.passes_for-number-end.ensures.is) in
    let small : number < 2 ^ 64 = omega (arith, c.loop-number-test.true, c.passes_for-number-end.ensures.fits) in
    vacant_later runs c.args.scratch.now number number (files (g.D.Dir.told c.args.dir.now)) (files (g.D.Dir.told c.loop-number.dir)) (c.loop-number.invariant.after tells) (omega arith) small (c.requires.vacant tells number below)

pub returns-in_err-pass-clause-steps : goal.returns-in_err-pass-clause-steps
returns-in_err-pass-clause-steps g c =
    λ tells.
    let runs = c.args.runs.now in
    let number = c.loop-number.number in
    let below : number < passes (length runs) = omega (arith, c.loop-number-test.true, c.passes_for-number-end.ensures.is) in
    passes_stand c.args.scratch.now (passes (length runs)) number (g.D.Dir.told c.args.dir.now) (g.D.Dir.told c.loop-number.dir) (g.D.Dir.told c.pass.new.dir) below (c.loop-number.invariant.steps tells) (c.pass.ensures.stands tells)

pub loop-number-preserved : goal.loop-number-preserved
loop-number-preserved g c =
    let runs = c.args.runs.now in
    let scratch = c.args.scratch.now in
    let number = c.loop-number.number in
    let a : Told = g.D.Dir.told c.args.dir.now in
    let b : Told = g.D.Dir.told c.loop-number.dir in
    let d : Told = g.D.Dir.told c.pass.new.dir in
    let below : number < passes (length runs) = omega (arith, c.loop-number-test.true, c.passes_for-number-end.ensures.is) in
    let small : number < 2 ^ 64 = omega (arith, c.loop-number-test.true, c.passes_for-number-end.ensures.fits) in
    record {
      queue = c.in_ok-pass.ensures.queued ∙ ap (λ (l : List Names). l ++ merge_of scratch number ∷ []) c.loop-number.invariant.queue ∙ sym (queue_more runs scratch number);
      after =
          λ tells.
          let vacant = vacant_later runs scratch number number (files a) (files b) (c.loop-number.invariant.after tells) (omega arith) small (c.requires.vacant tells number below) in
          let written = subst (λ (l : List Names). HasWritten (merge_of scratch number) (pairs_text (ten_merged number (lists_at (files b) l))) (files b) (files d)) c.loop-number.invariant.queue (c.in_ok-pass.ensures.written tells) in
          after_more runs scratch number (files a) (files b) (files d) (c.loop-number.invariant.after tells) vacant.none written;
      steps = λ tells. passes_stand scratch (passes (length runs)) number a b d below (c.loop-number.invariant.steps tells) (c.pass.ensures.stands tells);
      lent = search rules;
      beside = search rules;
      later = search rules;
    }

pub returns-clause-done : goal.returns-clause-done
returns-clause-done g c =
    λ tells.
    let runs = c.args.runs.now in
    let last : c.loop-number.number ≡ passes (length runs) = omega (arith, c.loop-number-test.false, c.loop-number.auto.number-end, c.passes_for-number-end.ensures.is) in
    subst (λ (n : ℕ). IsAfterPasses runs c.args.scratch.now n (files (g.D.Dir.told c.args.dir.now)) (files (g.D.Dir.told c.loop-number.dir))) last (c.loop-number.invariant.after tells)
