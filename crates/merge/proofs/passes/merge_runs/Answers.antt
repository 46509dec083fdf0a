use Rattle.std.proofs.Common.{◌≡◌, ◌∙◌, ◌*◌, ◌+◌, ◌≤◌, ℕ, List, Some, length, drop, ap, sym, subst, arith}
use Rattle.std.specs.List.{All}
use Rattle.std.specs.Prelude.{IfOk}
use Rattle.std.proofs.lemmas.List.{length-map}
use Rattle.std.proofs.lemmas.List.Elements.{All-drop}
use Rattle.peg_base.specs.Names.{Names}
use Rattle.dir_disk.specs.State.{State}
use Rattle.dir_disk.specs.Lent.{Loan, IsNoOutput}
use Rattle.dir_disk.specs.Moments.{files}
use Rattle.pairs.specs.Pairs.{Pair, pairs_text, sorted_pairs}
use Rattle.merge.specs.Runs.{IsAfterPasses, IsRun, after_passes, lists_at, passes, queue_of}
use Rattle.merge.specs.Sources.{all_of}
use Rattle.merge.proofs.OpenLemmas.{lists_from, pairs_at}
use Rattle.merge.proofs.PassLemmas.{last_length, last_sorted, length_queue, merge_alone, merge_stands, passes_alone, passes_stand_by, queue_lent, vacant_out}
use Rattle.merge.proofs.WriteLemmas.{ok_then}
use Rattle.merge.proofs.passes.merge_runs.Goals as goal

-- the runs that are merged at last, by the number of passes
last_runs : (runs : List Names) (scratch : Names) (count : ℕ) (queue given rest : List Names) → count ≡ passes (length runs) → rest ≡ drop (10 * count) given → given ≡ queue → queue ≡ queue_of runs scratch (passes (length runs)) → rest ≡ drop (10 * passes (length runs)) (queue_of runs scratch (passes (length runs)))
last_runs runs scratch count queue given rest is_count is_rest is_given is_queue =
    is_rest ∙ ap (λ (n : ℕ). drop (10 * n) given) is_count ∙ ap (λ (l : List Names). drop (10 * passes (length runs)) l) (is_given ∙ is_queue)

-- their lists
last_lists : (runs : List Names) (scratch : Names) (entry mid : State) (rest : List Names) → IsAfterPasses runs scratch (passes (length runs)) entry mid → rest ≡ drop (10 * passes (length runs)) (queue_of runs scratch (passes (length runs))) → lists_at mid rest ≡ drop (10 * passes (length runs)) (after_passes (passes (length runs)) (lists_at entry runs))
last_lists runs scratch entry mid rest after is =
    ap (lists_at mid) is ∙ lists_from mid (10 * passes (length runs)) (queue_of runs scratch (passes (length runs))) ∙ ap (λ (ls : List (List Pair)). drop (10 * passes (length runs)) ls) after.lists

pub returns-in_err-queue-clause-steps : goal.returns-in_err-queue-clause-steps
returns-in_err-queue-clause-steps g c =
    λ tells.
    passes_alone c.args.out.now c.args.scratch.now (passes (length c.args.runs.now)) (g.D.Dir.told c.args.dir.now) (g.D.Dir.told c.run_passes.new.dir) (c.run_passes.ensures.steps tells)

pub unmerged-requires : goal.unmerged-requires
unmerged-requires g c =
    let runs = c.args.runs.now in
    let long : length c.deref.result.now ≡ length runs + passes (length runs) = ap length (c.deref.ensures.value ∙ c.in_ok-queue.ensures.queue) ∙ length_queue runs c.args.scratch.now (passes (length runs)) in
    omega (arith, long, c.passes_for.ensures.is)

pub merge_files-requires-clause-lent_runs : goal.merge_files-requires-clause-lent_runs
merge_files-requires-clause-lent_runs g c =
    let runs = c.args.runs.now in
    let scratch = c.args.scratch.now in
    let count = passes (length runs) in
    let rest = last_runs runs scratch c.passes_for.result c.in_ok-queue.queue.items c.deref.result.now c.unmerged.result.now c.passes_for.ensures.is c.unmerged.ensures c.deref.ensures.value c.in_ok-queue.ensures.queue in
    let at_entry = queue_lent (g.D.Dir.lent c.args.dir.now) runs scratch count count (omega arith) c.requires.lent_runs c.requires.lent_scratch in
    subst (λ (l : List Names). All (IsNoOutput (g.D.Dir.lent c.run_passes.new.dir)) l) (sym rest) (subst (λ (lent : List Loan). All (IsNoOutput lent) (drop (10 * count) (queue_of runs scratch count))) (sym c.run_passes.ensures.lent) (All-drop (IsNoOutput (g.D.Dir.lent c.args.dir.now)) (10 * count) (queue_of runs scratch count) at_entry))

pub merge_files-requires-clause-runs : goal.merge_files-requires-clause-runs
merge_files-requires-clause-runs g c =
    λ tells.
    let runs = c.args.runs.now in
    let scratch = c.args.scratch.now in
    let count = passes (length runs) in
    let mid = files (g.D.Dir.told c.run_passes.new.dir) in
    let rest = last_runs runs scratch c.passes_for.result c.in_ok-queue.queue.items c.deref.result.now c.unmerged.result.now c.passes_for.ensures.is c.unmerged.ensures c.deref.ensures.value c.in_ok-queue.ensures.queue in
    subst (λ (l : List Names). All (IsRun mid) l) (sym rest) (All-drop (IsRun mid) (10 * count) (queue_of runs scratch count) (c.in_ok-queue.ensures.done tells).each)

pub merge_files-requires-clause-vacant : goal.merge_files-requires-clause-vacant
merge_files-requires-clause-vacant g c =
    λ tells.
    vacant_out c.args.runs.now c.args.scratch.now c.args.out.now (passes (length c.args.runs.now)) (files (g.D.Dir.told c.args.dir.now)) (files (g.D.Dir.told c.run_passes.new.dir)) (c.in_ok-queue.ensures.done tells) c.requires.outside c.requires.above (c.requires.vacant_out tells)

pub returns-clause-count : goal.returns-clause-count
returns-clause-count g c =
    λ tells.
    let runs = c.args.runs.now in
    let scratch = c.args.scratch.now in
    let count = passes (length runs) in
    let entry = files (g.D.Dir.told c.args.dir.now) in
    let mid = files (g.D.Dir.told c.run_passes.new.dir) in
    let rest = last_runs runs scratch c.passes_for.result c.in_ok-queue.queue.items c.deref.result.now c.unmerged.result.now c.passes_for.ensures.is c.unmerged.ensures c.deref.ensures.value c.in_ok-queue.ensures.queue in
    let lists = last_lists runs scratch entry mid c.unmerged.result.now (c.in_ok-queue.ensures.done tells) rest in
    let few : count ≤ passes (length (lists_at entry runs)) = omega (arith, length-map runs (pairs_at entry)) in
    subst (λ (n : ℕ). IfOk c.merge_files.result (λ found. found ≡ n)) (ap (λ (ls : List (List Pair)). length (all_of ls)) lists ∙ last_length count (lists_at entry runs) few) (c.merge_files.ensures.count tells)

pub returns-clause-written : goal.returns-clause-written
returns-clause-written g c =
    λ tells.
    let runs = c.args.runs.now in
    let scratch = c.args.scratch.now in
    let count = passes (length runs) in
    let entry = files (g.D.Dir.told c.args.dir.now) in
    let mid = files (g.D.Dir.told c.run_passes.new.dir) in
    let rest = last_runs runs scratch c.passes_for.result c.in_ok-queue.queue.items c.deref.result.now c.unmerged.result.now c.passes_for.ensures.is c.unmerged.ensures c.deref.ensures.value c.in_ok-queue.ensures.queue in
    let lists = last_lists runs scratch entry mid c.unmerged.result.now (c.in_ok-queue.ensures.done tells) rest in
    let few : count ≤ passes (length (lists_at entry runs)) = omega (arith, length-map runs (pairs_at entry)) in
    ok_then c.merge_files.result (λ written. written.now ∙ ap (λ (ls : List (List Pair)). Some (pairs_text (sorted_pairs (all_of ls)))) lists ∙ ap (λ (ps : List Pair). Some (pairs_text ps)) (last_sorted count (lists_at entry runs) few)) (c.merge_files.ensures.written tells)

pub returns-clause-passes : goal.returns-clause-passes
returns-clause-passes g c =
    λ tells.
    let runs = c.args.runs.now in
    let entry = files (g.D.Dir.told c.args.dir.now) in
    let mid = files (g.D.Dir.told c.run_passes.new.dir) in
    let new = files (g.D.Dir.told c.merge_files.new.dir) in
    ok_then c.merge_files.result (λ written. passes_stand_by c.args.scratch.now c.args.out.now (passes (length runs)) (lists_at entry runs) mid new c.requires.outside c.requires.above (c.in_ok-queue.ensures.done tells).made written.others) (c.merge_files.ensures.written tells)

pub returns-clause-others : goal.returns-clause-others
returns-clause-others g c =
    λ tells.
    let entry = files (g.D.Dir.told c.args.dir.now) in
    let mid = files (g.D.Dir.told c.run_passes.new.dir) in
    let new = files (g.D.Dir.told c.merge_files.new.dir) in
    ok_then c.merge_files.result (λ written. merge_alone c.args.runs.now c.args.scratch.now c.args.out.now (passes (length c.args.runs.now)) entry mid new (c.in_ok-queue.ensures.done tells) written.others) (c.merge_files.ensures.written tells)

pub returns-clause-steps : goal.returns-clause-steps
returns-clause-steps g c =
    λ tells.
    merge_stands c.args.out.now c.args.scratch.now (passes (length c.args.runs.now)) (g.D.Dir.told c.args.dir.now) (g.D.Dir.told c.run_passes.new.dir) (g.D.Dir.told c.merge_files.new.dir) (c.run_passes.ensures.steps tells) (c.merge_files.ensures.stands tells)
