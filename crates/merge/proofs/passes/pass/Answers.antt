use Rattle.std.proofs.Common.{◌+◌, ◌-◌, ◌*◌, ℕ, List, drop, sym, subst, arith}
use Rattle.std.specs.List.{All}
use Rattle.std.proofs.lemmas.List.Elements.{All-take, All-drop}
use Rattle.peg_base.specs.Names.{Names}
use Rattle.dir_disk.specs.Keeping.{HasWritten}
use Rattle.dir_disk.specs.Moments.{files}
use Rattle.pairs.specs.Pairs.{Pair, pairs_text}
use Rattle.merge.specs.Runs.{IsRun, lists_at, ten_merged}
use Rattle.merge.proofs.OpenLemmas.{ten_of}
use Rattle.merge.proofs.passes.pass.Goals as goal

pub merge_files-requires-clause-runs : goal.merge_files-requires-clause-runs
merge_files-requires-clause-runs g c =
    λ tells.
    let entry = files (g.D.Dir.told c.args.dir.now) in
    let first : ℕ = 10 * c.args.number in
    All-take (IsRun entry) (first + 10 - first) (drop first c.deref.result.now) (All-drop (IsRun entry) first c.deref.result.now (subst (λ (l : List Names). All (IsRun entry) l) (sym c.deref.ensures.value) (c.requires.runs tells)))

pub returns-clause-written : goal.returns-clause-written
returns-clause-written g c =
    λ tells.
    let entry = files (g.D.Dir.told c.args.dir.now) in
    let new = files (g.D.Dir.told c.merge_files.new.dir) in
    let first : ℕ = 10 * c.args.number in
    let ten = ten_of entry c.args.number (first + 10 - first) c.deref.result.now c.args.queue.now.items (omega arith) c.deref.ensures.value in
    subst (λ (q : Names). HasWritten q (pairs_text (ten_merged c.args.number (lists_at entry c.args.queue.now.items))) entry new) c.in_ok-path.ensures (subst (λ (ps : List Pair). HasWritten c.in_ok-path.path (pairs_text ps) entry new) ten (c.in_ok-merge_files.ensures.written tells))
