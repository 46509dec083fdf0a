use Rattle.std.proofs.Common.{◌≡◌, ◌∙◌, ◌==◌, List, Result, Ok, Err, OnOk, false, length, sym, ap, subst}
use Rattle.std.proofs.lemmas.Bool.{false≢true, eq-eqb}
use Rattle.std.proofs.lemmas.List.{length-map}
use Rattle.peg_base.specs.Names.{Names, same_path}
use Rattle.dir_disk.specs.State.{State, StandsOutside}
use Rattle.dir_disk.specs.Keeping.{StandsBut}
use Rattle.dir_disk.specs.Moments.{Told, Through, Both, files}
use Rattle.dir_disk.proofs.Through.{weaker}
use Rattle.pairs.specs.Pairs.{Pair}
use Rattle.spill.specs.Runs.{run_of}
use Rattle.spill.specs.Chunks.{HasItems, StandsBesideRun, StandsButRun}
use Rattle.spill.specs.Lines.{pair_of_entry, entry_pairs}
use Rattle.spill.proofs.writing.write_run.Goals as goal

pub returns-clause-steps : goal.returns-clause-steps
returns-clause-steps g c =
    λ tells.
    let run : Names = run_of c.args.folder.now c.args.part c.args.flush in
    let entries = c.args.entries.now in
    let pairs : List Pair = entry_pairs c.args.text.now entries in
    let old : Told = g.D.Dir.told c.args.dir.now in
    let new : Told = g.D.Dir.told c.write_pairs.new.dir in
    let not_none : (length entries == 0) ≡ false = sym c.is_empty.ensures ∙ c.if-is_empty.false in
    let some : HasItems pairs = λ none. let zero : length entries ≡ 0 = sym (length-map entries (pair_of_entry c.args.text.now)) ∙ ap length none in absurd (false≢true (sym not_none ∙ eq-eqb (length entries) 0 zero)) in
    let steps : Through (Both (StandsOutside run (files old))) old new = subst (λ (path : Names). Through (Both (StandsOutside path (files old))) old new) c.in_ok-path.ensures (c.write_pairs.ensures.steps tells) in
    weaker (Both (StandsOutside run (files old))) (Both (StandsBesideRun run pairs (files old))) old new (λ s t stands. (λ q apart. stands.0 q (apart some), λ q apart. stands.1 q (apart some))) steps

if_alone : {T E : Type 0} (result : Result T E) (path run : Names) (ps : List Pair) (old new : State) → path ≡ run → HasItems ps → OnOk result (StandsBut path old new) → OnOk result (StandsButRun run ps old new)
if_alone (Ok value) path run ps old new is some alone =
    λ q apart. alone q (ap (λ (p : Names). same_path p q) is ∙ apart some)
if_alone (Err fault) path run ps old new is some alone = tt

pub returns-clause-others : goal.returns-clause-others
returns-clause-others g c =
    λ tells.
    let run : Names = run_of c.args.folder.now c.args.part c.args.flush in
    let entries = c.args.entries.now in
    let pairs : List Pair = entry_pairs c.args.text.now entries in
    let old = files (g.D.Dir.told c.args.dir.now) in
    let new = files (g.D.Dir.told c.write_pairs.new.dir) in
    let not_none : (length entries == 0) ≡ false = sym c.is_empty.ensures ∙ c.if-is_empty.false in
    let some : HasItems pairs = λ none. let zero : length entries ≡ 0 = sym (length-map entries (pair_of_entry c.args.text.now)) ∙ ap length none in absurd (false≢true (sym not_none ∙ eq-eqb (length entries) 0 zero)) in
    if_alone c.write_pairs.result c.in_ok-path.path run pairs old new c.in_ok-path.ensures some (c.write_pairs.ensures.others tells)
