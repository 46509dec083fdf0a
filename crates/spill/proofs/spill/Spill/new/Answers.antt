use Rattle.std.proofs.Common.{◌≡◌, ◌∙◌, ◌<◌, [], ℕ, List, length, ap, sym, subst, Vec, Global}
use Rattle.std.proofs.lemmas.List.{length-map, length-replicate}
use Rattle.peg_base.specs.Names.{Names}
use Rattle.spill.specs.Spills.{IsWell}
use Rattle.spill.proofs.SpillLemmas.{well_empty}
use Rattle.spill.proofs.spill.Spill.new.Goals as goal

pub invariant_of-result : goal.invariant_of-result
invariant_of-result c =
    let parts = c.in_ok-empty_parts.field-0.items in
    let runs = c.in_ok-runs.runs.items in
    let folder = c.in_ok-copy.field-0 in
    let many : length runs ≡ c.args.reducers = sym (length-map runs (λ (paths : Vec Names Global). paths.items)) ∙ ap length c.in_ok-runs.ensures ∙ length-replicate c.args.reducers [] in
    let short : length folder < 8 = subst (λ (names : Names). length names < 8) (sym c.in_ok-copy.ensures) c.requires.short in
    let well = well_empty parts c.args.reducers (length runs) folder c.in_ok-empty_parts.ensures.none c.in_ok-empty_parts.ensures.len c.requires.some c.requires.few many short in
    subst (λ (text : List ℕ). IsWell text parts 0 c.args.reducers (length runs) folder) (sym c.in_ok-with_capacity.ensures.items) well
