use Rattle.std.proofs.Common.{◌∷◌, [], ◌++◌, List, map, ◌∙◌, sym, ap, arith, append_assoc}
use Rattle.std.specs.List.{range_with_len}
use Rattle.std.proofs.lemmas.List.FromFn.{map-range_with_len_more}
use Rattle.peg_base.specs.Names.{Names}
use Rattle.committer.specs.Paths.{part_of}
use Rattle.mining.specs.Places.{folder_of}
use Rattle.mining.proofs.paths.push_parts.Goals as goal

pub loop-part-preserved : goal.loop-part-preserved
loop-part-preserved c =
    let before = c.args.paths.now.items in
    let folder = folder_of c.args.place in
    let part = c.loop-part.part in
    let so_far = map (part_of folder) (range_with_len 0 part) in
    c.in_ok-push.ensures.items ∙ ap (λ (paths : List Names). paths ++ c.in_ok-part_path.field-0 ∷ []) c.loop-part.invariant ∙ append_assoc before so_far (c.in_ok-part_path.field-0 ∷ []) ∙ ap (λ (path : Names). before ++ (so_far ++ path ∷ [])) (c.in_ok-part_path.ensures ∙ ap (λ (names : Names). part_of names part) c.in_ok-folder.ensures) ∙ ap (λ (paths : List Names). before ++ paths) (sym (map-range_with_len_more (part_of folder) 0 part part (omega arith)))
