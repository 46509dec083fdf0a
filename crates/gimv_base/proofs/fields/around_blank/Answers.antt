-- The fields around the first blank are slices at its place.
use Rattle.std.proofs.Common.{◌≡◌, ℕ, ◌+◌, ◌-◌, List, Some, length, take, drop, option_map, ap, ◌∙◌}
use Rattle.std.proofs.lemmas.List.{take_rest}
use Rattle.gimv_base.specs.Fields.{parts_at}
use Rattle.gimv_base.proofs.fields.around_blank.Goals as goal

pub returns-in-Some : goal.returns-in-Some
returns-in-Some c =
    let text = c.args.text.now in
    let at = c.in-Some.at in
    let rest : take (length text - (at + 1)) (drop (at + 1) text) ≡ drop (at + 1) text = take_rest text (at + 1) in
    ap (λ (r : List ℕ). Some (take at text, r)) rest ∙ ap (option_map (parts_at text)) c.in-Some.ensures.is
