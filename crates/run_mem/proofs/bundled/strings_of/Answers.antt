use Rattle.std.proofs.Common.{◌≡◌, ◌∙◌, ◌++◌, ◌∷◌, [], ℕ, List, map, take, get_or, ap, sym, arith}
use Rattle.std.specs.String.{string_bytes}
use Rattle.std.proofs.lemmas.List.{map_push, take_more}
use Rattle.std.proofs.lemmas.Option.{get_or_from_slice_get}
use Rattle.run_mem.proofs.bundled.strings_of.Goals as goal

pub loop-at-preserved : goal.loop-at-preserved
loop-at-preserved c =
    let words = c.args.words.now in
    let at = c.loop-at.at in
    let word : get_or words at [] ≡ c.in-Some.word.now = get_or_from_slice_get words at c.in-Some.word.now [] (sym c.in-Some.ensures.value) in
    let text : string_bytes c.in_ok-from_str.field-0 ≡ get_or words at [] = c.in_ok-from_str.ensures.ok ∙ sym word in
    ap (map string_bytes) c.in_ok-push.ensures.items ∙ map_push string_bytes c.loop-at.strings.items c.in_ok-from_str.field-0 ∙ ap (λ (ws : List (List ℕ)). ws ++ string_bytes c.in_ok-from_str.field-0 ∷ []) c.loop-at.invariant ∙ ap (λ (w : List ℕ). take at words ++ w ∷ []) text ∙ sym (take_more words at [] (omega (arith, c.loop-at-test.true, c.len-at-end.ensures.value)))
