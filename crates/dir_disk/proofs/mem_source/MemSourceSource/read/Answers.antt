use Rattle.std.proofs.Common.{◌≡◌, ◌+◌, ◌-◌, ℕ, List, ◌++◌, Some, length, take, drop, sym, ap, ◌∙◌}
use Rattle.std.proofs.lemmas.List.{take-append-drop, drop-drop, take_rest}
use Rattle.dir_disk.specs.Doubles.{Supply}
use Rattle.dir_disk.proofs.mem_source.MemSourceSource.read.Goals as goal

-- a piece from a place, and then what is left past it
piece_and_rest : (all items bytes : List ℕ) (start len : ℕ) → all ≡ items → bytes ≡ take len (take (length all - start) (drop start all)) → drop start items ≡ bytes ++ drop (start + len) items
piece_and_rest all items bytes start len same is =
    sym (take-append-drop len (drop start items)) ∙ ap (λ (front : List ℕ). front ++ drop len (drop start items)) (sym (is ∙ ap (take len) (take_rest all start) ∙ ap (λ (l : List ℕ). take len (drop start l)) same)) ∙ ap (λ (rest : List ℕ). bytes ++ rest) (drop-drop len start items)

pub returns-clause-next : goal.returns-clause-next
returns-clause-next c =
    let rest = piece_and_rest _ _ _ _ _ c.deref.ensures.value c.in-Ok.ensures.items in
    ap Some (ap (λ (s : Supply). s.left) (sym c.self.view_is) ∙ rest)
