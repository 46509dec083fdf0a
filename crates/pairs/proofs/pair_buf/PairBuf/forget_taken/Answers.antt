use Rattle.std.proofs.Common.{◌≡◌, ◌∙◌, ap, subst, ℕ, List, drop}
use Rattle.std.proofs.lemmas.List.{take_rest}
use Rattle.pairs.specs.Taking.{IsPlace}
use Rattle.pairs.proofs.TakingLemmas.{searched_behind}
use Rattle.pairs.proofs.pair_buf.PairBuf.forget_taken.Goals as goal

pub invariant_of-self : goal.invariant_of-self
invariant_of-self c =
    let next = c.self.inside.next in
    let left = c.in_ok-self-inside.field-0.items in
    let is : left ≡ drop next c.self.inside.bytes.items = c.in_ok-self-inside.ensures.items ∙ take_rest c.deref.result.now next ∙ ap (drop next) c.deref.ensures.value in
    record {
      place = subst (λ (l : List ℕ). IsPlace l c.nowhere-self-inside.result) c.deref-2.ensures.value c.nowhere-self-inside.ensures;
      scan = searched_behind c.self.inside.bytes.items left next c.self.inside.searched c.self.invariant.scan is;
    }
