-- The loop ends at the last byte, or at one that is no zero.
use Rattle.std.proofs.Common.{◌≡◌, ◌≢◌, ℕ, ◌+◌, ◌≤◌, ◌⊎◌, inl, inr, List, length, get_or, decimal, IfSome, sym, subst, arith}
use Rattle.std.proofs.lemmas.List.{take_rest}
use Rattle.peg_text.specs.Decimal.{decimal_of}
use Rattle.gimv_base.proofs.LeadingZeros.{without_zeros_is}
use Rattle.gimv_base.proofs.fields.without_leading_zeros.Goals as goal
use Rattle.gimv_base.proofs.fields.without_leading_zeros.Goals.{then-loop-zeros-test+else-text-zeros-eq48, else-loop-zeros-test}

pub returns-clause-is : goal.returns-clause-is
returns-clause-is c =
    let text = c.args.text.now in
    let zeros = c.loop-zeros.zeros in
    let end : (length text ≤ zeros + 1) ⊎ (get_or text zeros 0 ≢ 48) =
    elim c.loop-zeros-test.branch [
      | then-loop-zeros-test+else-text-zeros-eq48 w ↦ inr w.if-text-zeros-eq48.false
      | else-loop-zeros-test w ↦
          let last = c.saturating_sub-last.ensures in
          let past = w.loop-zeros-test.false in
          inl (omega arith)
    ] in
    subst (λ (ds : List ℕ). IfSome (decimal_of text) (λ n. ds ≡ decimal n)) (sym (take_rest text zeros)) (without_zeros_is text zeros c.loop-zeros.invariant end)
