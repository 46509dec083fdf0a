-- The first digits of a pair are its key where a TAB stands behind them; where none does, the record is no edge.
use Rattle.std.proofs.Common.{◌≡◌, ◌≢◌, ◌<◌, ℕ, ◌+◌, length, get_or, sym, ap, ◌∙◌, arith}
use Rattle.std.proofs.lemmas.List.{take_rest}
use Rattle.peg_text.proofs.PairLemmas.{key_of-is, value_of-is}
use Rattle.gimv_base.proofs.IdFields.{first_digits, no_edge_without_tab, tab_after_digits}
use Rattle.gimv_base.proofs.records.split_digits.Goals as goal
use Rattle.gimv_base.proofs.records.split_digits.Goals.{else-end-line-via-then-end-line+else-line-end-eq9, else-end-line-via-else-end-line}

pub returns-then-line-end-eq9-clause-some : goal.returns-then-line-end-eq9-clause-some
returns-then-line-end-eq9-clause-some c =
    let line = c.args.line.now in
    let end = c.leading_digits-end.result in
    let tab = tab_after_digits line end c.leading_digits-end.ensures c.if-end-line.true c.if-line-end-eq9.true in
    (sym (key_of-is line end tab), take_rest line (end + 1) ∙ sym (value_of-is line end tab))

pub returns-then-line-end-eq9-clause-digits : goal.returns-then-line-end-eq9-clause-digits
returns-then-line-end-eq9-clause-digits c = first_digits c.args.line.now c.leading_digits-end.result c.leading_digits-end.ensures

pub returns-clause-none : goal.returns-clause-none
returns-clause-none c =
    let line = c.args.line.now in
    let end = c.leading_digits-end.result in
    let other : end < length line → get_or line end 0 ≢ 9 =
    elim c.else-end-line.branch [
      | else-end-line-via-then-end-line+else-line-end-eq9 w ↦ λ _. w.if-line-end-eq9.false
      | else-end-line-via-else-end-line w ↦ λ inside. let past = w.if-end-line.false in absurd (omega arith)
    ] in
    λ _. no_edge_without_tab line end c.leading_digits-end.ensures other
