use Rattle.std.proofs.Common.{◌≤◌, ◌++◌, ◌∷◌, [], length, ap, ◌∙◌, arith, rules, tests, eqb, length-append}
use Rattle.std.specs.Slice.Iter.{split_rest, split_done, split_callee}
use Rattle.std.proofs.lemmas.Iterator.Splits.{YieldsList-from_slice_split}
use Rattle.std.proofs.lemmas.Iterator.Consumers.{YieldsList-turn, YieldsList-end}
use Rattle.bitstrings.proofs.SumTexts.{parts, sums_more, sums_none, sums_done, sums_too_many}
use Rattle.bitstrings.proofs.read.read_sums.Goals as goal

pub loop-part-preserved : goal.loop-part-preserved
loop-part-preserved c =
    let e = c.into_iter-part-iterator.ensures.into_iter_gives in
    let turn = YieldsList-turn (YieldsList-from_slice_split _ (λ b. eqb b 58) c.args.text.now (ap split_rest e ∙ c.split-part-items.ensures.rest) (ap split_done e ∙ c.split-part-items.ensures.done) (ap split_callee e ∙ c.split-part-items.ensures.closure) (λ x b q k. search (rules, tests))) c.loop-part.yielded _ c.loop-part.yielded_by _ _ c.in-Some.part c.in-Some.is c.next.ensures.steps in
    rw c.in_ok-push-in-Some-read_sum.ensures.items
    (sums_more c.args.text.now c.loop-part.sums.items c.in-Some.part.now (length c.loop-part.yielded) (length (c.loop-part.yielded ++ c.in-Some.part ∷ [])) c.in-Some-read_sum.sum turn.0 turn.1
    (length-append c.loop-part.yielded (c.in-Some.part ∷ [])) c.in-Some-read_sum.ensures c.loop-part.invariant)

pub returns-in-None-read_sum : goal.returns-in-None-read_sum
returns-in-None-read_sum c =
    let e = c.into_iter-part-iterator.ensures.into_iter_gives in
    let turn = YieldsList-turn (YieldsList-from_slice_split _ (λ b. eqb b 58) c.args.text.now (ap split_rest e ∙ c.split-part-items.ensures.rest) (ap split_done e ∙ c.split-part-items.ensures.done) (ap split_callee e ∙ c.split-part-items.ensures.closure) (λ x b q k. search (rules, tests))) c.loop-part.yielded _ c.loop-part.yielded_by _ _ c.in-Some.part c.in-Some.is c.next.ensures.steps in
    sums_none c.args.text.now c.loop-part.sums.items c.in-Some.part.now (length c.loop-part.yielded) turn.0 turn.1 c.in-None-read_sum.ensures c.loop-part.invariant

pub returns-then-len-gt-MOST_SUMS : goal.returns-then-len-gt-MOST_SUMS
returns-then-len-gt-MOST_SUMS c =
    let e = c.into_iter-part-iterator.ensures.into_iter_gives in
    let end = YieldsList-end (YieldsList-from_slice_split _ (λ b. eqb b 58) c.args.text.now (ap split_rest e ∙ c.split-part-items.ensures.rest) (ap split_done e ∙ c.split-part-items.ensures.done) (ap split_callee e ∙ c.split-part-items.ensures.closure) (λ x b q k. search (rules, tests))) c.loop-part.yielded _ c.loop-part.yielded_by _ _ c.in-None.is c.next.ensures.steps in
    let past : length (parts c.args.text.now) ≤ length c.loop-part.yielded = omega (arith, end.1) in
    sums_too_many c.args.text.now c.loop-part.sums.items (length c.loop-part.yielded) past c.loop-part.invariant (omega (arith, c.len.ensures, c.loop-part.sums.ok))

pub returns : goal.returns
returns c =
    let e = c.into_iter-part-iterator.ensures.into_iter_gives in
    let end = YieldsList-end (YieldsList-from_slice_split _ (λ b. eqb b 58) c.args.text.now (ap split_rest e ∙ c.split-part-items.ensures.rest) (ap split_done e ∙ c.split-part-items.ensures.done) (ap split_callee e ∙ c.split-part-items.ensures.closure) (λ x b q k. search (rules, tests))) c.loop-part.yielded _ c.loop-part.yielded_by _ _ c.in-None.is c.next.ensures.steps in
    let past : length (parts c.args.text.now) ≤ length c.loop-part.yielded = omega (arith, end.1) in
    sums_done c.args.text.now c.loop-part.sums.items (length c.loop-part.yielded) past c.loop-part.invariant (omega (arith, c.len.ensures, c.loop-part.sums.ok))
