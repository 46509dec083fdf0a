use Rattle.std.proofs.Common.{◌≡◌, ◌<◌, ◌∙◌, true, List, Bool, length, length-set, subst, sym, ap, arith}
use Rattle.twins.specs.Numbers.{contains}
use Rattle.twins.proofs.NumberLemmas.{put_one_more, put_all}
use Rattle.twins.proofs.number_set.NumberSet.full.Goals as goal

pub set-requires : goal.set-requires
set-requires c = omega (arith, c.loop-number-test.true, c.loop-number.invariant.bounded)

pub loop-number-preserved : goal.loop-number-preserved
loop-number-preserved c =
    let numbers = c.loop-number.numbers in
    let n = c.loop-number.number in
    let below : n < length numbers = omega (arith, c.loop-number-test.true, c.loop-number.invariant.bounded) in
    record {
      bounded = ap length c.set.ensures ∙ length-set numbers n true ∙ c.loop-number.invariant.bounded;
      put = λ t less. subst (λ (s : List Bool). contains s t ≡ true) (sym c.set.ensures) (put_one_more numbers n below c.loop-number.invariant.put t less);
    }

pub returns : goal.returns
returns c =
    put_all c.loop-number.numbers c.args.bound c.loop-number.invariant.bounded (λ t less. c.loop-number.invariant.put t (omega (arith, less, c.loop-number-test.false)))
