use Rattle.std.proofs.Common.{sym}
use Rattle.gimv_block.proofs.NumberLemmas.{first_number_is}
use Rattle.gimv_block.proofs.records.first_number.Goals as goal

pub returns-then-number-bound : goal.returns-then-number-bound
returns-then-number-bound c =
    sym (first_number_is c.args.bound c.args.text.now c.in-Some.rest.now c.in-Some.number c.in-Some.ensures c.if-number-bound.true)
