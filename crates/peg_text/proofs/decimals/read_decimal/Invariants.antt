use Rattle.std.proofs.Common.{◌<◌, ◌^◌}
use Rattle.peg_text.proofs.DecimalLemmas.{ReadsOn}
use Rattle.peg_text.proofs.decimals.read_decimal.Given as goal

abbrev pub invariant-loop-digit : goal.invariant-loop-digit
invariant-loop-digit l = ReadsOn l.text l.number l.digit-index × (l.number < 10 ^ l.digit-index)
