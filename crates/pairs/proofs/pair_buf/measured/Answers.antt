use Rattle.std.proofs.Common.{◌<◌, rules}
use Rattle.std.proofs.lemmas.List.Elements.{All-from_get_or}
use Rattle.pairs.specs.Prefixes.{AreBytes}
use Rattle.pairs.proofs.HeadLemmas.{cut_at_key, has_key}
use Rattle.pairs.proofs.pair_buf.measured.Goals as goal

pub returns-clause-pair : goal.returns-clause-pair
returns-clause-pair c = cut_at_key c.args.line.now c.measured_key.result.0 c.measured_key.ensures.length

pub returns-clause-has : goal.returns-clause-has
returns-clause-has c =
    let bytes : AreBytes c.args.line.now = All-from_get_or (λ b. b < 256) c.args.line.now 0 (λ k inside. search (rules, c.type_inv.line)) in
    has_key c.args.line.now c.measured_key.result.0 c.measured_key.result.1 c.measured_key.ensures.key c.measured_key.ensures.inside c.measured_key.ensures.prefix bytes
