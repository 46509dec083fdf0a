use Rattle.std.proofs.Common.{map}
use Rattle.std.specs.String.{string_bytes}
use Rattle.driver.proofs.WordLemmas.{plain_accepted}
use Rattle.driver.proofs.plain.run_plain.Goals as goal

pub new-source-requires : goal.new-source-requires
new-source-requires g c = (c.meanings_are_within_limits.ensures _ _ c.in-Ok.ensures.accepted.mean).nodes.0

pub returns-in-Err-clause-complete : goal.returns-in-Err-clause-complete
returns-in-Err-clause-complete g c =
    λ conf mean fine read said. absurd (plain_accepted (map string_bytes c.args.words.now) conf mean.mean mean.plain c.in-Err.usage.word c.in-Err.ensures.refused)
