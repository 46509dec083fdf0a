use Rattle.splits.proofs.CopyLemmas.{unended-test}
use Rattle.splits.proofs.copying.Progress.pass.Goals as goal

pub returns-clause-unended : goal.returns-clause-unended
returns-clause-unended c =
    unended-test c.args.bytes.now c.ends_with.result c.requires.some c.ends_with.ensures.value
