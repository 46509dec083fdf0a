use Rattle.hcc.specs.Lawful.{hcc_is_lawful, hcc_is_closing}
use Rattle.hcc.proofs.laws.components_keep_laws.Goals as goal

pub returns-clause-lawful : goal.returns-clause-lawful
returns-clause-lawful c = hcc_is_lawful

pub returns-clause-closing : goal.returns-clause-closing
returns-clause-closing c = hcc_is_closing
