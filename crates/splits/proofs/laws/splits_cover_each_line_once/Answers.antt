use Rattle.splits.proofs.LineLemmas.{splits_cover_each_line_once}
use Rattle.splits.proofs.laws.splits_cover_each_line_once.Goals as goal

pub returns : goal.returns
returns c = splits_cover_each_line_once
