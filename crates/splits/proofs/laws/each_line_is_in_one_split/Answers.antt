use Rattle.splits.proofs.LineLemmas.{each_line_is_in_one_split}
use Rattle.splits.proofs.laws.each_line_is_in_one_split.Goals as goal

pub returns : goal.returns
returns c = each_line_is_in_one_split
