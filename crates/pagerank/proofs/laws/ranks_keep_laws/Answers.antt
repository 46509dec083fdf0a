use Rattle.pagerank.specs.Lawful.{page_rank_is_lawful}
use Rattle.pagerank.proofs.laws.ranks_keep_laws.Goals as goal

pub returns : goal.returns
returns c = page_rank_is_lawful
