use Rattle.words.proofs.PrefixLemmas.{behind, split_of}
use Rattle.words.proofs.laws.prefixes_split.Goals as goal

pub returns : goal.returns
returns c = λ prefix word rest. (split_of prefix word rest, behind prefix word rest)
