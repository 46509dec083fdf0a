use Rattle.std.proofs.Common.{◌+◌, ap}
use Rattle.store.specs.Differing.{lfs}
use Rattle.store.proofs.CommonLemmas.{common-comm}
use Rattle.store.proofs.laws.texts_part_either_way.Goals as goal

pub returns : goal.returns
returns c = λ one other. ap (λ l. lfs l + 1) (common-comm one other)
