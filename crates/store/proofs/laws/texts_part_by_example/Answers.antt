use Rattle.std.proofs.Common.{refl}
use Rattle.store.proofs.laws.texts_part_by_example.Goals as goal

pub returns : goal.returns
returns c = (refl, refl, refl, refl)
