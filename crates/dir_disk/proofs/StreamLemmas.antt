-- What goes in and out in several calls.
use Rattle.std.proofs.Common.{◌≡◌, ℕ, List, [], ◌++◌, Option, Some, None, refl, ap, sym, append_assoc}
use Rattle.std.proofs.lemmas.List.{append-nil}
use Rattle.dir_disk.specs.Streams.{onto, added}

-- bytes that two calls give in a row
pub onto-onto : (a b : List ℕ) (rest : Option (List ℕ)) → onto a (onto b rest) ≡ onto (a ++ b) rest
onto-onto a b None = refl
onto-onto a b (Some rest) = ap Some (sym (append_assoc a b rest))

-- bytes that two calls take in a row
pub added-added : (before : Option (List ℕ)) (a b : List ℕ) → added (added before a) b ≡ added before (a ++ b)
added-added None a b = refl
added-added (Some before) a b = ap Some (append_assoc before a b)

pub onto-nil : (rest : Option (List ℕ)) → onto [] rest ≡ rest
onto-nil None = refl
onto-nil (Some rest) = refl

pub added-nil : (before : Option (List ℕ)) → added before [] ≡ before
added-nil None = refl
added-nil (Some before) = ap Some (append-nil before)
