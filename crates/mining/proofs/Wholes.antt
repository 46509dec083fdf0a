-- Looks that leave the state as it is.
use Rattle.std.proofs.Common.{◌≡◌, refl, ◌∙◌}
use Rattle.dir_disk.specs.State.{State}
use Rattle.dir_disk.specs.Moments.{Told, Through, Both, files}
use Rattle.dir_disk.proofs.Through.{at_end, weaker, then_goes}

pub same_state : (d e : Told) → Through (Both (λ s. s ≡ files d)) d e → files e ≡ files d
same_state d e looks =
    at_end (Both (λ (s : State). s ≡ files d)) (λ (s : State). s ≡ files d) d e looks refl (λ s t both. both.1)

pub same_then : (d e f : Told) → Through (Both (λ s. s ≡ files d)) d e → Through (Both (λ s. s ≡ files e)) e f → Through (Both (λ s. s ≡ files d)) d f
same_then d e f first second =
    let same = same_state d e first in
    then_goes (Both (λ (s : State). s ≡ files d)) d e f first (weaker (Both (λ (s : State). s ≡ files e)) (Both (λ (s : State). s ≡ files d)) e f (λ s t both. (both.0 ∙ same, both.1 ∙ same)) second)
