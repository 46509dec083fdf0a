-- What looks leave.
use Rattle.std.proofs.Common.{◌≡◌, ℕ, List, Option, Some, None, Result, refl, ◌∙◌}
use Rattle.std.specs.Prelude.{true, is_some}
use Rattle.std.proofs.lemmas.Bool.{false≢true}
use Rattle.peg_base.specs.Names.{Names}
use Rattle.dir_disk.specs.declared.dir.DirFault.{DirFault}
use Rattle.dir_disk.specs.State.{Content, IsSound}
use Rattle.dir_disk.specs.Moments.{Told, Through, Both, files}
use Rattle.dir_disk.specs.Calls.{Look, Does, IsLength}
use Rattle.dir_disk.proofs.Through.{keeps, kept, weaker, then_goes}
use Rattle.mining.specs.Making.{IsAsAt}

pub look_same : {T : Type 0} (path : Names) (old new : Told) (result : Result T DirFault) → Does (Look path) old new result → IsSound (files old) → Through (Both (IsAsAt (files old))) old new
look_same path old new result does sound =
    keeps (IsAsAt (files old)) old new (Look path) result (λ q. refl) does sound (λ t steps q. steps.others q refl)

pub same_after : (a b : Told) → Through (Both (IsAsAt (files a))) a b → IsAsAt (files a) (files b)
same_after a b steps = kept (IsAsAt (files a)) a b steps (λ q. refl)

pub same_then : (a b c : Told) → Through (Both (IsAsAt (files a))) a b → Through (Both (IsAsAt (files b))) b c → Through (Both (IsAsAt (files a))) a c
same_then a b c first second =
    let mid : IsAsAt (files a) (files b) = same_after a b first in
    then_goes (Both (IsAsAt (files a))) a b c first (weaker (Both (IsAsAt (files b))) (Both (IsAsAt (files a))) b c (λ s t both. (λ q. both.0 q ∙ mid q, λ q. both.1 q ∙ mid q)) second)

pub one_more_look : {T : Type 0} (path : Names) (a b c : Told) (result : Result T DirFault) → Through (Both (IsAsAt (files a))) a b → Does (Look path) b c result → IsSound (files b) → Through (Both (IsAsAt (files a))) a c
one_more_look path a b c result first does sound = same_then a b c first (look_same path b c result does sound)

-- a file that has a length is there
pub there_by_length : (content : Content) (size : Option ℕ) → IsLength content size → is_some size ≡ true → (bytes : List ℕ) × (content ≡ Some bytes)
there_by_length content None is some = absurd (false≢true some)
there_by_length content (Some size) is some = (is.0, is.1)
