-- The work folder is settled, and looked at.
use Rattle.std.proofs.Common.{arith, ◌≡◌, true, false, ⊎_elim, [], ◌∷◌, None, sym, ◌∙◌, ap, subst}
use Rattle.std.specs.Prelude.{Result}
use Rattle.std.proofs.lemmas.Bool.{false≢true}
use Rattle.peg_base.specs.Names.{Names, under, same_path}
use Rattle.peg_base.proofs.Under.{same_path-refl, same_path_comm, under-antisymm, under-same, under-short}
use Rattle.dir_disk.specs.State.{State, Fits, IsSound, after_settle}
use Rattle.dir_disk.specs.Moments.{Told, Through, Both, EachImage, files}
use Rattle.dir_disk.specs.Calls.{Does, IsOpen}
use Rattle.dir_disk.specs.declared.dir.DirFault.{DirFault}
use Rattle.dir_disk.specs.Calls.Call.{Settle}
use Rattle.dir_disk.proofs.Through.{goes_on, started, weaker}
use Rattle.committer.specs.Paths.{success_of}
use Rattle.mining.specs.declared.place.Place.{Place}
use Rattle.mining.specs.Places.{folder_of}
use Rattle.mining.specs.Flow.{Mining}
use Rattle.mining.specs.Kept.{AllKept, Kept}
use Rattle.mining.specs.Between.{AllFirm}
use Rattle.mining.proofs.EnsureLemmas.{as_same, firm_fixed, looks_keep}
use Rattle.driver.specs.Opening.{IsSettled}

-- ---- settling

pub settle_images : {T : Type 0} (d e : Told) (result : Result T DirFault) → Does (Settle []) d e result → IsSound (files d) → Through (EachImage (Fits (files d))) d e
settle_images d e result does sound =
    goes_on (EachImage (Fits (files d))) d d e (Settle []) result (started (EachImage (Fits (files d))) d) does sound (λ t steps image fits q. ⊎_elim (λ first. first) (λ second. ⊎_elim (λ old. old) (λ gain. absurd gain) (steps.reach q (image q) second)) (fits q))

pub settled_all : (s t : State) → t ≡ after_settle [] s → IsSettled s t
settled_all s t is q = ap (λ (u : State). u q) is

pub settled_firm : (s t : State) → IsSettled s t → AllFirm t
settled_firm s t settled place is_there =
    firm_fixed place t (s (success_of (folder_of place))).now (settled (success_of (folder_of place)))

pub settled_keeps : (mining : Mining) (d e : Told) → AllKept mining (files d) → Through (EachImage (Fits (files d))) d e → Through (EachImage (Kept mining)) d e
settled_keeps mining d e kept steps =
    weaker (EachImage (Fits (files d))) (EachImage (Kept mining)) d e (λ s t each image fits. kept image (each image fits)) steps

-- ---- looks

pub same_keeps : (mining : Mining) (d e : Told) → AllKept mining (files d) → Through (Both (λ s. s ≡ files d)) d e → Through (EachImage (Kept mining)) d e
same_keeps mining d e kept steps = looks_keep mining d e kept (as_same d e steps)

-- ---- the top is no file, so each folder is open

pub open_top : (place : Place) (s : State) → (s []).now ≡ None → IsOpen s (folder_of place)
open_top place s none q above proper = at q above proper
  where
    at : (p : Names) → under p (folder_of place) ≡ true → same_path p (folder_of place) ≡ false → (s p).now ≡ None
    at [] above proper = none
    at (name ∷ []) above proper =
        absurd (false≢true (sym proper ∙ subst (λ (p : Names). same_path p (folder_of place) ≡ true) (sym (under-antisymm (name ∷ []) (folder_of place) above (under-same (folder_of place) (name ∷ []) (same_path_comm (folder_of place) (name ∷ []) ∙ above)))) (same_path-refl (folder_of place))))
    at (name ∷ other ∷ names) above proper =
        let short = under-short (name ∷ other ∷ names) (folder_of place) above in absurd (omega (arith, short))
