-- Folders that the driver writes itself.
use Rattle.std.proofs.Common.{◌≡◌, ℕ, zero, suc, ◌<◌, true, List, [], ◌∷◌, get_or, None, Some, refl, sym, ◌∙◌, ap, subst, arith}
use Rattle.std.specs.Prelude.{is_some}
use Rattle.peg_base.specs.Names.{Names}
use Rattle.dir_disk.specs.State.{Allows, Content, Held, State, Image, Fits, IsSound, StandsOutside}
use Rattle.dir_disk.specs.Moments.{Told, Through, Both, EachImage, files}
use Rattle.dir_disk.proofs.Steps.{settled_only}
use Rattle.dir_disk.proofs.Through.{at_end, weaker}
use Rattle.committer.specs.Folders.{Drops, fixed}
use Rattle.committer.specs.Paths.{part_of}
use Rattle.job.specs.Whole.{HasOutput}
use Rattle.job.specs.Whole as Job
use Rattle.mining.specs.declared.place.Place.{Place}
use Rattle.mining.specs.Places.{folder_of, IsInTable, is_sealed}
use Rattle.mining.specs.Flow.{Mining, sealed_parts}
use Rattle.mining.specs.Kept.{AllKept, Kept}
use Rattle.mining.specs.Between.{AllFirm, IsDue, IsSure}
use Rattle.mining.proofs.Flows.{flow_sealed}
use Rattle.mining.proofs.Keeping.{IsLoose, makes_keep}
use Rattle.mining.proofs.EnsureLemmas.{firm_after, firm_fixed, firm_whole}
use Rattle.store.specs.Sealed.{HasTextIn, IsMade, Makes}

pub drops_outside : (folder : Names) (d e : Told) → Through (Drops folder (files d)) d e → Through (Both (StandsOutside folder (files d))) d e
drops_outside folder d e steps =
    weaker (Drops folder (files d)) (Both (StandsOutside folder (files d))) d e (λ s t drops. (drops.less.0.outside, drops.less.1.outside)) steps

pub makes_outside : (folder : Names) (text : List ℕ) (d e : Told) → Through (Makes folder text (files d)) d e → Through (Both (StandsOutside folder (files d))) d e
makes_outside folder text d e steps =
    weaker (Makes folder text (files d)) (Both (StandsOutside folder (files d))) d e (λ s t makes. makes.outside) steps

pub outside_after : (folder : Names) (d e : Told) → Through (Both (StandsOutside folder (files d))) d e → StandsOutside folder (files d) (files e)
outside_after folder d e steps =
    at_end (Both (StandsOutside folder (files d))) (StandsOutside folder (files d)) d e steps (λ q apart. refl) (λ s t both. both.1)

-- one text is one part
text_output : (folder : Names) (text : List ℕ) (image : Image) → HasTextIn folder text image → HasOutput folder (text ∷ []) image
text_output folder text image has =
    record { each = each; no_other = λ path inside other not_parts. has.no_other path inside other (not_parts 0 (omega arith)) }
  where
    each : (k : ℕ) → k < 1 → image (part_of folder k) ≡ Some (get_or (text ∷ []) k [])
    each zero below = has.part
    each (suc k) below = absurd (omega arith)

pub text_makes : (folder : Names) (text : List ℕ) (entry s t : State) → Makes folder text entry s t → Job.Makes folder (text ∷ []) entry s t
text_makes folder text entry s t makes =
    record { images = λ image fits whole. text_output folder text image (makes.images image fits whole); outside = makes.outside }

pub fixed_only : (s : State) (path : Names) (content now : Content) → s path ≡ fixed now → Allows (s path).may content → content ≡ now
fixed_only s path content now is allowed =
    settled_only (fixed now) content (subst (λ (h : Held). Allows h.may content) is allowed)

pub made_sure : (place : Place) (text : List ℕ) (s : State) → IsMade (folder_of place) text s → IsSure place s
made_sure place text s made =
    firm_whole place s (firm_fixed place s (Some []) made.success) (ap (λ (h : Held). is_some h.now) made.success)

pub made_firm : (place : Place) (text : List ℕ) (s t : State) → IsInTable place → AllFirm s → StandsOutside (folder_of place) s t → IsMade (folder_of place) text t → AllFirm t
made_firm place text s t is_there firm outside made =
    firm_after place s t (Some []) is_there firm outside made.success

pub made_output : (place : Place) (text : List ℕ) (s : State) (image : Image) → IsMade (folder_of place) text s → Fits s image → HasOutput (folder_of place) (text ∷ []) image
made_output place text s image made fits =
    text_output (folder_of place) text image (record { part = fixed_only s (part_of (folder_of place) 0) (image (part_of (folder_of place) 0)) (Some text) made.part (fits (part_of (folder_of place) 0)); no_other = λ path inside other beside. settled_only (fixed None) (image path) (subst (λ (h : Held). Allows h.may (image path)) (made.no_other path inside other beside) (fits path)) })

pub seals_keep : (mining : Mining) (place : Place) (text : List ℕ) (d e : Told) → IsSound (files d) → is_sealed place ≡ true → sealed_parts mining place ≡ text ∷ [] → AllKept mining (files d) → IsDue mining place (files d) → IsLoose mining place (files d) → Through (Makes (folder_of place) text (files d)) d e → Through (EachImage (Kept mining)) d e
seals_keep mining place text d e sound sealed is kept due loose steps =
    weaker (Makes (folder_of place) text (files d)) (EachImage (Kept mining)) d e (λ s t makes. makes_keep mining place (files d) s t sound kept due loose (subst (λ (parts : List (List ℕ)). Job.Makes (folder_of place) parts (files d) s t) (sym (flow_sealed mining place sealed ∙ is)) (text_makes (folder_of place) text (files d) s t makes))) steps
