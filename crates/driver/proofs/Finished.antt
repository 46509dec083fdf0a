-- What is whole when a run begins stays.
use Rattle.std.proofs.Common.{◌≡◌, false, inr, ⊎_elim, [], ◌∷◌, refl, sym, ◌∙◌, subst}
use Rattle.std.specs.Prelude.{IsSome}
use Rattle.peg_base.proofs.Under.{under-append}
use Rattle.dir_disk.specs.State.{Fits, Image, State, IsSound, StandsOutside}
use Rattle.dir_disk.specs.Moments.{Both, EachImage, Through, Told, files}
use Rattle.dir_disk.proofs.Through.{at_end, then_goes, weaker}
use Rattle.committer.specs.Folders.{IsUnmarked}
use Rattle.committer.specs.Paths.{success_name, success_of}
use Rattle.committer.proofs.FolderLemmas.{some_is_there}
use Rattle.mining.specs.declared.place.Place.{Place}
use Rattle.mining.specs.declared.place.Place.TheVariants.{Conf, Edges}
use Rattle.mining.specs.Places.{folder_of, IsInTable, is_messages}
use Rattle.mining.specs.Between.{IsSure, KeepsWhole}
use Rattle.mining.proofs.Names.{same_or_apart}
use Rattle.mining.proofs.EnsureLemmas.{as_same, looks_stay, outside_keeps, sure_same}
use Rattle.driver.specs.Opening.{IsSettled, KeepsFinished, StaysOne}
use Rattle.driver.proofs.Begin.{edges_unmarked}
use Rattle.driver.proofs.Due.{edges_not_conf}
use Rattle.driver.proofs.Sealing.{fixed_only}

pub whole_finished : (d e : Told) → Through (Both (KeepsWhole (files d))) d e → Through (Both (KeepsFinished (files d))) d e
whole_finished d e steps =
    weaker (Both (KeepsWhole (files d))) (Both (KeepsFinished (files d))) d e (λ s t both. (λ place is_there stays conf sure path inside. both.0 place is_there stays sure path inside, λ place is_there stays conf sure path inside. both.1 place is_there stays sure path inside)) steps

pub looks_finished : (d e : Told) → Through (Both (λ s. s ≡ files d)) d e → Through (Both (KeepsFinished (files d))) d e
looks_finished d e looks = whole_finished d e (looks_stay d e (as_same d e looks))

pub sure_still : (place : Place) (r s : State) → IsInTable place → is_messages place ≡ false → (place ≡ Conf → IsSure Edges r) → KeepsFinished r s → IsSure place r → IsSure place s
sure_still place r s is_there stays conf keeps sure =
    sure_same place r s (keeps place is_there stays conf sure (success_of (folder_of place)) (under-append (folder_of place) (success_name ∷ []))) sure

finished_on : (r s t : State) → KeepsFinished r s → KeepsFinished s t → KeepsFinished r t
finished_on r s t first second place is_there stays conf sure path inside =
    second place is_there stays (λ is. sure_still Edges r s tt refl (λ other. absurd (edges_not_conf other)) first (conf is)) (sure_still place r s is_there stays conf first sure) path inside ∙ first place is_there stays conf sure path inside

pub finished_then : (d e f : Told) → Through (Both (KeepsFinished (files d))) d e → Through (Both (KeepsFinished (files e))) e f → Through (Both (KeepsFinished (files d))) d f
finished_then d e f first second =
    let mid : KeepsFinished (files d) (files e) = at_end (Both (KeepsFinished (files d))) (KeepsFinished (files d)) d e first (λ place is_there stays conf sure path inside. refl) (λ s t both. both.1) in
    then_goes (Both (KeepsFinished (files d))) d e f first (weaker (Both (KeepsFinished (files e))) (Both (KeepsFinished (files d))) e f (λ s t both. (finished_on (files d) (files e) s mid both.0, finished_on (files d) (files e) t mid both.1)) second)

conf_finished : (s t : State) → IsSound s → IsUnmarked (folder_of Edges) s → StandsOutside (folder_of Conf) s t → KeepsFinished s t
conf_finished s t sound unmarked outside place is_there stays conf sure path inside =
    ⊎_elim (λ same. let mark = success_of (folder_of Edges) in absurd (some_is_there (s mark).now (conf same (s mark).now (sound mark)) (unmarked (s mark).now (sound mark)))) (λ apart. outside path (apart path inside)) (same_or_apart place Conf is_there tt)

pub conf_stays : (d e : Told) → IsSound (files d) → IsUnmarked (folder_of Edges) (files d) → Through (Both (StandsOutside (folder_of Conf) (files d))) d e → Through (Both (KeepsFinished (files d))) d e
conf_stays d e sound unmarked steps =
    weaker (Both (StandsOutside (folder_of Conf) (files d))) (Both (KeepsFinished (files d))) d e (λ s t both. (conf_finished (files d) s sound unmarked both.0, conf_finished (files d) t sound unmarked both.1)) steps

pub begun_stays : (d e f : Told) → IsSound (files d) → IsSound (files e) → IsUnmarked (folder_of Edges) (files d) → Through (Both (StandsOutside (folder_of Conf) (files d))) d e → Through (Both (StandsOutside (folder_of Edges) (files e))) e f → Through (Both (KeepsFinished (files d))) d f
begun_stays d e f sound sound_then unmarked outside steps =
    finished_then d e f (conf_stays d e sound unmarked outside) (whole_finished e f (weaker (Both (StandsOutside (folder_of Edges) (files e))) (Both (KeepsWhole (files e))) e f (λ s t both. (outside_keeps Edges (files e) s sound_then tt (inr (edges_unmarked d e outside unmarked)) both.0, outside_keeps Edges (files e) t sound_then tt (inr (edges_unmarked d e outside unmarked)) both.1)) steps))

-- ---- over the whole run, which settles first

pub sure_settled : (place : Place) (s t : State) → IsSound s → IsSettled s t → IsSure place s → IsSure place t
sure_settled place s t sound settled sure content allowed =
    let mark = success_of (folder_of place) in
    subst IsSome (sym (fixed_only t mark content (s mark).now (settled mark) allowed)) (sure (s mark).now (sound mark))

pub fits_stay : (d e : Told) → Through (EachImage (Fits (files d))) d e → StaysOne (files d) (files e)
fits_stay d e steps place is_there stays conf one path inside image fits =
    one.one path inside (image path) (at_end (EachImage (Fits (files d))) (λ (s : State). (i : Image) → Fits s i → Fits (files d) i) d e steps (λ i same. same) (λ s t each i same. each i (λ q. inr (same q))) image fits path)

pub settled_stay : (s : State) (e f : Told) → IsSound s → IsSettled s (files e) → Through (Both (KeepsFinished (files e))) e f → StaysOne s (files f)
settled_stay s e f sound settled steps place is_there stays conf one path inside image fits =
    let keeps : KeepsFinished (files e) (files f) = at_end (Both (KeepsFinished (files e))) (KeepsFinished (files e)) e f steps (λ p there still c sure q below. refl) (λ r t both. both.1) in
    fixed_only (files f) path (image path) (s path).now (keeps place is_there stays (λ is. sure_settled Edges s (files e) sound settled (conf is).whole) (sure_settled place s (files e) sound settled one.whole) path inside ∙ settled path) (fits path)
