-- A folder is made unless it is whole: what stays, what is sure, and that each image is kept.
use Rattle.std.proofs.Common.{◌≡◌, ◌≢◌, ℕ, ◌<◌, Bool, true, false, ◌⊎◌, inr, ⊎_elim, List, [], ◌∷◌, ◌++◌, length, get_or, map, None, Some, refl, sym, ◌∙◌, ap, subst, arith}
use Rattle.std.specs.Prelude.{IsSome, is_some, Result, Ok, Err, OnOk}
use Rattle.std.specs.List.{flat_map, range_with_len}
use Rattle.std.proofs.lemmas.Bool.{false≢true}
use Rattle.std.proofs.lemmas.List.{same_lists, map-append, get_or_default}
use Rattle.std.proofs.lemmas.List.FromFn.{length-map-range_with_len, get_or-map-range_with_len}
use Rattle.peg_base.specs.Names.{Names}
use Rattle.peg_base.proofs.Under.{under-append}
use Rattle.dir_disk.specs.State.{Allows, Content, Held, State, Image, IsSound, StandsOutside, bytes_at, bytes_of}
use Rattle.dir_disk.specs.Moments.{Told, Through, Both, EachImage, files}
use Rattle.dir_disk.proofs.Through.{weaker, then_goes, at_end}
use Rattle.dir_disk.proofs.Steps.{settled_only}
use Rattle.committer.specs.Paths.{part_of, success_name, success_of}
use Rattle.committer.specs.Folders.{IsUnmarked, fixed}
use Rattle.committer.proofs.FolderLemmas.{some_is_there}
use Rattle.job.specs.Inputs.{bytes_at_each}
use Rattle.job.specs.Output.{job_parts}
use Rattle.job.specs.Whole.{HasOutput, IsFinished, Makes}
use Rattle.mining.specs.declared.place.Place.{Place}
use Rattle.mining.specs.declared.place.Place.TheVariants.{Conf}
use Rattle.mining.specs.Places.{folder_of, IsInTable, is_messages, is_sealed}
use Rattle.mining.specs.Table.{inputs_of, part_count, part_paths, paths_read}
use Rattle.mining.specs.Flow.{Mining, flow, plan_for}
use Rattle.mining.specs.Kept.{AllKept, Kept}
use Rattle.mining.specs.Between.{AllFirm, CanRead, IsDue, IsFirm, IsSure, KeepsWhole}
use Rattle.mining.proofs.Names.{same_or_apart}
use Rattle.mining.proofs.Flows.{each_then, flat_map_same, flow_made, length-flow}
use Rattle.mining.proofs.Keeping.{IsLoose, loose_job, makes_keep}
use Rattle.mining.specs.Making.{IsAsAt, parts_from}
use Rattle.mining.proofs.Looks.{same_after}

-- ---- what the inputs have is the flow

map-range : (f : ℕ → List ℕ) (parts : List (List ℕ)) (n : ℕ) → length parts ≡ n → ((k : ℕ) → k < n → f k ≡ get_or parts k []) → map f (range_with_len 0 n) ≡ parts
map-range f parts n count each =
    let size : length (map f (range_with_len 0 n)) ≡ n = length-map-range_with_len f 0 n in
    same_lists (map f (range_with_len 0 n)) parts (size ∙ sym count) (λ k d below. get_or-map-range_with_len f 0 n k k d (omega (arith, below, size)) (omega arith) ∙ each k (omega (arith, below, size)) ∙ get_or_default parts k [] d (omega (arith, below, size, count)))

map-twice : (f : Names → List ℕ) (g : ℕ → Names) (ks : List ℕ) → map f (map g ks) ≡ map (λ k. f (g k)) ks
map-twice f g [] = refl
map-twice f g (k ∷ ks) = ap (λ (rest : List (List ℕ)). f (g k) ∷ rest) (map-twice f g ks)

map-flat_map : (f : Names → List ℕ) (g : Place → List Names) (places : List Place) → map f (flat_map g places) ≡ flat_map (λ place. map f (g place)) places
map-flat_map f g [] = refl
map-flat_map f g (place ∷ places) =
    map-append f (g place) (flat_map g places) ∙ ap (λ (rest : List (List ℕ)). map f (g place) ++ rest) (map-flat_map f g places)

bytes_of_some : (content : Content) (bytes : List ℕ) → content ≡ Some bytes → bytes_of content ≡ bytes
bytes_of_some content bytes is = ap bytes_of is

pub folder_has_flow : (mining : Mining) (place : Place) (s : State) → IsSound s → AllKept mining s → IsInTable place → place ≢ Conf → IsSure place s → bytes_at_each s (part_paths place (part_count mining.conf place)) ≡ flow mining place
folder_has_flow mining place s sound kept is_there not_conf sure =
    let count = part_count mining.conf place in
    let folder = folder_of place in
    let image : Image = λ q. (s q).now in
    let has : HasOutput folder (flow mining place) image = (kept image sound).contents place is_there not_conf (sure (s (success_of folder)).now (sound (success_of folder))) in
    let size : length (flow mining place) ≡ count = length-flow mining place in
    map-twice (bytes_at s) (part_of folder) (range_with_len 0 count) ∙ map-range (λ k. bytes_at s (part_of folder k)) (flow mining place) count size (λ k below. bytes_of_some (s (part_of folder k)).now (get_or (flow mining place) k []) (has.each k (omega (arith, below, size))))

pub reads_flow : (mining : Mining) (last : ℕ) (place : Place) (s : State) → IsSound s → AllKept mining s → CanRead mining last place s → is_sealed place ≡ false → parts_from mining.gives mining.conf last place s ≡ flow mining place
unfolding paths_read
reads_flow mining last place s sound kept can job =
    let conf = mining.conf in
    let inputs = inputs_of conf.form last place in
    let all : bytes_at_each s (paths_read conf last place) ≡ flat_map (flow mining) inputs = map-flat_map (bytes_at s) (λ input. part_paths input (part_count conf input)) inputs ∙ flat_map_same (λ input. bytes_at_each s (part_paths input (part_count conf input))) (flow mining) inputs (each_then (λ input. IsInTable input × (input ≢ Conf) × IsSure input s) (λ input. bytes_at_each s (part_paths input (part_count conf input)) ≡ flow mining input) inputs (λ input has. folder_has_flow mining input s sound kept has.0 has.1 has.2) can.inputs) in
    ap (λ (bytes : List (List ℕ)). job_parts mining.gives (plan_for conf place bytes)) all ∙ ap (λ (places : List Place). job_parts mining.gives (plan_for conf place (flat_map (flow mining) places))) can.same ∙ sym (flow_made mining place job)

-- ---- sure and firm

pub firm_whole : (place : Place) (s : State) → IsFirm place s → is_some (s (success_of (folder_of place))).now ≡ true → IsSure place s
firm_whole place s firm some content allowed =
    let mark = success_of (folder_of place) in
    subst IsSome (sym (settled_only (s mark) content (subst (λ (h : Held). Allows h.may content) firm allowed))) some

pub firm_none : (place : Place) (s : State) → IsFirm place s → is_some (s (success_of (folder_of place))).now ≡ false → IsUnmarked (folder_of place) s
firm_none place s firm none content allowed =
    let mark = success_of (folder_of place) in
    settled_only (s mark) content (subst (λ (h : Held). Allows h.may content) firm allowed) ∙ is_none (s mark).now none
  where
    is_none : (now : Content) → is_some now ≡ false → now ≡ None
    is_none None fails = refl
    is_none (Some bytes) fails = absurd (false≢true (sym fails))

not_both : (place : Place) (s : State) → IsSound s → IsSure place s → IsUnmarked (folder_of place) s → ⊥
not_both place s sound sure unmarked =
    let mark = success_of (folder_of place) in
    some_is_there (s mark).now (sure (s mark).now (sound mark)) (unmarked (s mark).now (sound mark))

pub sure_same : (place : Place) (s t : State) → t (success_of (folder_of place)) ≡ s (success_of (folder_of place)) → IsSure place s → IsSure place t
sure_same place s t same sure content allowed = sure content (subst (λ (h : Held). Allows h.may content) same allowed)

pub sure_kept : (place : Place) (s t : State) → IsInTable place → is_messages place ≡ false → KeepsWhole s t → IsSure place s → IsSure place t
sure_kept place s t is_there stays keeps sure =
    sure_same place s t (keeps place is_there stays sure (success_of (folder_of place)) (under-append (folder_of place) (success_name ∷ []))) sure

pub firm_fixed : (place : Place) (s : State) (content : Content) → s (success_of (folder_of place)) ≡ fixed content → IsFirm place s
firm_fixed place s content is = is ∙ ap fixed (sym (ap (λ (h : Held). h.now) is))

pub firm_same : (place : Place) (s t : State) → t (success_of (folder_of place)) ≡ s (success_of (folder_of place)) → IsFirm place s → IsFirm place t
firm_same place s t same firm = same ∙ firm ∙ ap (λ (h : Held). fixed h.now) (sym same)

-- one folder was changed, and is whole in each image or in none
pub firm_after : (place : Place) (s t : State) (content : Content) → IsInTable place → AllFirm s → StandsOutside (folder_of place) s t → t (success_of (folder_of place)) ≡ fixed content → AllFirm t
firm_after place s t content is_there firm outside is other other_there =
    ⊎_elim (λ same. subst (λ (p : Place). IsFirm p t) (sym same) (firm_fixed place t content is)) (λ apart. firm_same other s t (outside (success_of (folder_of other)) (apart (success_of (folder_of other)) (under-append (folder_of other) (success_name ∷ [])))) (firm other other_there)) (same_or_apart other place other_there is_there)

pub finished_sure : (place : Place) (parts : List (List ℕ)) (s : State) → IsFinished (folder_of place) parts s → IsSure place s
finished_sure place parts s finished =
    firm_whole place s (firm_fixed place s (Some []) finished.success) (ap (λ (h : Held). is_some h.now) finished.success)

-- ---- what stays

pub keeps_same : (s t : State) → IsAsAt s t → KeepsWhole s t
keeps_same s t same place is_there stays sure path inside = same path

pub keeps_then : (r s t : State) → KeepsWhole r s → KeepsWhole s t → KeepsWhole r t
keeps_then r s t first second place is_there stays sure path inside =
    second place is_there stays (sure_kept place r s is_there stays first sure) path inside ∙ first place is_there stays sure path inside

pub stays_after : (d e : Told) → Through (Both (KeepsWhole (files d))) d e → KeepsWhole (files d) (files e)
stays_after d e steps =
    at_end (Both (KeepsWhole (files d))) (KeepsWhole (files d)) d e steps (λ place is_there stays sure path inside. refl) (λ s t both. both.1)

pub stays_then : (d e f : Told) → Through (Both (KeepsWhole (files d))) d e → Through (Both (KeepsWhole (files e))) e f → Through (Both (KeepsWhole (files d))) d f
stays_then d e f first second =
    let mid = stays_after d e first in
    then_goes (Both (KeepsWhole (files d))) d e f first (weaker (Both (KeepsWhole (files e))) (Both (KeepsWhole (files d))) e f (λ s t both. (keeps_then (files d) (files e) s mid both.0, keeps_then (files d) (files e) t mid both.1)) second)

-- a folder that is whole in no image, or is dropped with its messages, is none of those that stay
pub outside_keeps : (place : Place) (s t : State) → IsSound s → IsInTable place → (is_messages place ≡ true) ⊎ IsUnmarked (folder_of place) s → StandsOutside (folder_of place) s t → KeepsWhole s t
outside_keeps place s t sound is_there loose outside other other_there stays sure path inside =
    ⊎_elim (λ same. absurd (⊎_elim (λ messages. false≢true (sym (subst (λ (p : Place). is_messages p ≡ false) same stays) ∙ messages)) (λ unmarked. not_both place s sound (subst (λ (p : Place). IsSure p s) same sure) unmarked) loose)) (λ apart. outside path (apart path inside)) (same_or_apart other place other_there is_there)

pub makes_stay : (place : Place) (parts : List (List ℕ)) (d f : Told) → IsSound (files d) → IsInTable place → (is_messages place ≡ true) ⊎ IsUnmarked (folder_of place) (files d) → Through (Makes (folder_of place) parts (files d)) d f → Through (Both (KeepsWhole (files d))) d f
makes_stay place parts d f sound is_there loose steps =
    weaker (Makes (folder_of place) parts (files d)) (Both (KeepsWhole (files d))) d f (λ s t makes. (outside_keeps place (files d) s sound is_there loose makes.outside.0, outside_keeps place (files d) t sound is_there loose makes.outside.1)) steps

pub looks_stay : (d e : Told) → Through (Both (IsAsAt (files d))) d e → Through (Both (KeepsWhole (files d))) d e
looks_stay d e steps =
    weaker (Both (IsAsAt (files d))) (Both (KeepsWhole (files d))) d e (λ s t both. (keeps_same (files d) s both.0, keeps_same (files d) t both.1)) steps

-- ---- each image

pub kept_after : (mining : Mining) (d e : Told) → AllKept mining (files d) → Through (EachImage (Kept mining)) d e → AllKept mining (files e)
kept_after mining d e start steps =
    at_end (EachImage (Kept mining)) (AllKept mining) d e steps start (λ s t each image fits. each image (λ q. inr (fits q)))

pub looks_keep : (mining : Mining) (d e : Told) → AllKept mining (files d) → Through (Both (IsAsAt (files d))) d e → Through (EachImage (Kept mining)) d e
looks_keep mining d e kept steps =
    weaker (Both (IsAsAt (files d))) (EachImage (Kept mining)) d e (λ s t both image fits. kept image (λ q. ⊎_elim (λ first. subst (λ (h : Held). Allows h.may (image q)) (both.0 q) first) (λ second. subst (λ (h : Held). Allows h.may (image q)) (both.1 q) second) (fits q))) steps

pub jobs_keep : (mining : Mining) (last : ℕ) (place : Place) (d f : Told) → IsSound (files d) → is_sealed place ≡ false → AllKept mining (files d) → IsDue mining place (files d) → CanRead mining last place (files d) → IsUnmarked (folder_of place) (files d) → Through (Makes (folder_of place) (parts_from mining.gives mining.conf last place (files d)) (files d)) d f → Through (EachImage (Kept mining)) d f
jobs_keep mining last place d f sound job kept due can unmarked steps =
    let loose : IsLoose mining place (files d) = loose_job mining place (files d) job (inr unmarked) in
    let parts = reads_flow mining last place (files d) sound kept can job in
    weaker (Makes (folder_of place) (flow mining place) (files d)) (EachImage (Kept mining)) d f (λ s t makes. makes_keep mining place (files d) s t sound kept due loose makes) (subst (λ (ps : List (List ℕ)). Through (Makes (folder_of place) ps (files d)) d f) parts steps)

pub due_same : (mining : Mining) (place : Place) (s t : State) → IsAsAt s t → IsDue mining place s → IsDue mining place t
due_same mining place s t same due =
    record {
      is_there = due.is_there;
      made = due.made;
      may = due.may;
      before = λ earlier precedes. sure_same earlier s t (same (success_of (folder_of earlier))) (due.before earlier precedes);
    }

pub read_same : (mining : Mining) (last : ℕ) (place : Place) (s t : State) → IsAsAt s t → CanRead mining last place s → CanRead mining last place t
read_same mining last place s t same can =
    record {
      same = can.same;
      inputs = each_then (λ input. IsInTable input × (input ≢ Conf) × IsSure input s) (λ input. IsInTable input × (input ≢ Conf) × IsSure input t) (inputs_of mining.conf.form last place) (λ input has. (has.0, has.1, sure_same input s t (same (success_of (folder_of input))) has.2)) can.inputs;
    }

-- ---- a folder that wasn't whole, and was made then

pub on_ok : {T E : Type 0} (P Q : Type 0) (result : Result T E) → (P → Q) → OnOk result P → OnOk result Q
on_ok P Q (Ok value) weak holds = weak holds
on_ok P Q (Err error) weak holds = holds

pub as_same : (d e : Told) → Through (Both (λ s. s ≡ files d)) d e → Through (Both (IsAsAt (files d))) d e
as_same d e steps =
    weaker (Both (λ (s : State). s ≡ files d)) (Both (IsAsAt (files d))) d e (λ s t both. (λ q. ap (λ (u : State). u q) both.0, λ q. ap (λ (u : State). u q) both.1)) steps

module _ (place : Place) (d e f : Told) (looks : Through (Both (λ s. s ≡ files d)) d e) (firm : AllFirm (files d)) (is_there : IsInTable place) (folder : Names) (at_place : folder ≡ folder_of place) (whole : Bool) (is : whole ≡ is_some (files d (success_of folder)).now) (fails : whole ≡ false) where
  same_state : files e ≡ files d
  same_state = at_end (Both (λ (s : State). s ≡ files d)) (λ (s : State). s ≡ files d) d e looks refl (λ s t both. both.1)

  abbrev same : IsAsAt (files d) (files e)
  same = λ q. ap (λ (u : State). u q) same_state

  pub unmarked_then : IsUnmarked (folder_of place) (files e)
  unmarked_then =
      let now : is_some (files d (success_of (folder_of place))).now ≡ false = subst (λ (names : Names). is_some (files d (success_of names)).now ≡ false) at_place (sym is ∙ fails) in
      subst (λ (s : State). IsUnmarked (folder_of place) s) (sym same_state) (firm_none place (files d) (firm place is_there) now)

  pub ensured_firm : {T E : Type 0} (parts : List (List ℕ)) (result : Result T E) → Through (Makes (folder_of place) parts (files e)) e f → OnOk result (IsFinished (folder_of place) parts (files f)) → OnOk result (AllFirm (files f))
  ensured_firm parts result steps finished =
      let outside : StandsOutside (folder_of place) (files e) (files f) = at_end (Makes (folder_of place) parts (files e)) (StandsOutside (folder_of place) (files e)) e f steps (λ q apart. refl) (λ s t makes. makes.outside.1) in
      on_ok (IsFinished (folder_of place) parts (files f)) (AllFirm (files f)) result (λ done. firm_after place (files e) (files f) (Some []) is_there (subst AllFirm (sym same_state) firm) outside done.success) finished

  pub ensured_stays : (parts : List (List ℕ)) → IsSound (files e) → Through (Makes (folder_of place) parts (files e)) e f → Through (Both (KeepsWhole (files d))) d f
  ensured_stays parts sound steps =
      stays_then d e f (looks_stay d e (as_same d e looks)) (makes_stay place parts e f sound is_there (inr unmarked_then) steps)

  pub ensured_kept : (mining : Mining) (last : ℕ) → IsSound (files e) → is_sealed place ≡ false → AllKept mining (files d) → IsDue mining place (files d) → CanRead mining last place (files d) → Through (Makes (folder_of place) (parts_from mining.gives mining.conf last place (files e)) (files e)) e f → Through (EachImage (Kept mining)) d f
  ensured_kept mining last sound job kept due can steps =
      let first = looks_keep mining d e kept (as_same d e looks) in
      then_goes (EachImage (Kept mining)) d e f first (jobs_keep mining last place e f sound job (kept_after mining d e kept first) (due_same mining place (files d) (files e) same due) (read_same mining last place (files d) (files e) same can) unmarked_then steps)

-- ---- what stands outside a folder

pub looked_outside : (folder : Names) (d e : Told) → Through (Both (λ s. s ≡ files d)) d e → StandsOutside folder (files d) (files e)
looked_outside folder d e looks path apart = same_after d e (as_same d e looks) path

pub made_outside : (folder : Names) (parts : List (List ℕ)) (d e f : Told) → Through (Both (λ s. s ≡ files d)) d e → Through (Makes folder parts (files e)) e f → StandsOutside folder (files d) (files f)
made_outside folder parts d e f looks steps path apart =
    at_end (Makes folder parts (files e)) (StandsOutside folder (files e)) e f steps (λ q far. refl) (λ s t makes. makes.outside.1) path apart ∙ looked_outside folder d e looks path apart
