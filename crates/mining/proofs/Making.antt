-- Each call that changes a folder, as one relation: wherever the folder is whole it has these parts, and all outside it stands.
use Rattle.std.proofs.Common.{◌≡◌, ℕ, zero, suc, ◌<◌, Bool, true, false, if◌then◌else◌, ◌⊎◌, ⊎_elim, List, [], ◌∷◌, get_or, None, Some, refl, sym, ◌∙◌, ap, subst, arith}
use Rattle.std.specs.Prelude.{IsSome}
use Rattle.std.proofs.lemmas.Bool.{false≢true}
use Rattle.peg_base.specs.Names.{Names, under, same_path}
use Rattle.peg_base.proofs.Under.{under-append, under-refl, same_path-other, children_apart}
use Rattle.dir_disk.specs.State.{Allows, Content, Held, State, Image, Fits, FitsEither, IsSound}
use Rattle.committer.specs.Paths.{success_name, success_of, part_name, part_of}
use Rattle.committer.specs.Folders.{IsWhole, Drops, Opens, Writes, Seals, IsBegun}
use Rattle.committer.proofs.FolderLemmas.{some_is_there, below_folder}
use Rattle.committer.proofs.NamesApart.{part_not_success}
use Rattle.job.specs.Whole.{HasOutput, HasOutputIfWhole, Makes}

-- ---- writing

pub writes_makes : (folder : Names) (parts : List (List ℕ)) (entry s t : State) → Writes folder entry s t → Makes folder parts entry s t
writes_makes folder parts entry s t writes =
    record { images = λ image fits whole. absurd (writes.images image fits whole); outside = writes.outside }

pub opens_makes : (folder : Names) (parts : List (List ℕ)) (entry s t : State) → Opens folder entry s t → Makes folder parts entry s t
opens_makes folder parts entry s t opens =
    record { images = λ image fits whole. absurd (opens.images image fits whole); outside = (opens.less.0.outside, opens.less.1.outside) }

-- a folder of one part is made whole
pub seals_makes : (folder : Names) (text : List ℕ) (entry s t : State) → IsBegun folder entry → (entry (part_of folder 0)).now ≡ Some text → Seals folder entry s t → Makes folder (text ∷ []) entry s t
seals_makes folder text entry s t begun part seals =
    record { images = λ image fits whole. has image (seals.images image fits whole); outside = seals.outside }
  where
    mark_no_part : (k : ℕ) → same_path (success_of folder) (part_of folder k) ≡ false
    mark_no_part k =
        same_path-other (success_of folder) (part_of folder k) (λ same. false≢true (sym (children_apart folder (part_name k) success_name (part_of folder k) (part_not_success k) (under-refl (part_of folder k))) ∙ subst (λ (p : Names). under (success_of folder) p ≡ true) same (under-refl (success_of folder))))

    has : (image : Image) → ((path : Names) → under folder path ≡ true → same_path (success_of folder) path ≡ false → image path ≡ (entry path).now) → HasOutput folder (text ∷ []) image
    has image same =
        record {
          each = each;
          no_other = λ path inside other not_parts. same path inside other ∙ ap (λ (h : Held). h.now) (begun.no_other path inside (not_parts 0 (omega arith)));
        }
      where
        each : (k : ℕ) → k < 1 → image (part_of folder k) ≡ Some (get_or (text ∷ []) k [])
        each zero below =
            same (part_of folder 0) (under-append folder (part_name 0 ∷ [])) (mark_no_part 0) ∙ part
        each (suc k) below = absurd (omega arith)

-- ---- taking away

abbrev or_now : Content → Content → Content
or_now None now = now
or_now (Some bytes) now = Some bytes

-- an image in which files under the mark may have gone, as it may have been before
abbrev before_drop : Names → State → Image → Image
before_drop folder entry image path =
    if under (success_of folder) path then or_now (image path) (entry path).now else image path

module _ (folder : Names) (parts : List (List ℕ)) (entry s t : State) (sound : IsSound entry) (held : (image : Image) → Fits entry image → HasOutputIfWhole folder parts image) (drops : Drops folder entry s t) where
  abbrev under_mark : Names → Bool
  under_mark path = under (success_of folder) path

  outside_now : (image : Image) → FitsEither s t image → (path : Names) → under folder path ≡ false → Allows (entry path).may (image path)
  outside_now image fits path apart =
      ⊎_elim (λ first. subst (λ (h : Held). Allows h.may (image path)) (drops.less.0.outside path apart) first) (λ second. subst (λ (h : Held). Allows h.may (image path)) (drops.less.1.outside path apart) second) (fits path)

  either_now : (path : Names) (content : Content) → Allows (entry path).may content ⊎ ((under_mark path ≡ true) × (content ≡ None)) → Allows (entry path).may (or_now content (entry path).now)
  either_now path None reach = sound path
  either_now path (Some bytes) reach = ⊎_elim (λ allowed. allowed) (λ gone. absurd (some_is_there (Some bytes) refl gone.1)) reach

  only_now : (path : Names) (content : Content) → under_mark path ≡ false → Allows (entry path).may content ⊎ ((under_mark path ≡ true) × (content ≡ None)) → Allows (entry path).may content
  only_now path content not_under reach =
      ⊎_elim (λ allowed. allowed) (λ gone. absurd (false≢true (sym not_under ∙ gone.0))) reach

  mark_below : (path : Names) → under_mark path ≡ true → under folder path ≡ false → ⊥
  mark_below path below apart = false≢true (sym apart ∙ committer_below path below)
    where
      committer_below : (q : Names) → under_mark q ≡ true → under folder q ≡ true
      committer_below q inside = below_folder folder q inside

  fits_before : (image : Image) → FitsEither s t image → IsWhole folder image → Fits entry (before_drop folder entry image)
  fits_before image fits whole path =
      at (under_mark path) refl (under folder path) refl
    where
      at : (mark : Bool) → under_mark path ≡ mark → (inside : Bool) → under folder path ≡ inside → Allows (entry path).may (if mark then or_now (image path) (entry path).now else image path)
      at true below true inside = either_now path (image path) (drops.images image fits whole path inside)
      at true below false outside = absurd (mark_below path below outside)
      at false beside true inside = only_now path (image path) beside (drops.images image fits whole path inside)
      at false beside false outside = outside_now image fits path outside

  chosen_false : (path : Names) (a b : Content) → under_mark path ≡ false → (if under_mark path then a else b) ≡ b
  chosen_false path a b beside = ap (λ (mark : Bool). if mark then a else b) beside

  whole_before : (image : Image) → IsWhole folder image → IsWhole folder (before_drop folder entry image)
  whole_before image whole =
      subst IsSome (sym (ap (λ (mark : Bool). if mark then or_now (image (success_of folder)) (entry (success_of folder)).now else image (success_of folder)) (under-refl (success_of folder)))) (still (image (success_of folder)) whole)
    where
      still : (content : Content) → IsSome content → IsSome (or_now content (entry (success_of folder)).now)
      still None some = absurd (some_is_there None some refl)
      still (Some bytes) some = refl

  none_then : (image : Image) (path : Names) → before_drop folder entry image path ≡ None → image path ≡ None
  none_then image path none = at (under_mark path) refl (image path) refl
    where
      at : (mark : Bool) → under_mark path ≡ mark → (content : Content) → image path ≡ content → image path ≡ None
      at true below None is = is
      at true below (Some bytes) is =
          absurd (some_is_there (before_drop folder entry image path) (subst IsSome (sym (ap (λ (mark : Bool). if mark then or_now (image path) (entry path).now else image path) below ∙ ap (λ (c : Content). or_now c (entry path).now) is)) refl) none)
      at false beside content is = sym (chosen_false path (or_now (image path) (entry path).now) (image path) beside) ∙ none

  pub drops_makes : Makes folder parts entry s t
  drops_makes =
      record {
        images = λ image fits whole. let was : HasOutput folder parts (before_drop folder entry image) = held (before_drop folder entry image) (fits_before image fits whole) (whole_before image whole) in record {
          each = λ part below. sym (chosen_false (part_of folder part) (or_now (image (part_of folder part)) (entry (part_of folder part)).now) (image (part_of folder part)) (children_apart folder (part_name part) success_name (part_of folder part) (part_not_success part) (under-refl (part_of folder part)))) ∙ was.each part below;
          no_other = λ path inside other not_parts. none_then image path (was.no_other path inside other not_parts);
        };
        outside = (drops.less.0.outside, drops.less.1.outside);
      }
