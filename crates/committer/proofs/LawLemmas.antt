-- The laws of whole folders.
use Rattle.std.proofs.Common.{◌≡◌, Bool, true, false, if◌then◌else◌, [], Some, None, refl, sym, ap, subst}
use Rattle.std.specs.Prelude.{IsSome, is_some}
use Rattle.peg_base.specs.Names.{Names, same_path}
use Rattle.peg_base.proofs.Under.{same_path-refl, same_path-true}
use Rattle.dir_disk.specs.State.{Content, Allows, Held, State, Image, Fits, IsSound}
use Rattle.dir_disk.proofs.Steps.{settled_only}
use Rattle.digit_names.specs.Digits.{digits}
use Rattle.committer.specs.Paths.{success_of, part_name, task_name, attempt_name, input_name}
use Rattle.committer.specs.Folders.{fixed}
use Rattle.committer.specs.Laws.{UnmarkedIsWholeInNone, SealedIsWholeInEach, CommittedIsWholeInEach, PartsAreApart, NamesByExample}
use Rattle.committer.proofs.FolderLemmas.{some_is_there}
use Rattle.committer.proofs.MoveLemmas.{parts_apart, task_parts_apart}

-- a path that allows one content alone has it in each image
fixed_only : (held : Held) (content other : Content) → held ≡ fixed content → Allows held.may other → other ≡ content
fixed_only held content other is allowed =
    settled_only (fixed content) other (subst (λ (h : Held). Allows h.may other) is allowed)

whole_from : (content : Content) → content ≡ Some [] → IsSome content
whole_from content is = ap is_some is

-- the state as it is, but for one path
changed_at : Names → Content → State → Image
changed_at path content state q = if same_path path q then content else (state q).now

changed_fits : (path : Names) (content : Content) (state : State) → IsSound state → Allows (state path).may content → Fits state (changed_at path content state)
unfolding changed_at
changed_fits path content state sound allowed q =
    chosen (same_path path q) refl
  where
    chosen : (test : Bool) → same_path path q ≡ test → Allows (state q).may (if test then content else (state q).now)
    chosen true same = subst (λ (r : Names). Allows (state r).may content) (same_path-true path q same) allowed
    chosen false other = sound q

at_changed : (path : Names) (content : Content) (state : State) → changed_at path content state path ≡ content
unfolding changed_at
at_changed path content state =
    ap (λ (test : Bool). if test then content else (state path).now) (same_path-refl path)

none_where_not_some : (content : Content) → (IsSome content → ⊥) → content ≡ None
none_where_not_some None never = refl
none_where_not_some (Some bytes) never = absurd (never refl)

pub unmarked_is_whole_in_none : UnmarkedIsWholeInNone
unmarked_is_whole_in_none folder state sound =
    (λ unmarked image fits whole. some_is_there (image (success_of folder)) whole (unmarked (image (success_of folder)) (fits (success_of folder))), λ none content allowed. none_where_not_some content (λ some. none (changed_at (success_of folder) content state) (changed_fits (success_of folder) content state sound allowed) (subst IsSome (sym (at_changed (success_of folder) content state)) some)))

pub sealed_is_whole_in_each : SealedIsWholeInEach
sealed_is_whole_in_each folder entry state image sealed fits =
    (whole_from (image (success_of folder)) (fixed_only (state (success_of folder)) (Some []) (image (success_of folder)) sealed.success (fits (success_of folder))), λ q below other. fixed_only (state q) (entry q).now (image q) (sealed.files q below other) (fits q))

pub committed_is_whole_in_each : CommittedIsWholeInEach
committed_is_whole_in_each folder reducers entry state image committed fits =
    (whole_from (image (success_of folder)) (fixed_only (state (success_of folder)) (Some []) (image (success_of folder)) committed.success (fits (success_of folder))), record { parts = λ part below rest. fixed_only _ _ _ (committed.parts part below rest) (fits _); no_other = λ q below other apart. fixed_only (state q) None (image q) (committed.no_other q below other apart) (fits q) })

pub parts_are_apart : PartsAreApart
parts_are_apart folder one other path small too differ =
    (parts_apart folder one other path small too differ, task_parts_apart folder one other path small too differ)

pub names_by_example : NamesByExample
unfolding digits part_name task_name attempt_name input_name
names_by_example = (refl, refl, refl, refl, refl, refl, refl)
