-- A job's folder while it is committed.
use Rattle.std.proofs.Common.{◌≡◌, ℕ, ◌<◌, true, false, ⊎_elim, [], ◌∷◌, ◌++◌, None, Result, sym, ◌∙◌, ap, subst}
use Rattle.std.proofs.lemmas.Bool.{false≢true, cases_Bool}
use Rattle.peg_base.specs.Names.{Names, under, same_path}
use Rattle.peg_base.proofs.Under.{under-append, under-refl, under-trans, same_path-true}
use Rattle.dir_disk.specs.declared.dir.DirFault.{DirFault}
use Rattle.dir_disk.specs.State.{Held, State, IsSound, StandsOutside, absent, after_remove}
use Rattle.dir_disk.specs.Calls.{Remove, CanAppend, Does}
use Rattle.dir_disk.specs.Moments.{Told, Through, Both, files}
use Rattle.dir_disk.proofs.Steps.{Steps, after_others, removed_now}
use Rattle.dir_disk.proofs.Through.{goes_on, then_goes, weaker, kept}
use Rattle.committer.specs.Paths.{success_name, temporary_name, part_name, success_of, part_of, temporary_of, task_part_of}
use Rattle.committer.specs.Folders.{IsUnmarked, fixed, Seals, IsSealed}
use Rattle.committer.specs.Commits.{StandsBeside, CanCommit, IsUnsealed, IsMovedUpTo, HasParts, Commits, IsCommitted}
use Rattle.committer.proofs.FolderLemmas.{not_whole, none_only}
use Rattle.committer.proofs.SealingLemmas.{above_child, child_is_named}
use Rattle.committer.proofs.MoveLemmas.{not_true, part_outside, success_outside, success_no_part, task_below, child_not_above, none_above, unsealed_start, unsealed_part}

-- ---- paths of the folder

part_within : (folder : Names) (part : ℕ) (rest : Names) → under folder (part_of folder part ++ rest) ≡ true
part_within folder part rest =
    under-trans folder (part_of folder part) (part_of folder part ++ rest) (under-append folder (part_name part ∷ [])) (under-append (part_of folder part) rest)

part_no_success : (folder : Names) (part : ℕ) (rest : Names) → same_path (success_of folder) (part_of folder part ++ rest) ≡ false
part_no_success folder part rest =
    not_true (same_path (success_of folder) (part_of folder part ++ rest)) (λ same. false≢true (sym (success_no_part folder part (success_of folder) (under-refl (success_of folder))) ∙ subst (λ (r : Names). under (part_of folder part) r ≡ true) (sym (same_path-true (success_of folder) (part_of folder part ++ rest) same)) (under-append (part_of folder part) rest)))

within_temporary : (folder q : Names) → under folder q ≡ false → under (temporary_of folder) q ≡ false
within_temporary folder q apart =
    not_true (under (temporary_of folder) q) (λ below. false≢true (sym apart ∙ under-trans folder (temporary_of folder) q (under-append folder (temporary_name ∷ [])) below))

-- ---- until the folder is sealed

absent_success : (folder : Names) (reducers : ℕ) (entry s : State) → CanCommit folder reducers entry → IsUnsealed folder entry s → s (success_of folder) ≡ absent
absent_success folder reducers entry s can unsealed =
    unsealed.success ∙ can.bare (success_of folder) (under-append folder (success_name ∷ [])) (success_outside folder (success_of folder) (under-refl (success_of folder)))

unsealed_unmarked : (folder : Names) (reducers : ℕ) (entry s : State) → CanCommit folder reducers entry → IsUnsealed folder entry s → IsUnmarked folder s
unsealed_unmarked folder reducers entry s can unsealed content allowed =
    none_only (s (success_of folder)) content (absent_success folder reducers entry s can unsealed) allowed

unsealed_commits : (folder : Names) (reducers : ℕ) (entry s t : State) → CanCommit folder reducers entry → Both (IsUnsealed folder entry) s t → Commits folder reducers entry s t
unsealed_commits folder reducers entry s t can unsealed =
    record {
      images = λ image fits whole. absurd (not_whole folder s t (unsealed_unmarked folder reducers entry s can unsealed.0) (unsealed_unmarked folder reducers entry t can unsealed.1) image fits whole);
      outside = (unsealed.0.outside, unsealed.1.outside);
    }

removing_unsealed : (folder : Names) (entry s t : State) → IsUnsealed folder entry s → Steps (Remove (temporary_of folder)) s t → IsUnsealed folder entry t
removing_unsealed folder entry s t unsealed steps =
    record {
      success = steps.others (success_of folder) (success_outside folder (success_of folder) (under-refl (success_of folder))) ∙ unsealed.success;
      outside = λ q apart. steps.others q (within_temporary folder q apart) ∙ unsealed.outside q apart;
    }

pub moves_on : (folder : Names) (part : ℕ) (old mid new : Told) → Through (Both (IsUnsealed folder (files old))) old mid → Through (Both (StandsBeside (task_part_of folder part) (part_of folder part) (files mid))) mid new → Through (Both (IsUnsealed folder (files old))) old new
moves_on folder part old mid new so_far move =
    let unsealed : IsUnsealed folder (files old) (files mid) = kept (IsUnsealed folder (files old)) old mid so_far (unsealed_start folder (files old)) in
    then_goes (Both (IsUnsealed folder (files old))) old mid new so_far (weaker (Both (StandsBeside (task_part_of folder part) (part_of folder part) (files mid))) (Both (IsUnsealed folder (files old))) mid new (λ s t stands. (unsealed_part folder part (files old) (files mid) s unsealed stands.0, unsealed_part folder part (files old) (files mid) t unsealed stands.1)) move)

pub moving : (folder : Names) (reducers : ℕ) (old mid : Told) → CanCommit folder reducers (files old) → Through (Both (IsUnsealed folder (files old))) old mid → Through (Commits folder reducers (files old)) old mid
moving folder reducers old mid can =
    weaker (Both (IsUnsealed folder (files old))) (Commits folder reducers (files old)) old mid (λ s t unsealed. unsealed_commits folder reducers (files old) s t can unsealed)

pub removing : {T : Type 0} (folder : Names) (reducers : ℕ) (old mid new : Told) (result : Result T DirFault) → CanCommit folder reducers (files old) → Through (Both (IsUnsealed folder (files old))) old mid → IsSound (files mid) → Does (Remove (temporary_of folder)) mid new result → Through (Commits folder reducers (files old)) old new
removing folder reducers old mid new result can so_far sound does =
    let unsealed : IsUnsealed folder (files old) (files mid) = kept (IsUnsealed folder (files old)) old mid so_far (unsealed_start folder (files old)) in
    goes_on (Commits folder reducers (files old)) old mid new (Remove (temporary_of folder)) result (moving folder reducers old mid can so_far) does sound (λ t steps. unsealed_commits folder reducers (files old) (files mid) t can (unsealed, removing_unsealed folder (files old) (files mid) t unsealed steps))

-- ---- when all is in its place

pub record IsGathered (folder : Names) (reducers : ℕ) (entry state : State) : Type 0 where
  pub parts : (part : ℕ) → part < reducers → (rest : Names) → (state (part_of folder part ++ rest)).now ≡ (entry (task_part_of folder part ++ rest)).now
  pub no_other : (path : Names) → under folder path ≡ true → ((part : ℕ) → part < reducers → under (part_of folder part) path ≡ false) → (state path).now ≡ None
  pub success : state (success_of folder) ≡ absent
  pub outside : StandsOutside folder entry state

gathered_state : (folder : Names) (reducers : ℕ) (entry mid s : State) → CanCommit folder reducers entry → IsUnsealed folder entry mid → IsMovedUpTo folder reducers entry mid → s ≡ after_remove (temporary_of folder) mid → IsGathered folder reducers entry s
gathered_state folder reducers entry mid s can unsealed moved is =
    record {
      parts = λ part below rest. ap (λ (h : Held). h.now) (left (part_of folder part ++ rest) (part_outside folder part (part_of folder part ++ rest) (under-append (part_of folder part) rest))) ∙ moved.parts part below rest;
      no_other = λ q below apart. ⊎_elim (λ inside. ap (λ (u : State). (u q).now) is ∙ removed_now (temporary_of folder) mid q inside) (λ out. ap (λ (h : Held). h.now) (left q out ∙ moved.others q (λ part before. (not_true (under (task_part_of folder part) q) (λ deeper. false≢true (sym out ∙ task_below folder part q deeper)), apart part before)) ∙ can.bare q below out)) (cases_Bool (under (temporary_of folder) q));
      success = left (success_of folder) (success_outside folder (success_of folder) (under-refl (success_of folder))) ∙ absent_success folder reducers entry mid can unsealed;
      outside = λ q apart. left q (within_temporary folder q apart) ∙ unsealed.outside q apart;
    }
  where
    left : (q : Names) → under (temporary_of folder) q ≡ false → s q ≡ mid q
    left q out = ap (λ (u : State). u q) is ∙ after_others (Remove (temporary_of folder)) mid q out

pub gathered : (folder : Names) (reducers : ℕ) (old mid new : Told) → CanCommit folder reducers (files old) → Through (Both (IsUnsealed folder (files old))) old mid → IsMovedUpTo folder reducers (files old) (files mid) → files new ≡ after_remove (temporary_of folder) (files mid) → IsGathered folder reducers (files old) (files new)
gathered folder reducers old mid new can so_far moved is =
    gathered_state folder reducers (files old) (files mid) (files new) can (kept (IsUnsealed folder (files old)) old mid so_far (unsealed_start folder (files old))) moved is

pub gathered_unmarked : (folder : Names) (reducers : ℕ) (entry s : State) → IsGathered folder reducers entry s → IsUnmarked folder s
gathered_unmarked folder reducers entry s gathers content allowed =
    none_only (s (success_of folder)) content gathers.success allowed

pub gathered_can_mark : (folder : Names) (reducers : ℕ) (entry s : State) → CanCommit folder reducers entry → IsGathered folder reducers entry s → CanAppend s (success_of folder)
gathered_can_mark folder reducers entry s can gathers =
    record {
      named = child_is_named folder success_name;
      is_open = λ q above other. open_at q (above_child q folder success_name above other);
      nothing_under = λ q below other. gathers.no_other q (under-trans folder (success_of folder) q (under-append folder (success_name ∷ [])) below) (λ part before. success_no_part folder part q below);
    }
  where
    open_at : (q : Names) → under q folder ≡ true → (s q).now ≡ None
    open_at q over =
        ⊎_elim (λ below. gathers.no_other q below (λ part before. child_not_above folder (part_name part) q over)) (λ out. ap (λ (h : Held). h.now) (gathers.outside q out) ∙ none_above folder reducers entry q can over) (cases_Bool (under folder q))

sealing_commits : (folder : Names) (reducers : ℕ) (entry mid s t : State) → IsGathered folder reducers entry mid → Seals folder mid s t → Commits folder reducers entry s t
sealing_commits folder reducers entry mid s t gathers seals =
    record {
      images = λ image fits whole. let parts : HasParts folder reducers entry image = record { parts = λ part below rest. seals.images image fits whole (part_of folder part ++ rest) (part_within folder part rest) (part_no_success folder part rest) ∙ gathers.parts part below rest; no_other = λ q below other apart. seals.images image fits whole q below other ∙ gathers.no_other q below apart } in parts;
      outside = (λ q apart. seals.outside.0 q apart ∙ gathers.outside q apart, λ q apart. seals.outside.1 q apart ∙ gathers.outside q apart);
    }

pub sealing : (folder : Names) (reducers : ℕ) (old mid new : Told) → Through (Commits folder reducers (files old)) old mid → IsGathered folder reducers (files old) (files mid) → Through (Seals folder (files mid)) mid new → Through (Commits folder reducers (files old)) old new
sealing folder reducers old mid new so_far gathers seals =
    then_goes (Commits folder reducers (files old)) old mid new so_far (weaker (Seals folder (files mid)) (Commits folder reducers (files old)) mid new (λ s t step. sealing_commits folder reducers (files old) (files mid) s t gathers step) seals)

pub committed : (folder : Names) (reducers : ℕ) (entry mid t : State) → IsGathered folder reducers entry mid → IsSealed folder mid t → IsCommitted folder reducers entry t
committed folder reducers entry mid t gathers sealed =
    record {
      success = sealed.success;
      parts = λ part below rest. sealed.files (part_of folder part ++ rest) (part_within folder part rest) (part_no_success folder part rest) ∙ ap fixed (gathers.parts part below rest);
      no_other = λ q below other apart. sealed.files q below other ∙ ap fixed (gathers.no_other q below apart);
    }
