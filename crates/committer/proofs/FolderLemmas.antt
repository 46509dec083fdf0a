-- What may be seen of a folder while it is made or taken away.
use Rattle.std.proofs.Common.{◌≡◌, ℕ, Bool, true, false, if◌then◌else◌, ◌⊎◌, inl, inr, ⊎_elim, List, [], ◌∷◌, Some, None, refl, sym, ◌∙◌, ap, subst}
use Rattle.std.specs.Prelude.{IsSome, is_some}
use Rattle.std.proofs.lemmas.Bool.{false≢true, cases_Bool}
use Rattle.peg_base.specs.Names.{Names, under, same_path}
use Rattle.peg_base.proofs.Under.{under-append, under-refl, under-trans, same_path-refl}
use Rattle.dir_disk.specs.State.{Content, Allows, Held, State, Image, FitsEither, IsSound, StandsOutside, absent, just, settled, appended, after_append, after_remove, after_settle}
use Rattle.dir_disk.specs.Calls.{Append, Remove, Settle, after_all}
use Rattle.dir_disk.specs.Moments.{Both}
use Rattle.dir_disk.proofs.Steps.{Steps, removed_now, settled_at, settled_none, appended_at, settled_only, after_others}
use Rattle.committer.specs.Paths.{success_of, success_name}
use Rattle.committer.specs.Folders.{IsNotWhole, IsUnmarked, IsEmpty, fixed, Less, More, Drops, Opens, Seals, IsSealed}

pub some_is_there : (content : Content) → IsSome content → content ≡ None → ⊥
some_is_there content some none = false≢true (ap is_some (sym none) ∙ some)

-- where neither state has the folder whole in an image, no image within the step has
pub not_whole : (folder : Names) (s t : State) → IsUnmarked folder s → IsUnmarked folder t → (image : Image) → FitsEither s t image → IsNotWhole folder image
not_whole folder s t before after image fits whole =
    some_is_there (image (success_of folder)) whole (⊎_elim (before (image (success_of folder))) (after (image (success_of folder))) (fits (success_of folder)))

pub below_folder : (folder q : Names) → under (success_of folder) q ≡ true → under folder q ≡ true
below_folder folder q below = under-trans folder (success_of folder) q (under-append folder (success_name ∷ [])) below

-- ---- files that may have gone

pub less_wider : (wide top : Names) (entry s : State) → under wide top ≡ true → Less top entry s → Less wide entry s
less_wider wide top entry s within less =
    record {
      reach = λ q content allowed. ⊎_elim (λ before. inl before) (λ gone. inr (under-trans wide top q within gone.0, gone.1)) (less.reach q content allowed);
      outside = λ q apart. ⊎_elim (λ below. absurd (false≢true (sym apart ∙ under-trans wide top q within below))) (λ out. less.outside q out) (cases_Bool (under top q));
    }

pub less_more : (top : Names) (entry mid s : State) → Less top entry mid → Less top mid s → Less top entry s
less_more top entry mid s first second =
    record {
      reach = λ q content allowed. ⊎_elim (λ before. first.reach q content before) (λ gone. inr gone) (second.reach q content allowed);
      outside = λ q apart. second.outside q apart ∙ first.outside q apart;
    }

pub less_start : (top : Names) (s : State) → Less top s s
less_start top s = record { reach = λ q content allowed. inl allowed; outside = λ q apart. refl }

pub less_unmarked : (folder top : Names) (entry s : State) → IsUnmarked folder entry → Less top entry s → IsUnmarked folder s
less_unmarked folder top entry s unmarked less content allowed =
    ⊎_elim (λ before. unmarked content before) (λ gone. gone.1) (less.reach (success_of folder) content allowed)

pub opens : (folder : Names) (entry s t : State) → IsUnmarked folder entry → Both (Less folder entry) s t → Opens folder entry s t
opens folder entry s t unmarked less =
    record {
      images = not_whole folder s t (less_unmarked folder folder entry s unmarked less.0) (less_unmarked folder folder entry t unmarked less.1);
      less = less;
    }

-- while `_SUCCESS` is taken away
pub drops_mark : (folder : Names) (entry s t : State) → Both (Less (success_of folder) entry) s t → Drops folder entry s t
drops_mark folder entry s t less =
    let within = under-append folder (success_name ∷ []) in
    record {
      images = λ image fits whole q below. ⊎_elim (less.0.reach q (image q)) (less.1.reach q (image q)) (fits q);
      less = (less_wider folder (success_of folder) entry s within less.0, less_wider folder (success_of folder) entry t within less.1);
    }

-- while all else is taken away
pub drops_rest : (folder : Names) (entry mid s t : State) → Less folder entry mid → IsUnmarked folder mid → Both (Less folder mid) s t → Drops folder entry s t
drops_rest folder entry mid s t first unmarked less =
    record {
      images = λ image fits whole q below. absurd (not_whole folder s t (less_unmarked folder folder mid s unmarked less.0) (less_unmarked folder folder mid t unmarked less.1) image fits whole);
      less = (less_more folder entry mid s first less.0, less_more folder entry mid t first less.1);
    }

-- ---- what stands after Ok

pub cleared : (top : Names) (s : State) (q : Names) → under top q ≡ true → after_all (Remove top ∷ Settle top ∷ []) s q ≡ absent
cleared top s q below = settled_none top (after_remove top s) q below (removed_now top s q below)

pub cleared_is_empty : (top : Names) (s t : State) → t ≡ after_all (Remove top ∷ Settle top ∷ []) s → IsEmpty top t
cleared_is_empty top s t is q below = ap (λ (u : State). u q) is ∙ cleared top s q below

pub none_only : (held : Held) (content : Content) → held ≡ absent → Allows held.may content → content ≡ None
none_only held content is allowed =
    settled_only absent content (subst (λ (h : Held). Allows h.may content) is allowed)

pub empty_is_unmarked : (folder top : Names) (s : State) → under top (success_of folder) ≡ true → IsEmpty top s → IsUnmarked folder s
empty_is_unmarked folder top s below empty content allowed =
    none_only (s (success_of folder)) content (empty (success_of folder) below) allowed

-- ---- a file that may have come to stand

pub more_start : (mark : Names) (s : State) → More mark s s
more_start mark s = record { reach = λ q content allowed. inl allowed; outside = λ q apart. refl }

pub more_append : (mark : Names) (bytes : List ℕ) (entry s t : State) → More mark entry s → Steps (Append mark bytes) s t → More mark entry t
more_append mark bytes entry s t more steps =
    record {
      reach = λ q content allowed. ⊎_elim (more.reach q content) (λ gain. inr gain) (steps.reach q content allowed);
      outside = λ q apart. steps.others q apart ∙ more.outside q apart;
    }

pub more_settle : (mark : Names) (entry s t : State) → More mark entry s → Steps (Settle mark) s t → More mark entry t
more_settle mark entry s t more steps =
    record {
      reach = λ q content allowed. ⊎_elim (more.reach q content) (λ gain. absurd gain) (steps.reach q content allowed);
      outside = λ q apart. steps.others q apart ∙ more.outside q apart;
    }

-- ---- a folder that is made whole

outside_mark : (folder q : Names) → under folder q ≡ false → under (success_of folder) q ≡ false
outside_mark folder q apart =
    ⊎_elim (λ below. absurd (false≢true (sym apart ∙ below_folder folder q below))) (λ out. out) (cases_Bool (under (success_of folder) q))

-- while the files are settled
pub seals_files : (folder : Names) (entry t : State) → IsUnmarked folder entry → Steps (Settle folder) entry t → Seals folder entry entry t
seals_files folder entry t unmarked steps =
    let after : IsUnmarked folder t = λ content allowed. ⊎_elim (unmarked content) (λ gain. absurd gain) (steps.reach (success_of folder) content allowed) in
    record {
      images = λ image fits whole. absurd (not_whole folder entry t unmarked after image fits whole);
      outside = (λ q apart. refl, λ q apart. steps.others q apart);
    }

-- while `_SUCCESS` is made over settled files
pub seals_mark : (folder : Names) (entry mid s t : State) → mid ≡ after_settle folder entry → Both (More (success_of folder) mid) s t → Seals folder entry s t
seals_mark folder entry mid s t settled_files more =
    record {
      images = λ image fits whole q below other. ⊎_elim (only s more.0 q (image q) below other) (only t more.1 q (image q) below other) (fits q);
      outside = (stands s more.0, stands t more.1);
    }
  where
    at_mid : (q : Names) → under folder q ≡ true → mid q ≡ settled (entry q)
    at_mid q below = ap (λ (u : State). u q) settled_files ∙ settled_at folder entry q below

    only : (u : State) → More (success_of folder) mid u → (q : Names) (content : Content) → under folder q ≡ true → same_path (success_of folder) q ≡ false → Allows (u q).may content → content ≡ (entry q).now
    only u made q content below other allowed =
        ⊎_elim (λ before. settled_only (entry q) content (subst (λ (h : Held). Allows h.may content) (at_mid q below) before)) (λ new. absurd (false≢true (sym other ∙ new.0))) (made.reach q content allowed)

    stands : (u : State) → More (success_of folder) mid u → StandsOutside folder entry u
    stands u made q apart =
        made.outside q (outside_mark folder q apart) ∙ ap (λ (v : State). v q) settled_files ∙ after_others (Settle folder) entry q apart

not_chosen : (test : Bool) (h k : Held) → test ≡ false → (if test then h else k) ≡ k
not_chosen true h k fails = absurd (false≢true (sym fails))
not_chosen false h k fails = refl

pub not_appended : (target : Names) (bytes : List ℕ) (s : State) (q : Names) → same_path target q ≡ false → after_append target bytes s q ≡ s q
not_appended target bytes s q other =
    not_chosen (same_path target q) (appended bytes (s q)) (s q) other

-- after its last settle
pub sealed : (folder : Names) (entry mid t : State) → IsSound entry → IsUnmarked folder entry → mid ≡ after_settle folder entry → t ≡ after_all (Append (success_of folder) [] ∷ Settle (success_of folder) ∷ []) mid → IsSealed folder entry t
sealed folder entry mid t sound unmarked settled_files is =
    record { success = ap (λ (u : State). u (success_of folder)) is ∙ marked; files = λ q below other. ap (λ (u : State). u q) is ∙ kept q below other (cases_Bool (under (success_of folder) q)) }
  where
    at_mid : (q : Names) → under folder q ≡ true → mid q ≡ settled (entry q)
    at_mid q below = ap (λ (u : State). u q) settled_files ∙ settled_at folder entry q below

    none : (entry (success_of folder)).now ≡ None
    none = unmarked (entry (success_of folder)).now (sound (success_of folder))

    within : under folder (success_of folder) ≡ true
    within = under-append folder (success_name ∷ [])

    marked : after_settle (success_of folder) (after_append (success_of folder) [] mid) (success_of folder) ≡ fixed (Some [])
    marked =
        settled_at (success_of folder) (after_append (success_of folder) [] mid) (success_of folder) (under-refl (success_of folder)) ∙ ap settled (appended_at (success_of folder) [] mid (success_of folder) (same_path-refl (success_of folder)) ∙ ap (appended []) (at_mid (success_of folder) within)) ∙ ap (λ (now : Content). settled (appended [] (let h : Held = record { now = now; may = just now ∷ [] } in h))) none

    kept : (q : Names) → under folder q ≡ true → same_path (success_of folder) q ≡ false → (under (success_of folder) q ≡ true) ⊎ (under (success_of folder) q ≡ false) → after_settle (success_of folder) (after_append (success_of folder) [] mid) q ≡ fixed (entry q).now
    kept q below other (inl deeper) =
        settled_at (success_of folder) (after_append (success_of folder) [] mid) q deeper ∙ ap settled (not_appended (success_of folder) [] mid q other ∙ at_mid q below)
    kept q below other (inr apart) =
        after_others (Settle (success_of folder)) (after_append (success_of folder) [] mid) q apart ∙ not_appended (success_of folder) [] mid q other ∙ at_mid q below
