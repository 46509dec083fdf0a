-- A call that changes one folder, and has its parts wherever it is whole, leaves each image as it is to be kept.
use Rattle.std.proofs.Common.{◌≡◌, ◌≢◌, ℕ, ◌<◌, Bool, true, false, if◌then◌else◌, ◌⊎◌, inl, inr, ⊎_elim, List, [], ◌∷◌, refl, sym, ◌∙◌, ap, subst, arith}
use Rattle.std.specs.Prelude.{IsSome}
use Rattle.std.proofs.lemmas.Bool.{false≢true}
use Rattle.peg_base.specs.Names.{Names, under}
use Rattle.peg_base.proofs.Under.{under-append}
use Rattle.dir_disk.specs.State.{Allows, Held, State, Image, Fits, FitsEither, IsSound, StandsOutside}
use Rattle.dir_disk.specs.Moments.{Both, EachImage}
use Rattle.committer.specs.Paths.{success_name, success_of, part_name, part_of}
use Rattle.committer.specs.Folders.{IsUnmarked}
use Rattle.committer.proofs.FolderLemmas.{some_is_there}
use Rattle.job.specs.Whole.{HasOutput, HasOutputIfWhole, Makes}
use Rattle.mining.specs.declared.place.Place.{Place}
use Rattle.mining.specs.declared.place.Place.TheVariants.{Conf, Edges, Nodes, Placed, Matrix, Blocks, Messages, Vector, Joined, Results}
use Rattle.mining.specs.Places.{folder_of, IsInTable, is_made, is_messages, is_sealed, rank_of}
use Rattle.mining.specs.Flow.{Mining, flow, last_of}
use Rattle.mining.specs.Kept.{AllKept, Has, Kept, MayBeWhole, Precedes}
use Rattle.mining.specs.Between.{IsDue}
use Rattle.mining.proofs.Names.{AreApart, same_or_apart}

-- ---- an image as it was before a call that changes one folder alone

abbrev pub patched : Names → State → Image → Image
patched folder entry image path = if under folder path then (entry path).now else image path

pub patched_inside : (folder : Names) (entry : State) (image : Image) (path : Names) → under folder path ≡ true → patched folder entry image path ≡ (entry path).now
patched_inside folder entry image path inside =
    ap (λ (test : Bool). if test then (entry path).now else image path) inside

pub patched_outside : (folder : Names) (entry : State) (image : Image) (path : Names) → under folder path ≡ false → patched folder entry image path ≡ image path
patched_outside folder entry image path outside =
    ap (λ (test : Bool). if test then (entry path).now else image path) outside

pub patched_fits : (folder : Names) (entry s t : State) (image : Image) → IsSound entry → Both (StandsOutside folder entry) s t → FitsEither s t image → Fits entry (patched folder entry image)
patched_fits folder entry s t image sound stands fits path =
    at (under folder path) refl
  where
    at : (inside : Bool) → under folder path ≡ inside → Allows (entry path).may (if inside then (entry path).now else image path)
    at true inside = sound path
    at false outside =
        ⊎_elim (λ first. subst (λ (h : Held). Allows h.may (image path)) (stands.0 path outside) first) (λ second. subst (λ (h : Held). Allows h.may (image path)) (stands.1 path outside) second) (fits path)

pub output_moves : (folder : Names) (parts : List (List ℕ)) (one other : Image) → ((path : Names) → under folder path ≡ true → one path ≡ other path) → HasOutput folder parts one → HasOutput folder parts other
output_moves folder parts one other same has =
    record {
      each = λ part below. sym (same (part_of folder part) (under-append folder (part_name part ∷ []))) ∙ has.each part below;
      no_other = λ path inside not_success not_parts. sym (same path inside) ∙ has.no_other path inside not_success not_parts;
    }

-- ---- the folder that a call makes or drops

-- what the first two folders need of each other, and that no whole folder needs this one
pub record IsLoose (mining : Mining) (place : Place) (entry : State) : Type 0 where
  -- while `conf` changes, `edges` is whole in no image
  pub no_edges : place ≡ Conf → IsUnmarked (folder_of Edges) entry
  -- `edges` is made where `conf` has its text in each image
  pub has_conf : place ≡ Edges → (image : Image) → Fits entry image → Has Conf image × HasOutput (folder_of Conf) (flow mining Conf) image
  -- messages are dropped; another folder was whole in no image, or is `conf`
  pub loose : (is_messages place ≡ true) ⊎ (IsUnmarked (folder_of place) entry ⊎ (place ≡ Conf))

-- a folder that a job makes
pub loose_job : (mining : Mining) (place : Place) (entry : State) → is_sealed place ≡ false → (is_messages place ≡ true) ⊎ IsUnmarked (folder_of place) entry → IsLoose mining place entry
loose_job mining place entry job loose =
    record {
      no_edges = λ is. absurd (false≢true (sym job ∙ ap is_sealed is));
      has_conf = λ is. absurd (false≢true (sym job ∙ ap is_sealed is));
      loose = ⊎_elim (λ messages. inl messages) (λ unmarked. inr (inl unmarked)) loose;
    }

conf_first : (other earlier : Place) → rank_of earlier < rank_of other → rank_of Conf < rank_of other
unfolding rank_of
conf_first other earlier less = omega (arith, less)

conf_not_edges : rank_of Conf ≡ rank_of Edges → ⊥
unfolding rank_of
conf_not_edges ranks = omega (arith, ranks)

later_than_conf : (other : Place) → rank_of Conf < rank_of other → (other ≡ Edges) ⊎ (rank_of Edges < rank_of other)
unfolding rank_of
later_than_conf Conf after = absurd (omega (arith, after))
later_than_conf Edges after = inl refl
later_than_conf Nodes after = inr (omega arith)
later_than_conf Placed after = inr (omega arith)
later_than_conf Matrix after = inr (omega arith)
later_than_conf Blocks after = inr (omega arith)
later_than_conf (Messages k) after = inr (omega arith)
later_than_conf (Vector k) after = inr (omega arith)
later_than_conf Joined after = inr (omega arith)
later_than_conf Results after = inr (omega arith)

module _ (mining : Mining) (place : Place) (entry s t : State) (sound : IsSound entry) (kept : AllKept mining entry) (due : IsDue mining place entry) (loose : IsLoose mining place entry) (makes : Makes (folder_of place) (flow mining place) entry s t) where
  abbrev was : Image → Image
  was image = patched (folder_of place) entry image

  module _ (image : Image) (fits : FitsEither s t image) where
    before_fits : Fits entry (was image)
    before_fits = patched_fits (folder_of place) entry s t image sound makes.outside fits

    before : Kept mining (was image)
    before = kept (was image) before_fits

    same_there : (other : Place) → AreApart other place → (path : Names) → under (folder_of other) path ≡ true → was image path ≡ image path
    same_there other apart path inside = patched_outside (folder_of place) entry image path (apart path inside)

    mark_in : (other : Place) → under (folder_of other) (success_of (folder_of other)) ≡ true
    mark_in other = under-append (folder_of other) (success_name ∷ [])

    then_had : (other : Place) → AreApart other place → Has other image → Has other (was image)
    then_had other apart has = subst IsSome (sym (same_there other apart (success_of (folder_of other)) (mark_in other))) has

    now_has : (other : Place) → AreApart other place → Has other (was image) → Has other image
    now_has other apart had = subst IsSome (same_there other apart (success_of (folder_of other)) (mark_in other)) had

    output_now : (other : Place) → AreApart other place → HasOutput (folder_of other) (flow mining other) (was image) → HasOutput (folder_of other) (flow mining other) image
    output_now other apart had = output_moves (folder_of other) (flow mining other) (was image) image (same_there other apart) had

    no_edges_whole : IsUnmarked (folder_of Edges) entry → Has Edges (was image) → ⊥
    no_edges_whole unmarked had =
        let mark = success_of (folder_of Edges) in some_is_there (was image mark) had (unmarked (was image mark) (before_fits mark))

    -- where `edges` is whole, `conf` has its text
    conf_now : Has Edges image → Has Conf image × HasOutput (folder_of Conf) (flow mining Conf) image
    conf_now edges =
        ⊎_elim (λ is. let differ : AreApart Conf place = ⊎_elim (λ same. absurd (conf_not_edges (ap rank_of (same ∙ sym is)))) (λ apart. apart) (same_or_apart Conf place tt due.is_there) in let had = loose.has_conf (sym is) (was image) before_fits in (now_has Conf differ had.0, output_now Conf differ had.1)) (λ apart. let had : Has Edges (was image) = then_had Edges apart edges in ⊎_elim (λ is. absurd (no_edges_whole (loose.no_edges (sym is)) had)) (λ beside. let both = before.conf had in (now_has Conf beside both.0, output_now Conf beside both.1)) (same_or_apart Conf place tt due.is_there)) (same_or_apart Edges place tt due.is_there)

    contents_now : (other : Place) → IsInTable other → other ≢ Conf → HasOutputIfWhole (folder_of other) (flow mining other) image
    contents_now other is_there not_conf whole =
        ⊎_elim (λ same. subst (λ (p : Place). HasOutputIfWhole (folder_of p) (flow mining p) image) (sym same) (makes.images image fits) whole) (λ apart. output_now other apart (before.contents other is_there not_conf (then_had other apart whole))) (same_or_apart other place is_there due.is_there)

    -- what the folder needs is another folder, and whole
    needed_now : (earlier : Place) → Precedes mining earlier place → Has earlier image
    needed_now earlier precedes =
        ⊎_elim (λ same. absurd (let ranks = ap rank_of same in let less = precedes.before in omega (arith, ranks, less))) (λ apart. now_has earlier apart (due.before earlier precedes (was image (success_of (folder_of earlier))) (before_fits (success_of (folder_of earlier))))) (same_or_apart earlier place precedes.is_there due.is_there)

    -- the folder itself is needed by none that is whole
    not_needed : (other : Place) → IsInTable other → is_made mining.conf.form other ≡ true → Precedes mining place other → Has other (was image) → ⊥
    not_needed other is_there form precedes had =
        ⊎_elim (λ messages. false≢true (sym precedes.stays ∙ messages)) (λ rest. ⊎_elim (λ unmarked. let mark = success_of (folder_of place) in some_is_there (was image mark) (before.order other place is_there form precedes had) (unmarked (was image mark) (before_fits mark))) (λ conf. no_edges_whole (loose.no_edges conf) (⊎_elim (λ edges. subst (λ (p : Place). Has p (was image)) edges had) (λ later. before.order other Edges is_there form (record { before = later; is_there = tt; made = refl; stays = refl; up_to = tt }) had) (later_than_conf other (subst (λ (p : Place). rank_of p < rank_of other) conf precedes.before)))) rest) loose.loose

    order_now : (other earlier : Place) → IsInTable other → is_made mining.conf.form other ≡ true → Precedes mining earlier other → Has other image → Has earlier image
    order_now other earlier is_there form precedes whole =
        ⊎_elim (λ same. needed_now earlier (subst (λ (p : Place). Precedes mining earlier p) same precedes)) (λ apart. let had : Has earlier (was image) = before.order other earlier is_there form precedes (then_had other apart whole) in ⊎_elim (λ same. absurd (not_needed other is_there form (subst (λ (p : Place). Precedes mining p other) same precedes) (then_had other apart whole))) (λ beside. now_has earlier beside had) (same_or_apart earlier place precedes.is_there due.is_there)) (same_or_apart other place is_there due.is_there)

    bounds_now : (other : Place) → IsInTable other → Has other image → MayBeWhole (last_of mining) other
    bounds_now other is_there whole =
        ⊎_elim (λ same. subst (λ (p : Place). MayBeWhole (last_of mining) p) (sym same) due.may) (λ apart. before.bounds other is_there (then_had other apart whole)) (same_or_apart other place is_there due.is_there)

    kept_now : Kept mining image
    kept_now =
        record {
          conf = conf_now;
          contents = contents_now;
          order = order_now;
          bounds = bounds_now;
        }

  pub makes_keep : EachImage (Kept mining) s t
  makes_keep image fits = kept_now image fits

-- ---- the settings are written anew while no edges are there

module _ (mining : Mining) (entry s t : State) (sound : IsSound entry) (kept : AllKept mining entry) (unmarked : IsUnmarked (folder_of Edges) entry) (stands : Both (StandsOutside (folder_of Conf) entry) s t) where
  module _ (image : Image) (fits : FitsEither s t image) where
    abbrev earlier_image : Image
    earlier_image = patched (folder_of Conf) entry image

    earlier_fits : Fits entry earlier_image
    earlier_fits = patched_fits (folder_of Conf) entry s t image sound stands fits

    had : Kept mining earlier_image
    had = kept earlier_image earlier_fits

    same_at : (other : Place) → AreApart other Conf → (path : Names) → under (folder_of other) path ≡ true → earlier_image path ≡ image path
    same_at other apart path inside = patched_outside (folder_of Conf) entry image path (apart path inside)

    had_it : (other : Place) → AreApart other Conf → Has other image → Has other earlier_image
    had_it other apart has = subst IsSome (sym (same_at other apart (success_of (folder_of other)) (under-append (folder_of other) (success_name ∷ [])))) has

    edges_never : Has Edges earlier_image → ⊥
    edges_never has =
        let mark = success_of (folder_of Edges) in some_is_there (earlier_image mark) has (unmarked (earlier_image mark) (earlier_fits mark))

    edges_apart : AreApart Edges Conf
    edges_apart =
        ⊎_elim (λ same. absurd (conf_not_edges (ap rank_of (sym same)))) (λ apart. apart) (same_or_apart Edges Conf tt tt)

    -- nothing that comes after `conf` is whole
    none_after : (other : Place) → IsInTable other → is_made mining.conf.form other ≡ true → rank_of Conf < rank_of other → Has other image → ⊥
    none_after other is_there made after whole =
        ⊎_elim (λ same. absurd (let ranks = ap rank_of same in omega (arith, ranks, after))) (λ apart. let before : Has other earlier_image = had_it other apart whole in edges_never (⊎_elim (λ edges. subst (λ (p : Place). Has p earlier_image) edges before) (λ later. had.order other Edges is_there made (record { before = later; is_there = tt; made = refl; stays = refl; up_to = tt }) before) (later_than_conf other after))) (same_or_apart other Conf is_there tt)

    kept_while : Kept mining image
    kept_while =
        record {
          conf = λ edges. absurd (edges_never (had_it Edges edges_apart edges));
          contents = λ other is_there not_conf whole. ⊎_elim (λ same. absurd (not_conf same)) (λ apart. output_moves (folder_of other) (flow mining other) earlier_image image (same_at other apart) (had.contents other is_there not_conf (had_it other apart whole))) (same_or_apart other Conf is_there tt);
          order = λ other earlier is_there made precedes whole. absurd (none_after other is_there made (after_it other earlier precedes) whole);
          bounds = λ other is_there whole. ⊎_elim (λ same. subst (λ (p : Place). MayBeWhole (last_of mining) p) (sym same) tt) (λ apart. had.bounds other is_there (had_it other apart whole)) (same_or_apart other Conf is_there tt);
        }
      where
        after_it : (other earlier : Place) → Precedes mining earlier other → rank_of Conf < rank_of other
        after_it other earlier precedes = conf_first other earlier precedes.before

  pub conf_keeps : EachImage (Kept mining) s t
  conf_keeps image fits = kept_while image fits
