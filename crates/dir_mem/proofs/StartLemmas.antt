-- A directory that is made from an image, file by file.
use Rattle.std.proofs.Common.{◌≡◌, ◌≢◌, ℕ, Bool, true, false, cond, ⊎_elim, List, [], Some, None, refl, sym, ◌∙◌, ap, subst}
use Rattle.std.specs.Global.{Vec}
use Rattle.std.specs.BTreeMap.{get, is_at}
use Rattle.std.proofs.lemmas.Bool.{cases_Bool}
use Rattle.peg_base.specs.Names.{Names, same_path}
use Rattle.peg_base.specs.Order.{path_cmp}
use Rattle.peg_base.proofs.Under.{same_path-true}
use Rattle.dir_disk.specs.State.{Content, Held, State, Image, absent}
use Rattle.dir_disk.specs.Moments.{files}
use Rattle.dir_mem.specs.declared.log.Step.{Step}
use Rattle.dir_mem.specs.Log.{state_of, told_by}
use Rattle.dir_mem.specs.Facts.{present}
use Rattle.dir_mem.specs.Images.{CanBegin, Files, with_settled, bytes_in, image_of, settled_as, settled_files}
use Rattle.dir_mem.proofs.CallLemmas.{same_state}
use Rattle.dir_mem.proofs.EffectLemmas.{if_true, if_false}
use Rattle.dir_mem.proofs.ImageLemmas.{set_to}

-- what a path will hold, where the image still has this for it
abbrev pub over : Content → Held → Held
over None held = held
over (Some bytes) held = settled_as (Some bytes)

over_absent : (content : Content) → over content absent ≡ settled_as content
over_absent None = refl
over_absent (Some bytes) = refl

pub start_none : (image : Image) (state : State) (path : Names) → state path ≡ absent → over (image path) (state path) ≡ settled_files image path
start_none image state path none = ap (over (image path)) none ∙ over_absent (image path)

taken_here : (old new : Files) (place path : Names) (updates : (q : Names) → get path_cmp new q ≡ cond (is_at (path_cmp place) q) None (get path_cmp old q)) → same_path place path ≡ true → image_of new path ≡ None
taken_here old new place path updates same =
    set_to old new place None None updates refl path ∙ ap (λ (b : Bool). cond b None (image_of old path)) same

taken_there : (old new : Files) (place path : Names) (updates : (q : Names) → get path_cmp new q ≡ cond (is_at (path_cmp place) q) None (get path_cmp old q)) → same_path place path ≡ false → image_of new path ≡ image_of old path
taken_there old new place path updates other =
    set_to old new place None None updates refl path ∙ ap (λ (b : Bool). cond b None (image_of old path)) other

-- a file was taken out of the image and put into the directory
pub start_more : (old new : Files) (place : Names) (bytes : Vec ℕ) (state next : State) (path : Names) (whole : Held) → get path_cmp old place ≡ Some bytes → ((q : Names) → get path_cmp new q ≡ cond (is_at (path_cmp place) q) None (get path_cmp old q)) → next ≡ with_settled place bytes.items state → over (image_of old path) (state path) ≡ whole → over (image_of new path) (next path) ≡ whole
start_more old new place bytes state next path whole has updates goes so_far =
    let at : next path ≡ with_settled place bytes.items state path = ap (λ (s : State). s path) goes in
    ⊎_elim (λ same. here same at) (λ other. there other at) (cases_Bool (same_path place path))
  where
    here : same_path place path ≡ true → next path ≡ with_settled place bytes.items state path → over (image_of new path) (next path) ≡ whole
    here same at =
        let held : image_of old path ≡ Some bytes.items = subst (λ (p : Names). image_of old p ≡ Some bytes.items) (same_path-true place path same) (ap bytes_in has) in
        ap (λ (c : Content). over c (next path)) (taken_here old new place path updates same) ∙ at ∙ if_true (same_path place path) (settled_as (Some bytes.items)) (state path) same ∙ sym (ap (λ (c : Content). over c (state path)) held) ∙ so_far

    there : same_path place path ≡ false → next path ≡ with_settled place bytes.items state path → over (image_of new path) (next path) ≡ whole
    there other at =
        ap (λ (c : Content). over c (next path)) (taken_there old new place path updates other) ∙ ap (over (image_of old path)) (at ∙ if_false (same_path place path) (settled_as (Some bytes.items)) (state path) other) ∙ so_far

some_none : (now : Content) (bytes : List ℕ) → now ≡ None → now ≡ Some bytes → ⊥
some_none now bytes gone is = cc

-- the files that are left were in the image from the start
pub start_rest : (old new : Files) (place path : Names) (bytes : List ℕ) → ((q : Names) → get path_cmp new q ≡ cond (is_at (path_cmp place) q) None (get path_cmp old q)) → image_of new path ≡ Some bytes → image_of old path ≡ Some bytes
start_rest old new place path bytes updates is =
    ⊎_elim (λ same. absurd (some_none (image_of new path) bytes (taken_here old new place path updates same) is)) (λ other. sym (taken_there old new place path updates other) ∙ is) (cases_Bool (same_path place path))

pub start_named : (image : Image) (path : Names) (bytes : List ℕ) → CanBegin image → image path ≡ Some bytes → path ≢ []
start_named image path bytes can is none =
    some_none (image path) bytes (ap image none ∙ can.no_top) is

-- all files are in the directory
pub start_done : (steps : List Step) (left image : Image) → ((path : Names) → left path ≡ None) → ((path : Names) → over (left path) (state_of steps path) ≡ settled_files image path) → files (told_by steps) ≡ settled_files image
start_done steps left image empty all =
    present steps ∙ same_state (state_of steps) (settled_files image) (λ path. sym (ap (λ (c : Content). over c (state_of steps path)) (empty path)) ∙ all path)
