-- How images are made file by file, and that each fits the state that it is made of.
use Rattle.std.proofs.Common.{◌≡◌, ℕ, zero, suc, ◌+◌, ◌^◌, ◌<◌, ◌≤◌, Bool, true, false, cond, if◌then◌else◌, ◌&&◌, ◌||◌, ⊎_elim, List, [], ◌∷◌, ◌++◌, length, get_or, take, Option, Some, None, Result, Ok, Err, All, refl, sym, ◌∙◌, ap, subst, append_assoc, arith}
use Rattle.std.specs.Prelude.{IfOk}
use Rattle.std.specs.Global.{Vec}
use Rattle.std.specs.List.{list_all}
use Rattle.std.specs.BTreeMap.{btree_map_len, get, is_at}
use Rattle.std.proofs.lemmas.Bool.{false≢true, cases_Bool, and_parts, and_from, leb-true}
use Rattle.std.proofs.lemmas.List.{take_more, take_all}
use Rattle.std.proofs.lemmas.List.Elements.{All-nil, All-cons, All-weaker}
use Rattle.peg_base.specs.Names.{Names, same_path}
use Rattle.peg_base.specs.Order.{path_cmp}
use Rattle.peg_base.proofs.Under.{bytes_eq-refl, same_path-true}
use Rattle.peg_base.proofs.PathOrder.{same_path-path_cmp}
use Rattle.dir_disk.specs.State.{Member, Gone, Exactly, Anything, Content, Held, State, Image, Allows, Fits, absent}
use Rattle.dir_mem.specs.declared.traces.Trace.{Trace}
use Rattle.dir_mem.specs.declared.images.View.{View}
use Rattle.dir_mem.specs.declared.images.View.TheVariants.{Now, Oldest, Newest}
use Rattle.peg_text.specs.declared.memory.NoMemory.{NoMemory}
use Rattle.dir_mem.specs.declared.log.Step.{Step}
use Rattle.dir_mem.specs.Log.{state_of, told_by}
use Rattle.dir_mem.specs.Sound.{IsSoundState, HasNoTop, ListsAll, WasFine, admits, allows, is_listed, is_short_content, is_short_member, is_sound}
use Rattle.dir_mem.specs.Traces.{garbage, member_of, members_of, newest, shown}
use Rattle.dir_mem.specs.Facts.{absent_from, allowed_now, allows_it, short_now}
use Rattle.dir_mem.specs.Images.{CanBegin, Files, HasViewsFirst, IsFair, IsRightBefore, Passes, Shows, bytes_in, image_of, is_fair, oldest, seen, with_file}
use Rattle.dir_mem.proofs.EffectLemmas.{or_first, or_second, unlisted_absent}
use Rattle.dir_mem.proofs.PastLemmas.{past_no_top}
use Rattle.dir_mem.proofs.SoundLemmas.{admits_shown, short_shown, short_may}

-- ---- one file of an image

set_at : (test same : Bool) (file old now : Option (Vec ℕ)) (content : Content) → now ≡ cond test file old → same ≡ test → bytes_in file ≡ content → bytes_in now ≡ (if same then content else bytes_in old)
set_at true same file old now content is at has =
    ap bytes_in is ∙ has ∙ sym (ap (λ (b : Bool). if b then content else bytes_in old) at)
set_at false same file old now content is at has =
    ap bytes_in is ∙ sym (ap (λ (b : Bool). if b then content else bytes_in old) at)

pub set_to : (old new : Files) (path : Names) (file : Option (Vec ℕ)) (content : Content) → ((q : Names) → get path_cmp new q ≡ cond (is_at (path_cmp path) q) file (get path_cmp old q)) → bytes_in file ≡ content → (q : Names) → image_of new q ≡ with_file path content (image_of old) q
set_to old new path file content updates has q =
    set_at (is_at (path_cmp path) q) (same_path path q) file (get path_cmp old q) (get path_cmp new q) content (updates q) (same_path-path_cmp path q) has

pub no_file_in : (files : Files) → files.entries ≡ [] → (q : Names) → image_of files q ≡ None
no_file_in files empty q = cc

listed_push : (paths : List Names) (last q : Names) → is_listed (paths ++ last ∷ []) q ≡ (is_listed paths q || same_path last q)
listed_push [] last q = or_none (same_path last q)
  where
    or_none : (a : Bool) → (a || false) ≡ (false || a)
    or_none true = refl
    or_none false = refl
listed_push (first ∷ paths) last q =
    ap (λ (b : Bool). same_path first q || b) (listed_push paths last q) ∙ or_assoc (same_path first q) (is_listed paths q) (same_path last q)
  where
    or_assoc : (a b c : Bool) → (a || (b || c)) ≡ ((a || b) || c)
    or_assoc true b c = refl
    or_assoc false b c = refl

listed_more : (paths : List Names) (k : ℕ) (path q : Names) → k < length paths → path ≡ get_or paths k path → is_listed (take (k + 1) paths) q ≡ (is_listed (take k paths) q || same_path path q)
listed_more paths k path q within is =
    ap (λ (ps : List Names). is_listed ps q) (take_more paths k path within ∙ ap (λ (p : Names). take k paths ++ p ∷ []) (sym is)) ∙ listed_push (take k paths) path q

-- the files so far are in the image
abbrev pub PutUpTo : List Names → (Names → Content) → Image → Type 0
PutUpTo done has image = (q : Names) → image q ≡ (if is_listed done q then has q else None)

put_if : (before same : Bool) (has old now : Content) → (same ≡ true → now ≡ has) → (same ≡ false → now ≡ old) → old ≡ (if before then has else None) → now ≡ (if before || same then has else None)
put_if true true has old now here there so_far = here refl
put_if false true has old now here there so_far = here refl
put_if true false has old now here there so_far = there refl ∙ so_far
put_if false false has old now here there so_far = there refl ∙ so_far

with_here : (path q : Names) (content : Content) (old : Image) → same_path path q ≡ true → with_file path content old q ≡ content
with_here path q content old same = ap (λ (b : Bool). if b then content else old q) same

with_there : (path q : Names) (content : Content) (old : Image) → same_path path q ≡ false → with_file path content old q ≡ old q
with_there path q content old other = ap (λ (b : Bool). if b then content else old q) other

pub put_none : (has : Names → Content) (files : Files) → files.entries ≡ [] → PutUpTo [] has (image_of files)
put_none has files empty q = no_file_in files empty q

pub put_more : (paths : List Names) (k : ℕ) (path : Names) (has : Names → Content) (content : Content) (old new : Image) → k < length paths → path ≡ get_or paths k path → content ≡ has path → PutUpTo (take k paths) has old → ((q : Names) → new q ≡ with_file path content old q) → PutUpTo (take (k + 1) paths) has new
put_more paths k path has content old new within is gives so_far sets q =
    put_if (is_listed (take k paths) q) (same_path path q) (has q) (old q) (new q) (λ same. sets q ∙ with_here path q content old same ∙ gives ∙ ap has (same_path-true path q same)) (λ other. sets q ∙ with_there path q content old other) (so_far q) ∙ ap (λ (b : Bool). if b then has q else None) (sym (listed_more paths k path q within is))

pub put_done : (paths : List Names) (k : ℕ) (has : Names → Content) (image : Image) → length paths ≤ k → PutUpTo (take k paths) has image → (q : Names) → image q ≡ (if is_listed paths q then has q else None)
put_done paths k has image all so_far q =
    so_far q ∙ ap (λ (ps : List Names). if is_listed ps q then has q else None) (take_all k paths all)

seen_absent : (view : View) → seen view absent ≡ None
seen_absent Now = refl
seen_absent Oldest = refl
seen_absent Newest = refl

if_listed : (listed : Bool) (has : Content) → (listed ≡ false → has ≡ None) → (if listed then has else None) ≡ has
if_listed true has gone = refl
if_listed false has gone = sym (gone refl)

-- the image of a view of each path
pub seen_done : (paths : List Names) (k : ℕ) (view : View) (state : State) (image : Image) → ListsAll paths state → length paths ≤ k → PutUpTo (take k paths) (λ p. seen view (state p)) image → (q : Names) → image q ≡ seen view (state q)
seen_done paths k view state image lists all so_far q =
    put_done paths k (λ p. seen view (state p)) image all so_far q ∙ if_listed (is_listed paths q) (seen view (state q)) (λ unlisted. ap (seen view) (unlisted_absent paths state q lists unlisted) ∙ seen_absent view)

-- ---- what fits

fair_from : (held : Held) (content : Content) → allows held.may content ≡ true → is_short_content content ≡ true → is_fair held content ≡ true
fair_from held content allowed short = and_from (allows held.may content) (is_short_content content) allowed short

fair_now : (held : Held) → is_sound held ≡ true → is_fair held held.now ≡ true
fair_now held sound = fair_from held held.now (allowed_now held sound) (short_now held sound)

fair_newest : (may : List Member) (now : Content) → allows may now ≡ true → list_all is_short_member may ≡ true → (allows may (newest may) && is_short_content (newest may)) ≡ true
fair_newest [] now allowed short = absurd (false≢true allowed)
fair_newest (member ∷ may) now allowed short =
    and_from _ _ (or_first (admits member (shown member)) (allows may (shown member)) (admits_shown member)) (short_shown member (and_parts _ _ short).0)

fair_oldest : (member : Member) (may : List Member) → list_all is_short_member (member ∷ may) ≡ true → (allows (member ∷ may) (oldest (member ∷ may)) && is_short_content (oldest (member ∷ may))) ≡ true
fair_oldest member [] short =
    and_from _ _ (or_first (admits member (shown member)) false (admits_shown member)) (short_shown member (and_parts _ _ short).0)
fair_oldest member (older ∷ may) short =
    let later = and_parts _ _ (fair_oldest older may (and_parts _ _ short).1) in
    and_from _ _ (or_second (admits member (oldest (older ∷ may))) (allows (older ∷ may) (oldest (older ∷ may))) later.0) later.1

fair_oldest_of : (may : List Member) (now : Content) → allows may now ≡ true → list_all is_short_member may ≡ true → (allows may (oldest may) && is_short_content (oldest may)) ≡ true
fair_oldest_of [] now allowed short = absurd (false≢true allowed)
fair_oldest_of (member ∷ may) now allowed short = fair_oldest member may short

fair_seen : (view : View) (held : Held) → is_sound held ≡ true → is_fair held (seen view held) ≡ true
fair_seen Now held sound = fair_now held sound
fair_seen Oldest held sound = fair_oldest_of held.may held.now (allowed_now held sound) (short_may held sound)
fair_seen Newest held sound = fair_newest held.may held.now (allowed_now held sound) (short_may held sound)

pub fair_view : (view : View) (state : State) (image : Image) → IsSoundState state → ((q : Names) → image q ≡ seen view (state q)) → IsFair state image
fair_view view state image sound is q = ap (is_fair (state q)) (is q) ∙ fair_seen view (state q) (sound q)

-- the image of now, at the listed paths
pub now_copied : (paths : List Names) (state : State) (now copy : Image) → ListsAll paths state → ((q : Names) → now q ≡ (state q).now) → ((q : Names) → copy q ≡ (if is_listed paths q then now q else None)) → (q : Names) → copy q ≡ (state q).now
now_copied paths state now copy lists is copies q =
    copies q ∙ ap (λ (c : Content). if is_listed paths q then c else None) (is q) ∙ if_listed (is_listed paths q) (state q).now (λ unlisted. ap (λ (h : Held). h.now) (unlisted_absent paths state q lists unlisted))

-- an image of now but for one path
pub fair_variation : (paths : List Names) (state : State) (now other : Image) (path : Names) (content : Content) → IsSoundState state → ListsAll paths state → ((q : Names) → now q ≡ (state q).now) → is_fair (state path) content ≡ true → ((q : Names) → other q ≡ with_file path content (λ p. if is_listed paths p then now p else None) q) → IsFair state other
fair_variation paths state now other path content sound lists is fair differs q =
    ⊎_elim (λ same. ap (is_fair (state q)) (differs q ∙ with_here path q content (λ p. if is_listed paths p then now p else None) same) ∙ subst (λ (p : Names). is_fair (state p) content ≡ true) (same_path-true path q same) fair) (λ apart. ap (is_fair (state q)) (differs q ∙ with_there path q content (λ p. if is_listed paths p then now p else None) apart ∙ now_copied paths state now (λ p. if is_listed paths p then now p else None) lists is (λ p. refl) q) ∙ fair_now (state q) (sound q)) (cases_Bool (same_path path q))

fair_allowed : (held : Held) (content : Content) → is_fair held content ≡ true → Allows held.may content
fair_allowed held content fair = allows_it held.may content (and_parts (allows held.may content) (is_short_content content) fair).0

pub fair_fits : (state : State) (image : Image) → IsFair state image → Fits state image
fair_fits state image fair path = fair_allowed (state path) (image path) (fair path)

short_bytes : (content : Content) (bytes : List ℕ) → content ≡ Some bytes → is_short_content content ≡ true → length bytes ≤ 2 ^ 50
short_bytes content bytes is short = leb-true (length bytes) (2 ^ 50) (ap is_short_content (sym is) ∙ short)

pub fair_starts : (state : State) (image : Image) → HasNoTop state → IsFair state image → CanBegin image
fair_starts state image none fair = record {
  short = λ path bytes is. short_bytes (image path) bytes is (and_parts (allows (state path).may (image path)) (is_short_content (image path)) (fair path)).1;
  no_top = ⊎_elim (λ gone. gone) (λ never. absurd never) (subst (λ (h : Held). Allows h.may (image [])) (absent_from (state []) none) (fair_allowed (state []) (image []) (fair [])));
}

-- ---- what is shown of the members

allows_at : (traces : List Trace) (k : ℕ) (trace : Trace) (content : Content) → k < length traces → trace ≡ get_or traces k trace → admits (member_of trace) content ≡ true → allows (members_of traces) content ≡ true
allows_at [] k trace content within is admitted = absurd (omega (arith, within))
allows_at (first ∷ traces) zero trace content within is admitted =
    or_first (admits (member_of first) content) (allows (members_of traces) content) (subst (λ (t : Trace). admits (member_of t) content ≡ true) is admitted)
allows_at (first ∷ traces) (suc k) trace content within is admitted =
    or_second (admits (member_of first) content) (allows (members_of traces) content) (allows_at traces k trace content (omega (arith, within)) is admitted)

short_at : (traces : List Trace) (k : ℕ) (trace : Trace) → k < length traces → trace ≡ get_or traces k trace → list_all is_short_member (members_of traces) ≡ true → is_short_member (member_of trace) ≡ true
short_at [] k trace within is short = absurd (omega (arith, within))
short_at (first ∷ traces) zero trace within is short =
    subst (λ (t : Trace). is_short_member (member_of t) ≡ true) (sym is) (and_parts _ _ short).0
short_at (first ∷ traces) (suc k) trace within is short = short_at traces k trace (omega (arith, within)) is (and_parts _ _ short).1

passes : (held : Held) (member : Member) → ((content : Content) → admits member content ≡ true → allows held.may content ≡ true) → is_short_member member ≡ true → Passes (is_fair held) member
passes held Gone allowed short = fair_from held None (allowed None refl) refl
passes held (Exactly bytes) allowed short = fair_from held (Some bytes) (allowed (Some bytes) (bytes_eq-refl bytes)) short
passes held Anything allowed short =
    (fair_from held (Some []) (allowed (Some []) refl) refl, fair_from held (Some garbage) (allowed (Some garbage) refl) refl)

pub trace_passes : (held : Held) (traces : List Trace) (k : ℕ) (trace : Trace) → members_of traces ≡ held.may → is_sound held ≡ true → k < length traces → trace ≡ get_or traces k trace → Passes (is_fair held) (member_of trace)
trace_passes held traces k trace are sound within is =
    passes held (member_of trace) (λ content admitted. subst (λ (may : List Member). allows may content ≡ true) are (allows_at traces k trace content within is admitted)) (short_at traces k trace within is (subst (λ (may : List Member). list_all is_short_member may ≡ true) (sym are) (short_may held sound)))

pub fair_at : (test : Content → Bool) (contents : List (Option (Vec ℕ))) (k : ℕ) (content : Option (Vec ℕ)) → list_all (λ c. test (bytes_in c)) contents ≡ true → k < length contents → content ≡ get_or contents k content → test (bytes_in content) ≡ true
fair_at test [] k content all within is = absurd (omega (arith, within))
fair_at test (first ∷ contents) zero content all within is =
    subst (λ (c : Option (Vec ℕ)). test (bytes_in c) ≡ true) (sym is) (and_parts _ _ all).0
fair_at test (first ∷ contents) (suc k) content all within is = fair_at test contents k content (and_parts _ _ all).1 (omega (arith, within)) is

pub all_push : (test : Content → Bool) (contents : List (Option (Vec ℕ))) (content : Option (Vec ℕ)) → list_all (λ c. test (bytes_in c)) contents ≡ true → test (bytes_in content) ≡ true → list_all (λ c. test (bytes_in c)) (contents ++ content ∷ []) ≡ true
all_push test [] content all one = and_from (test (bytes_in content)) true one refl
all_push test (first ∷ contents) content all one =
    let parts = and_parts (test (bytes_in first)) (list_all (λ c. test (bytes_in c)) contents) all in
    and_from (test (bytes_in first)) (list_all (λ c. test (bytes_in c)) (contents ++ content ∷ [])) parts.0 (all_push test contents content parts.1 one)

-- ---- lists of images

pub grows_push : (start now new : List Files) (image : Files) → new ≡ now ++ image ∷ [] → (more : List Files) × (now ≡ start ++ more) → (more : List Files) × (new ≡ start ++ more)
grows_push start now new image is grows =
    (grows.0 ++ image ∷ [], is ∙ ap (λ (images : List Files). images ++ image ∷ []) grows.1 ∙ append_assoc start grows.0 (image ∷ []))

pub three_pushed : (empty one two three : List Files) (first second third : Files) → empty ≡ [] → one ≡ empty ++ first ∷ [] → two ≡ one ++ second ∷ [] → three ≡ two ++ third ∷ [] → three ≡ first ∷ second ∷ third ∷ []
three_pushed empty one two three first second third none is is_two is_three =
    is_three ∙ ap (λ (l : List Files). l ++ third ∷ []) (is_two ∙ ap (λ (l : List Files). l ++ second ∷ []) (is ∙ ap (λ (l : List Files). l ++ first ∷ []) none))

pub fair_three : (state : State) (first second third : Files) → IsFair state (image_of first) → IsFair state (image_of second) → IsFair state (image_of third) → All (λ image. IsFair state (image_of image)) (first ∷ second ∷ third ∷ [])
fair_three state first second third one two three =
    let P : Files → Type 0 = λ image. IsFair state (image_of image) in
    All-cons P first (second ∷ third ∷ []) one (All-cons P second (third ∷ []) two (All-cons P third [] three (All-nil P)))

-- images that come behind change no view
pub views_stay : (state : State) (old new : List Files) → HasViewsFirst state old → (more : List Files) × (new ≡ old ++ more) → HasViewsFirst state new
views_stay state old new views grows = record {
  first = views.first;
  second = views.second;
  third = views.third;
  others = views.others ++ grows.0;
  are = grows.1 ∙ ap (λ (images : List Files). images ++ grows.0) views.are;
  now = views.now;
  of_oldest = views.of_oldest;
  of_newest = views.of_newest;
}

pub shows_from : (result : Result (Vec Files) NoMemory) (call place : ℕ) (steps : List Step) (paths : List Names) → IsRightBefore call place (told_by steps) → WasFine paths steps → IfOk result (λ images. All (λ image. IsFair (state_of (take place steps)) (image_of image)) images.items) → IfOk result (λ images. HasViewsFirst (state_of (take place steps)) images.items) → IfOk result (λ images. Shows call (told_by steps) images.items)
shows_from (Ok images) call place steps paths before past fair views =
    let state : State = state_of (take place steps) in
    record {
      place = place;
      before = before;
      fits = All-weaker (λ image. IsFair state (image_of image)) (λ image. Fits state (image_of image)) (λ image is. fair_fits state (image_of image) is) images.items fair;
      starts = All-weaker (λ image. IsFair state (image_of image)) (λ image. CanBegin (image_of image)) (λ image is. fair_starts state (image_of image) (past_no_top paths steps place past) is) images.items fair;
      views = views;
    }
shows_from (Err fault) call place steps paths before past fair views = tt

-- an image without files
pub no_file_left : (files : Files) → (0 < btree_map_len files → ⊥) → (q : Names) → image_of files q ≡ None
no_file_left files none = no_file_in files (empty_list files.entries none)
  where
    empty_list : {X : Type 0} (xs : List X) → (0 < length xs → ⊥) → xs ≡ []
    empty_list [] none = refl
    empty_list (x ∷ xs) none = absurd (none (omega arith))
