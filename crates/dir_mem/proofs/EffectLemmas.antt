-- How changes that are made one by one bring about a state.
use Rattle.std.proofs.Common.{◌≡◌, ℕ, ◌<◌, ◌≤◌, ◌+◌, Bool, true, false, ◌||◌, if◌then◌else◌, ◌⊎◌, inl, inr, ⊎_elim, List, [], ◌∷◌, ◌++◌, length, get_or, take, Option, Some, None, refl, sym, ◌∙◌, ap, subst}
use Rattle.std.specs.Prelude.{is_some}
use Rattle.std.specs.Borrow.{Bor}
use Rattle.std.proofs.lemmas.Bool.{false≢true, cases_Bool, or_cases}
use Rattle.std.proofs.lemmas.List.{take_more, take_all}
use Rattle.peg_base.specs.Names.{Names, same_path}
use Rattle.peg_base.proofs.Under.{same_path-true}
use Rattle.dir_disk.specs.State.{Content, Held, State, absent, removed, removed_from}
use Rattle.dir_mem.specs.declared.log.Change.{Change}
use Rattle.dir_mem.specs.Traces.{content_of}
use Rattle.dir_mem.specs.Log.{after_changes, change_at, replaced, replaced_by}
use Rattle.dir_mem.specs.Sound.{is_listed, is_absent, ListsAll}
use Rattle.dir_mem.specs.Facts.{absent_from}
use Rattle.dir_mem.specs.Effects.{Leads, Makes, MakesAll, Brings}

test_changes : (test : Bool) (first : Change) (others : Option Change) (old new : State) (path : Names) → (test ≡ true → replaced first (old path) ≡ new path) → (replaced_by others (old path) ≡ new path) ⊎ (others ≡ None) → (replaced_by (if test then Some first else others) (old path) ≡ new path) ⊎ ((if test then Some first else others) ≡ None)
test_changes true first others old new path here there = inl (here refl)
test_changes false first others old new path here there = there

-- a path that the changes name is as in the new state
pub made_at : (changes : List Change) (old new : State) (path : Names) → MakesAll changes old new → (after_changes changes old path ≡ new path) ⊎ (change_at changes path ≡ None)
made_at [] old new path made = inr refl
made_at (change ∷ changes) old new path made =
    test_changes (same_path change.path path) change (change_at changes path) old new path (λ same. subst (λ (p : Names). replaced change (old p) ≡ new p) (same_path-true change.path path same) made.0) (made_at changes old new path made.1)

pub unnamed_test : (test : Bool) (first : Change) (others : Option Change) → (if test then Some first else others) ≡ None → (test ≡ false) × (others ≡ None)
unnamed_test true first others none = absurd (cc)
unnamed_test false first others none = (refl, none)

-- what no change of a longer list names, no change of its front names
pub unnamed_front : (changes more : List Change) (path : Names) → change_at (changes ++ more) path ≡ None → change_at changes path ≡ None
unnamed_front [] more path none = refl
unnamed_front (change ∷ changes) more path none =
    let parts = unnamed_test (same_path change.path path) change (change_at (changes ++ more) path) none in
    ap (λ (test : Bool). if test then Some change else change_at changes path) parts.0 ∙ unnamed_front changes more path parts.1

unnamed_last : (changes : List Change) (change : Change) (path : Names) → change_at (changes ++ change ∷ []) path ≡ None → same_path change.path path ≡ false
unnamed_last [] change path none = (unnamed_test (same_path change.path path) change None none).0
unnamed_last (first ∷ changes) change path none =
    unnamed_last changes change path (unnamed_test (same_path first.path path) first (change_at (changes ++ change ∷ []) path) none).1

pub unnamed_stays : (changes : List Change) (old : State) (path : Names) → change_at changes path ≡ None → after_changes changes old path ≡ old path
unnamed_stays changes old path none = ap (λ (o : Option Change). replaced_by o (old path)) none

pub makes_push : (changes : List Change) (change : Change) (old new : State) → MakesAll changes old new → Makes change old new → MakesAll (changes ++ change ∷ []) old new
makes_push [] change old new made makes = (makes, tt)
makes_push (first ∷ changes) change old new made makes = (made.0, makes_push changes change old new made.1 makes)

-- a path that is as in the new state stays so
pub keeps : (changes : List Change) (change : Change) (old new : State) (path : Names) → MakesAll (changes ++ change ∷ []) old new → after_changes changes old path ≡ new path → after_changes (changes ++ change ∷ []) old path ≡ new path
keeps changes change old new path made there =
    ⊎_elim (λ is. is) (λ none. unnamed_stays (changes ++ change ∷ []) old path none ∙ sym (unnamed_stays changes old path (unnamed_front changes (change ∷ []) path none)) ∙ there) (made_at (changes ++ change ∷ []) old new path made)

pub reached : (changes : List Change) (change : Change) (old new : State) (path : Names) → MakesAll (changes ++ change ∷ []) old new → same_path change.path path ≡ true → after_changes (changes ++ change ∷ []) old path ≡ new path
reached changes change old new path made same =
    ⊎_elim (λ is. is) (λ none. absurd (false≢true (sym (unnamed_last changes change path none) ∙ same))) (made_at (changes ++ change ∷ []) old new path made)

-- where nothing is to be changed, the new state is there
pub stands : (changes : List Change) (old new : State) (path : Names) → MakesAll changes old new → new path ≡ old path → after_changes changes old path ≡ new path
stands changes old new path made same =
    ⊎_elim (λ is. is) (λ none. unnamed_stays changes old path none ∙ sym same) (made_at changes old new path made)

pub listed_push : (paths : List Names) (last path : Names) → is_listed (paths ++ last ∷ []) path ≡ true → (is_listed paths path ≡ true) ⊎ (same_path last path ≡ true)
listed_push [] last path is = ⊎_elim (λ same. inr same) (λ none. absurd (false≢true none)) (or_cases (same_path last path) false is)
listed_push (first ∷ paths) last path is =
    ⊎_elim (λ same. inl (ap (λ (test : Bool). test || is_listed paths path) same)) (λ later. ⊎_elim (λ listed. inl (or_true (same_path first path) (is_listed paths path) listed)) (λ same. inr same) (listed_push paths last path later)) (or_cases (same_path first path) (is_listed (paths ++ last ∷ []) path) is)
  where
    or_true : (a b : Bool) → b ≡ true → (a || b) ≡ true
    or_true true b holds = refl
    or_true false b holds = holds

pub brings_none : (changes : List Change) (old new : State) → changes ≡ [] → Brings [] changes old new
brings_none changes old new none =
    subst (λ (cs : List Change). Brings [] cs old new) (sym none) (let start : Brings [] [] old new = record { made = tt; there = λ path listed. absurd (false≢true listed) } in start)

brings_done : (paths : List Names) (k : ℕ) (path : Names) (changes : List Change) (old new : State) → k < length paths → path ≡ get_or paths k path → Brings (take k paths ++ path ∷ []) changes old new → Brings (take (k + 1) paths) changes old new
brings_done paths k path changes old new within is brings =
    subst (λ (done : List Names). Brings done changes old new) (sym (take_more paths k path within ∙ ap (λ (p : Names). take k paths ++ p ∷ []) (sym is))) brings

-- one path more, by a change
pub brings_push : (paths : List Names) (k : ℕ) (path : Names) (changes more : List Change) (change : Change) (old new : State) → k < length paths → path ≡ get_or paths k path → more ≡ changes ++ change ∷ [] → change.path ≡ path → replaced change (old path) ≡ new path → Brings (take k paths) changes old new → Brings (take (k + 1) paths) more old new
brings_push paths k path changes more change old new within is pushed at makes brings =
    let makes_it : Makes change old new = subst (λ (p : Names). replaced change (old p) ≡ new p) (sym at) makes in
    let made = makes_push changes change old new brings.made makes_it in
    let all : Brings (take k paths ++ path ∷ []) (changes ++ change ∷ []) old new = record {
      made = made;
      there = λ q listed. ⊎_elim (λ before. keeps changes change old new q made (brings.there q before)) (λ same. reached changes change old new q made (ap (λ (p : Names). same_path p q) at ∙ same)) (listed_push (take k paths) path q listed);
    } in
    brings_done paths k path more old new within is (subst (λ (cs : List Change). Brings (take k paths ++ path ∷ []) cs old new) (sym pushed) all)

-- one path more, at which nothing is to be changed
pub brings_skip : (paths : List Names) (k : ℕ) (path : Names) (changes more : List Change) (old new : State) → k < length paths → path ≡ get_or paths k path → more ≡ changes → new path ≡ old path → Brings (take k paths) changes old new → Brings (take (k + 1) paths) more old new
brings_skip paths k path changes more old new within is same_changes same brings =
    let all : Brings (take k paths ++ path ∷ []) changes old new = record {
      made = brings.made;
      there = λ q listed. ⊎_elim (λ before. brings.there q before) (λ here. subst (λ (p : Names). after_changes changes old p ≡ new p) (same_path-true path q here) (stands changes old new path brings.made same)) (listed_push (take k paths) path q listed);
    } in
    brings_done paths k path more old new within is (subst (λ (cs : List Change). Brings (take k paths ++ path ∷ []) cs old new) (sym same_changes) all)

-- a path that isn't listed is absent
pub unlisted_absent : (paths : List Names) (state : State) (path : Names) → ListsAll paths state → is_listed paths path ≡ false → state path ≡ absent
unlisted_absent paths state path lists unlisted =
    absent_from (state path) (sym (ap (λ (test : Bool). test || is_absent (state path)) unlisted) ∙ lists path)

-- all paths are done
pub brings_all : (paths : List Names) (k : ℕ) (changes : List Change) (old new : State) → length paths ≤ k → ListsAll paths old → ((path : Names) → is_listed paths path ≡ false → old path ≡ absent → new path ≡ old path) → Brings (take k paths) changes old new → Leads changes old new
brings_all paths k changes old new all lists unlisted brings path =
    ⊎_elim (λ listed. brings.there path (ap (λ (done : List Names). is_listed done path) (take_all k paths all) ∙ listed)) (λ other. stands changes old new path brings.made (unlisted path other (unlisted_absent paths old path lists other))) (cases_Bool (is_listed paths path))

pub if_false : {A : Type 0} (test : Bool) (a b : A) → test ≡ false → (if test then a else b) ≡ b
if_false true a b fails = absurd (false≢true (sym fails))
if_false false a b fails = refl

pub if_true : {A : Type 0} (test : Bool) (a b : A) → test ≡ true → (if test then a else b) ≡ a
if_true true a b holds = refl
if_true false a b holds = absurd (false≢true holds)

pub if_same : {A : Type 0} (test : Bool) (a b : A) → (test ≡ true → a ≡ b) → (if test then a else b) ≡ b
if_same true a b same = same refl
if_same false a b same = refl

-- a list of one change changes its path alone
pub one_change : (becomes : Held → Held) (items : List Change) (change : Change) (place : Names) (old : State) → items ≡ change ∷ [] → change.path ≡ place → replaced change (old place) ≡ becomes (old place) → (path : Names) → after_changes items old path ≡ (if same_path place path then becomes (old path) else old path)
one_change becomes items change place old one at makes path =
    ap (λ (cs : List Change). after_changes cs old path) one ∙ by_test (same_path change.path path) refl ∙ ap (λ (p : Names). if same_path p path then becomes (old path) else old path) at
  where
    here : same_path change.path path ≡ true → replaced change (old path) ≡ becomes (old path)
    here same =
        let is : place ≡ path = sym at ∙ same_path-true change.path path same in
        subst (λ (p : Names). replaced change (old p) ≡ becomes (old p)) is makes

    by_test : (test : Bool) → same_path change.path path ≡ test → replaced_by (if test then Some change else None) (old path) ≡ (if test then becomes (old path) else old path)
    by_test true same = here same
    by_test false other = refl

pub no_file : (found : Option (Bor (List ℕ))) (now : Content) → content_of found ≡ now → is_some found ≡ false → now ≡ None
no_file None now is none = sym is
no_file (Some bytes) now is none = absurd (false≢true (sym none))

pub removed_none : (held : Held) → held.now ≡ None → removed held ≡ held
removed_none held none = ap (λ (now : Content). removed_from now held) none

pub or_first : (a b : Bool) → a ≡ true → (a || b) ≡ true
or_first a b holds = ap (λ (x : Bool). x || b) holds

pub or_second : (a b : Bool) → b ≡ true → (a || b) ≡ true
or_second true b holds = refl
or_second false b holds = holds

pub or_neither : (a b : Bool) → a ≡ false → b ≡ false → (a || b) ≡ false
or_neither a b first second = ap (λ (x : Bool). x || b) first ∙ second
