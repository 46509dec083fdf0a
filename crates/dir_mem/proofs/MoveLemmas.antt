-- How a move is brought about: the files arrive, and then they leave.
use Rattle.std.proofs.Common.{◌≡◌, ℕ, ◌+◌, ◌<◌, ◌≤◌, Bool, true, false, ◌⊎◌, inl, inr, ⊎_elim, if◌then◌else◌, List, [], ◌∷◌, ◌++◌, length, get_or, take, Option, Some, None, refl, sym, ◌∙◌, ap, subst, arith}
use Rattle.std.proofs.lemmas.Bool.{false≢true, cases_Bool, cases_lt}
use Rattle.std.proofs.lemmas.List.{take_more, take_all}
use Rattle.peg_base.specs.Names.{Names, same_path, under, after_top}
use Rattle.peg_base.proofs.Under.{same_path-true, same_path-refl, under-append, under-split, after_top-append, under-nested}
use Rattle.dir_disk.specs.State.{Content, Held, State, removed, moved_to, after_move, after_remove}
use Rattle.dir_mem.specs.declared.log.Change.{Change}
use Rattle.dir_mem.specs.Log.{after_changes, change_at, replaced, replaced_by}
use Rattle.dir_mem.specs.Sound.{is_listed, ListsAll}
use Rattle.dir_mem.specs.Effects.{Leads, Makes, Arrives, after_arrival}
use Rattle.dir_mem.proofs.EffectLemmas.{unnamed_stays, unnamed_test, makes_push, keeps, reached, stands, listed_push, unlisted_absent, if_true, if_false}

-- what arrives at a new path
arrival_at : (from to : Names) (old : State) (rest : Names) → after_arrival from to old (to ++ rest) ≡ moved_to (old (from ++ rest)).now (old (from ++ rest)).may (old (to ++ rest))
arrival_at from to old rest =
    if_true (under to (to ++ rest)) (moved_to (old (from ++ after_top to (to ++ rest))).now (old (from ++ after_top to (to ++ rest))).may (old (to ++ rest))) (old (to ++ rest)) (under-append to rest) ∙ ap (λ (r : Names). moved_to (old (from ++ r)).now (old (from ++ r)).may (old (to ++ rest))) (after_top-append to rest)

-- where no file was, none arrives
none_arrives : (from to : Names) (old : State) (rest : Names) → (old (from ++ rest)).now ≡ None → after_arrival from to old (to ++ rest) ≡ old (to ++ rest)
none_arrives from to old rest none =
    arrival_at from to old rest ∙ ap (λ (now : Content). moved_to now (old (from ++ rest)).may (old (to ++ rest))) none

arrives_done : (from to : Names) (paths : List Names) (k : ℕ) (path : Names) (changes : List Change) (old : State) → k < length paths → path ≡ get_or paths k path → Arrives from to (take k paths ++ path ∷ []) changes old → Arrives from to (take (k + 1) paths) changes old
arrives_done from to paths k path changes old within is arrives =
    subst (λ (done : List Names). Arrives from to done changes old) (sym (take_more paths k path within ∙ ap (λ (p : Names). take k paths ++ p ∷ []) (sym is))) arrives

pub arrives_none : (from to : Names) (changes : List Change) (old : State) → changes ≡ [] → Arrives from to [] changes old
arrives_none from to changes old none =
    subst (λ (cs : List Change). Arrives from to [] cs old) (sym none) (let start : Arrives from to [] [] old = record { made = tt; there = λ rest listed. absurd (false≢true listed); within = λ path outside. refl } in start)

within_push : (changes : List Change) (change : Change) (path : Names) → change_at changes path ≡ None → same_path change.path path ≡ false → change_at (changes ++ change ∷ []) path ≡ None
within_push [] change path none other =
    ap (λ (test : Bool). if test then Some change else None) other
within_push (first ∷ changes) change path none other =
    let parts = unnamed_test (same_path first.path path) first (change_at changes path) none in
    ap (λ (test : Bool). if test then Some first else change_at (changes ++ change ∷ []) path) parts.0 ∙ within_push changes change path parts.1 other

not_same : (to place path : Names) → under to place ≡ true → under to path ≡ false → same_path place path ≡ false
not_same to place path below outside =
    ⊎_elim (λ same. absurd (false≢true (sym outside ∙ subst (λ (p : Names). under to p ≡ true) (same_path-true place path same) below))) (λ other. other) (cases_Bool (same_path place path))

-- one file more has arrived
pub arrives_push : (from to : Names) (paths : List Names) (k : ℕ) (path : Names) (changes more : List Change) (change : Change) (old : State) → k < length paths → path ≡ get_or paths k path → more ≡ changes ++ change ∷ [] → under from path ≡ true → change.path ≡ to ++ after_top from path → replaced change (old (to ++ after_top from path)) ≡ moved_to (old path).now (old path).may (old (to ++ after_top from path)) → Arrives from to (take k paths) changes old → Arrives from to (take (k + 1) paths) more old
arrives_push from to paths k path changes more change old within is pushed below at makes arrives =
    let rest : Names = after_top from path in
    let split : path ≡ from ++ rest = under-split from path below in
    let arrived : replaced change (old (to ++ rest)) ≡ after_arrival from to old (to ++ rest) = makes ∙ ap (λ (p : Names). moved_to (old p).now (old p).may (old (to ++ rest))) split ∙ sym (arrival_at from to old rest) in
    let makes_it : Makes change old (after_arrival from to old) = subst (λ (p : Names). replaced change (old p) ≡ after_arrival from to old p) (sym at) arrived in
    let made = makes_push changes change old (after_arrival from to old) arrives.made makes_it in
    let below_to : under to change.path ≡ true = subst (λ (p : Names). under to p ≡ true) (sym at) (under-append to rest) in
    let same_rest : (r : Names) → same_path path (from ++ r) ≡ true → same_path change.path (to ++ r) ≡ true = λ r same. subst (λ (p : Names). same_path change.path p ≡ true) (at ∙ ap (λ (x : Names). to ++ x) (ap (λ (p : Names). after_top from p) (same_path-true path (from ++ r) same) ∙ after_top-append from r)) (same_path-refl change.path) in
    let all : Arrives from to (take k paths ++ path ∷ []) (changes ++ change ∷ []) old = record {
      made = made;
      there = λ r listed. ⊎_elim (λ before. keeps changes change old (after_arrival from to old) (to ++ r) made (arrives.there r before)) (λ same. reached changes change old (after_arrival from to old) (to ++ r) made (same_rest r same)) (listed_push (take k paths) path (from ++ r) listed);
      within = λ q outside. within_push changes change q (arrives.within q outside) (not_same to change.path q below_to outside);
    } in
    arrives_done from to paths k path more old within is (subst (λ (cs : List Change). Arrives from to (take k paths ++ path ∷ []) cs old) (sym pushed) all)

-- one path more, from which no file is moved
pub arrives_skip : (from to : Names) (paths : List Names) (k : ℕ) (path : Names) (changes more : List Change) (old : State) → k < length paths → path ≡ get_or paths k path → more ≡ changes → (under from path ≡ true → (old path).now ≡ None) → Arrives from to (take k paths) changes old → Arrives from to (take (k + 1) paths) more old
arrives_skip from to paths k path changes more old within is same_changes none arrives =
    let nothing : (r : Names) → same_path path (from ++ r) ≡ true → (old (from ++ r)).now ≡ None = λ r same. let split = same_path-true path (from ++ r) same in subst (λ (p : Names). (old p).now ≡ None) split (none (subst (λ (p : Names). under from p ≡ true) (sym split) (under-append from r))) in
    let all : Arrives from to (take k paths ++ path ∷ []) changes old = record {
      made = arrives.made;
      there = λ r listed. ⊎_elim (λ before. arrives.there r before) (λ same. stands changes old (after_arrival from to old) (to ++ r) arrives.made (none_arrives from to old r (nothing r same))) (listed_push (take k paths) path (from ++ r) listed);
      within = arrives.within;
    } in
    arrives_done from to paths k path more old within is (subst (λ (cs : List Change). Arrives from to (take k paths ++ path ∷ []) cs old) (sym same_changes) all)

-- all files have arrived
pub arrives_all : (from to : Names) (paths : List Names) (k : ℕ) (changes : List Change) (old : State) → length paths ≤ k → ListsAll paths old → Arrives from to (take k paths) changes old → Leads changes old (after_arrival from to old)
arrives_all from to paths k changes old all lists arrives path =
    ⊎_elim inside outside (cases_Bool (under to path))
  where
    goes : Names → Type 0
    goes q = after_changes changes old q ≡ after_arrival from to old q

    at_rest : (rest : Names) → goes (to ++ rest)
    at_rest rest = ⊎_elim (λ listed. arrives.there rest (ap (λ (done : List Names). is_listed done (from ++ rest)) (take_all k paths all) ∙ listed)) (λ other. stands changes old (after_arrival from to old) (to ++ rest) arrives.made (none_arrives from to old rest (ap (λ (h : Held). h.now) (unlisted_absent paths old (from ++ rest) lists other)))) (cases_Bool (is_listed paths (from ++ rest)))

    inside : under to path ≡ true → goes path
    inside below = subst goes (sym (under-split to path below)) (at_rest (after_top to path))

    outside : under to path ≡ false → goes path
    outside apart = unnamed_stays changes old path (arrives.within path apart) ∙ sym (if_false (under to path) (moved_to (old (from ++ after_top to path)).now (old (from ++ after_top to path)).may (old path)) (old path) apart)

-- what the front names counts, and else what comes behind it
behind : (front changes : List Change) (path : Names) → change_at front path ≡ None → change_at (front ++ changes) path ≡ change_at changes path
behind [] changes path none = refl
behind (first ∷ front) changes path none =
    let parts = unnamed_test (same_path first.path path) first (change_at front path) none in
    ap (λ (test : Bool). if test then Some first else change_at (front ++ changes) path) parts.0 ∙ behind front changes path parts.1

in_front : (front changes : List Change) (old : State) (path : Names) → (after_changes (front ++ changes) old path ≡ after_changes front old path) ⊎ (change_at front path ≡ None)
in_front [] changes old path = inr refl
in_front (first ∷ front) changes old path =
    at (same_path first.path path) (in_front front changes old path)
  where
    at : (test : Bool) → (after_changes (front ++ changes) old path ≡ after_changes front old path) ⊎ (change_at front path ≡ None) → (replaced_by (if test then Some first else change_at (front ++ changes) path) (old path) ≡ replaced_by (if test then Some first else change_at front path) (old path)) ⊎ ((if test then Some first else change_at front path) ≡ None)
    at true later = inl refl
    at false later = later

-- nothing lies under both paths of a move
apart_below : (from to path : Names) → (under from to ≡ false) × (under to from ≡ false) → under to path ≡ true → under from path ≡ false
apart_below from to path apart below =
    ⊎_elim (λ other. absurd (⊎_elim (λ short. false≢true (sym apart.0 ∙ under-nested from to path other below short)) (λ short. false≢true (sym apart.1 ∙ under-nested to from path below other short)) (order (length from) (length to)))) (λ outside. outside) (cases_Bool (under from path))
  where
    order : (a b : ℕ) → (a ≤ b) ⊎ (b ≤ a)
    order a b = ⊎_elim (λ less. inl (omega (arith, less))) (λ more. inr more) (cases_lt a b)

-- the files arrive and leave
pub moved : (from to : Names) (arriving leaving all : List Change) (old : State) → all ≡ arriving ++ leaving → (under from to ≡ false) × (under to from ≡ false) → Leads arriving old (after_arrival from to old) → ((path : Names) → under to path ≡ false → change_at arriving path ≡ None) → Leads leaving old (after_remove from old) → Leads all old (after_move from to old)
moved from to arriving leaving all old joined apart arrives within leaves path =
    ap (λ (cs : List Change). after_changes cs old path) joined ∙ ⊎_elim inside outside (cases_Bool (under to path))
  where
    both : Held
    both = moved_to (old (from ++ after_top to path)).now (old (from ++ after_top to path)).may (old path)

    rest : Held
    rest = if under from path then removed (old path) else old path

    goes : Type 0
    goes = after_changes (arriving ++ leaving) old path ≡ after_move from to old path

    unnamed : change_at arriving path ≡ None → after_changes (arriving ++ leaving) old path ≡ after_remove from old path
    unnamed none = ap (λ (o : Option Change). replaced_by o (old path)) (behind arriving leaving path none) ∙ leaves path

    inside : under to path ≡ true → goes
    inside below = ⊎_elim (λ front. front ∙ arrives path ∙ if_true (under to path) both (old path) below ∙ sym (if_true (under to path) both rest below)) (λ none. unnamed none ∙ if_false (under from path) (removed (old path)) (old path) (apart_below from to path apart below) ∙ sym (unnamed_stays arriving old path none) ∙ arrives path ∙ if_true (under to path) both (old path) below ∙ sym (if_true (under to path) both rest below)) (in_front arriving leaving old path)

    outside : under to path ≡ false → goes
    outside apart_to = unnamed (within path apart_to) ∙ sym (if_false (under to path) both rest apart_to)
