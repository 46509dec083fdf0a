-- The paths that are listed.
use Rattle.std.proofs.Common.{◌≡◌, ℕ, ◌+◌, ◌<◌, ◌≤◌, Bool, true, false, if◌then◌else◌, ⊎_elim, List, [], ◌∷◌, ◌++◌, length, get_or, take, Some, None, refl, sym, ◌∙◌, ap, subst}
use Rattle.std.proofs.lemmas.Bool.{false≢true, cases_Bool, or_cases, and_parts, and_from}
use Rattle.std.proofs.lemmas.List.{take_more, take_all}
use Rattle.peg_base.specs.Names.{Names, same_path}
use Rattle.peg_base.proofs.Under.{same_path-true, same_path-refl}
use Rattle.dir_disk.specs.State.{State}
use Rattle.dir_mem.specs.declared.log.Change.{Change}
use Rattle.dir_mem.specs.Log.{after_changes, change_at}
use Rattle.dir_mem.specs.Sound.{is_listed, is_absent, ListsAll}
use Rattle.dir_mem.specs.Effects.{AllListed}
use Rattle.dir_mem.proofs.EffectLemmas.{or_first, or_second, unnamed_stays}

pub listed_last : (paths : List Names) (last path : Names) → last ≡ path → is_listed (paths ++ last ∷ []) path ≡ true
listed_last [] last path is = or_first (same_path last path) false (ap (λ (p : Names). same_path p path) is ∙ same_path-refl path)
listed_last (first ∷ paths) last path is = or_second (same_path first path) (is_listed (paths ++ last ∷ []) path) (listed_last paths last path is)

all_push : (old new : List Names) (changes : List Change) (change : Change) → ((path : Names) → is_listed old path ≡ true → is_listed new path ≡ true) → AllListed old changes → is_listed new change.path ≡ true → AllListed new (changes ++ change ∷ [])
all_push old new [] change kept all listed = and_from (is_listed new change.path) true listed refl
all_push old new (first ∷ changes) change kept all listed =
    let parts = and_parts _ _ all in
    and_from _ _ (kept first.path parts.0) (all_push old new changes change kept parts.1 listed)

pub all_more : (old new : List Names) (changes : List Change) (k : ℕ) (change : Change) → ((path : Names) → is_listed old path ≡ true → is_listed new path ≡ true) → AllListed old (take k changes) → k < length changes → change ≡ get_or changes k change → is_listed new change.path ≡ true → AllListed new (take (k + 1) changes)
all_more old new changes k change kept all within is listed =
    subst (λ (cs : List Change). AllListed new cs) (sym (take_more changes k change within ∙ ap (λ (c : Change). take k changes ++ c ∷ []) (sym is))) (all_push old new (take k changes) change kept all listed)

unlisted_change : (paths : List Names) (changes : List Change) (path : Names) → AllListed paths changes → is_listed paths path ≡ false → change_at changes path ≡ None
unlisted_change paths [] path all unlisted = refl
unlisted_change paths (change ∷ changes) path all unlisted =
    let parts = and_parts _ _ all in
    let other : same_path change.path path ≡ false = ⊎_elim (λ same. absurd (false≢true (sym unlisted ∙ subst (λ (p : Names). is_listed paths p ≡ true) (same_path-true change.path path same) parts.0))) (λ is. is) (cases_Bool (same_path change.path path)) in
    ap (λ (test : Bool). if test then Some change else change_at changes path) other ∙ unlisted_change paths changes path parts.1 unlisted

pub all_done : (paths : List Names) (changes : List Change) (k : ℕ) (path : Names) → length changes ≤ k → AllListed paths (take k changes) → is_listed paths path ≡ false → change_at changes path ≡ None
all_done paths changes k path all listed unlisted =
    unlisted_change paths changes path (subst (λ (cs : List Change). AllListed paths cs) (take_all k changes all) listed) unlisted

-- more paths may be listed
pub lists_more : (old new : List Names) (state : State) → ((path : Names) → is_listed old path ≡ true → is_listed new path ≡ true) → ListsAll old state → ListsAll new state
lists_more old new state kept lists path =
    ⊎_elim (λ listed. or_first (is_listed new path) (is_absent (state path)) (kept path listed)) (λ absent. or_second (is_listed new path) (is_absent (state path)) absent) (or_cases (is_listed old path) (is_absent (state path)) (lists path))

-- where the paths of the changes are listed, all that they change is
pub lists_after : (paths : List Names) (changes : List Change) (old : State) → ((path : Names) → is_listed paths path ≡ false → change_at changes path ≡ None) → ListsAll paths old → ListsAll paths (after_changes changes old)
lists_after paths changes old none lists path =
    ⊎_elim (λ listed. or_first (is_listed paths path) (is_absent (after_changes changes old path)) listed) (λ unlisted. or_second (is_listed paths path) (is_absent (after_changes changes old path)) (ap is_absent (unnamed_stays changes old path (none path unlisted)) ∙ absent unlisted)) (cases_Bool (is_listed paths path))
  where
    absent : is_listed paths path ≡ false → is_absent (old path) ≡ true
    absent unlisted = ⊎_elim (λ listed. absurd (false≢true (sym unlisted ∙ listed))) (λ is. is) (or_cases (is_listed paths path) (is_absent (old path)) (lists path))

-- a change of a listed path
pub listed_change : (paths : List Names) (change : Change) (state : State) → is_listed paths change.path ≡ true → ListsAll paths state → ListsAll paths (after_changes (change ∷ []) state)
listed_change paths change state listed lists =
    lists_after paths (change ∷ []) state (λ path unlisted. unlisted_change paths (change ∷ []) path (and_from (is_listed paths change.path) true listed refl) unlisted) lists
