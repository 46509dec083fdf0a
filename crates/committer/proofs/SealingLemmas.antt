-- A folder of one part, while it is written.
use Rattle.std.proofs.Common.{◌≡◌, ◌≢◌, ℕ, ◌≤◌, Bool, true, false, ◌&&◌, ⊎_elim, List, [], ◌∷◌, ◌++◌, length, Some, None, Result, refl, sym, ◌∙◌, ap, subst, arith, length-append}
use Rattle.std.specs.Str.{bytes_eq}
use Rattle.std.proofs.lemmas.Bool.{false≢true, cases_Bool, and_parts}
use Rattle.peg_base.specs.Names.{Names, under, same_path}
use Rattle.peg_base.proofs.Under.{under-append, under-refl, under-trans, under-short, under-children, same_path-true, same_path-refl}
use Rattle.dir_disk.specs.declared.dir.DirFault.{DirFault}
use Rattle.dir_disk.specs.State.{Held, State, IsSound, StandsOutside, absent, appended, after_append}
use Rattle.dir_disk.specs.Calls.{Append, CanAppend, Does, IsOpen}
use Rattle.dir_disk.specs.Moments.{Told, Through, files}
use Rattle.dir_disk.proofs.Steps.{Steps, appended_at}
use Rattle.dir_disk.proofs.Through.{goes_on, weaker, at_end}
use Rattle.committer.specs.Paths.{success_of, success_name, part_of, part_name}
use Rattle.committer.specs.Folders.{IsUnmarked, IsEmpty, Opens, Writes, IsBegun}
use Rattle.committer.proofs.FolderLemmas.{not_whole, not_appended, none_only}
use Rattle.committer.proofs.NamesApart.{part_not_success}

-- ---- paths above a child

and_right : (a b : Bool) → a ≡ true → (a && b) ≡ false → b ≡ false
and_right true b holds fails = fails
and_right false b holds fails = absurd (false≢true holds)

-- what lies above a child of a folder lies above the folder, or is it
pub above_child : (q folder : Names) (name : List ℕ) → under q (folder ++ name ∷ []) ≡ true → same_path q (folder ++ name ∷ []) ≡ false → under q folder ≡ true
above_child [] folder name below other = refl
above_child (m ∷ []) [] name below other = absurd (false≢true (sym other ∙ below))
above_child (m ∷ (k ∷ q)) [] name below other =
    absurd (false≢true (and_parts (bytes_eq m name) false below).1)
above_child (m ∷ q) (k ∷ folder) name below other =
    let parts = and_parts (bytes_eq m k) (under q (folder ++ name ∷ [])) below in
    let further = above_child q folder name parts.1 (and_right (bytes_eq m k) (same_path q (folder ++ name ∷ [])) parts.0 other) in
    ap (λ (first : Bool). first && under q folder) parts.0 ∙ further

pub child_is_named : (folder : Names) (name : List ℕ) → folder ++ name ∷ [] ≢ []
child_is_named folder name none =
    let long = length-append folder (name ∷ []) in
    let short : length (folder ++ name ∷ []) ≡ 0 = ap (λ (p : Names). length p) none in
    absurd (omega (arith, long, short))

not_child : (q folder : Names) (name : List ℕ) → under q folder ≡ true → same_path (folder ++ name ∷ []) q ≡ false
not_child q folder name above =
    ⊎_elim (λ same. let long = length-append folder (name ∷ []) in let short : length q ≤ length folder = under-short q folder above in let is : length (folder ++ name ∷ []) ≡ length q = ap (λ (p : Names). length p) (same_path-true (folder ++ name ∷ []) q same) in absurd (omega (arith, long, short, is))) (λ other. other) (cases_Bool (same_path (folder ++ name ∷ []) q))

pub success_not_part : (folder : Names) (part : ℕ) (q : Names) → under (success_of folder) q ≡ true → same_path (part_of folder part) q ≡ false
success_not_part folder part q below =
    ⊎_elim (λ same. absurd (false≢true (sym (under-children folder success_name (part_name part) [] [] (λ is. part_not_success part (sym is))) ∙ subst (λ (r : Names). under (success_of folder) r ≡ true) (sym (same_path-true (part_of folder part) q same)) below))) (λ other. other) (cases_Bool (same_path (part_of folder part) q))

-- ---- a folder that has nothing but its one part

pub record Ready (folder : Names) (state : State) : Type 0 where
  pub is_open : (path : Names) → under path folder ≡ true → (state path).now ≡ None
  pub no_other : (path : Names) → under folder path ≡ true → same_path (part_of folder 0) path ≡ false → state path ≡ absent

pub ready_begun : (folder : Names) (s : State) → IsBegun folder s → Ready folder s
ready_begun folder s begun = record { is_open = begun.is_open; no_other = begun.no_other }

pub ready_empty : (folder : Names) (entry s : State) → IsOpen entry folder → StandsOutside folder entry s → IsEmpty folder s → Ready folder s
ready_empty folder entry s is_open outside empty =
    record {
      is_open = λ q above. ⊎_elim (λ below. ap (λ (h : Held). h.now) (empty q below)) (λ out. ap (λ (h : Held). h.now) (outside q out) ∙ is_open q above (not_same q out)) (cases_Bool (under folder q));
      no_other = λ q below other. empty q below;
    }
  where
    not_same : (q : Names) → under folder q ≡ false → same_path q folder ≡ false
    not_same q out =
        ⊎_elim (λ same. absurd (false≢true (sym out ∙ subst (λ (r : Names). under folder r ≡ true) (sym (same_path-true q folder same)) (under-refl folder)))) (λ other. other) (cases_Bool (same_path q folder))

pub ready_unmarked : (folder : Names) (s : State) → Ready folder s → IsUnmarked folder s
ready_unmarked folder s ready content allowed =
    none_only (s (success_of folder)) content (ready.no_other (success_of folder) (under-append folder (success_name ∷ [])) (success_not_part folder 0 (success_of folder) (under-refl (success_of folder)))) allowed

pub can_append : (folder : Names) (s : State) → Ready folder s → CanAppend s (part_of folder 0)
can_append folder s ready =
    record {
      named = child_is_named folder (part_name 0);
      is_open = λ q below other. ready.is_open q (above_child q folder (part_name 0) below other);
      nothing_under = λ q below other. ap (λ (h : Held). h.now) (ready.no_other q (under-trans folder (part_of folder 0) q (under-append folder (part_name 0 ∷ [])) below) other);
    }

pub can_mark : (folder : Names) (s : State) → Ready folder s → CanAppend s (success_of folder)
can_mark folder s ready =
    record {
      named = child_is_named folder success_name;
      is_open = λ q below other. ready.is_open q (above_child q folder success_name below other);
      nothing_under = λ q below other. ap (λ (h : Held). h.now) (ready.no_other q (under-trans folder (success_of folder) q (under-append folder (success_name ∷ [])) below) (success_not_part folder 0 q below));
    }

pub begun_append : (folder : Names) (bytes : List ℕ) (s t : State) → Ready folder s → t ≡ after_append (part_of folder 0) bytes s → IsBegun folder t
begun_append folder bytes s t ready is =
    record {
      is_open = λ q above. ap (λ (u : State). (u q).now) is ∙ ap (λ (h : Held). h.now) (not_appended (part_of folder 0) bytes s q (not_child q folder (part_name 0) above)) ∙ ready.is_open q above;
      part = (_, ap (λ (u : State). (u (part_of folder 0)).now) is ∙ ap (λ (h : Held). h.now) (appended_at (part_of folder 0) bytes s (part_of folder 0) (same_path-refl (part_of folder 0))));
      no_other = λ q below other. ap (λ (u : State). u q) is ∙ not_appended (part_of folder 0) bytes s q other ∙ ready.no_other q below other;
    }

pub writes_append : (folder : Names) (bytes : List ℕ) (entry s t : State) → Ready folder s → StandsOutside folder entry s → Steps (Append (part_of folder 0) bytes) s t → Writes folder entry s t
writes_append folder bytes entry s t ready outside steps =
    let before : IsUnmarked folder s = ready_unmarked folder s ready in
    let after : IsUnmarked folder t = λ content allowed. ⊎_elim (before content) (λ gain. absurd (false≢true (sym (success_not_part folder 0 (success_of folder) (under-refl (success_of folder))) ∙ gain.0))) (steps.reach (success_of folder) content allowed) in
    record { images = not_whole folder s t before after; outside = (outside, λ q apart. steps.others q (outside_part q apart) ∙ outside q apart) }
  where
    outside_part : (q : Names) → under folder q ≡ false → under (part_of folder 0) q ≡ false
    outside_part q apart =
        ⊎_elim (λ below. absurd (false≢true (sym apart ∙ under-trans folder (part_of folder 0) q (under-append folder (part_name 0 ∷ [])) below))) (λ out. out) (cases_Bool (under (part_of folder 0) q))

pub writes_open : (folder : Names) (entry s t : State) → Opens folder entry s t → Writes folder entry s t
writes_open folder entry s t opens =
    record { images = opens.images; outside = (opens.less.0.outside, opens.less.1.outside) }

-- one append more to the part, whatever it answers
pub writes_on : {T : Type 0} (folder : Names) (bytes : List ℕ) (old mid new : Told) (result : Result T DirFault) → Through (Writes folder (files old)) old mid → Ready folder (files mid) → IsSound (files mid) → Does (Append (part_of folder 0) bytes) mid new result → Through (Writes folder (files old)) old new
writes_on folder bytes old mid new result so_far ready sound does =
    let outside : StandsOutside folder (files old) (files mid) = at_end (Writes folder (files old)) (StandsOutside folder (files old)) old mid so_far (λ q apart. refl) (λ s t writes. writes.outside.1) in
    goes_on (Writes folder (files old)) old mid new (Append (part_of folder 0) bytes) result so_far does sound (λ t steps. writes_append folder bytes (files old) (files mid) t ready outside steps)

-- ---- right after the folder was opened

pub opened_writes : (folder : Names) (old mid : Told) → Through (Opens folder (files old)) old mid → Through (Writes folder (files old)) old mid
opened_writes folder old mid =
    weaker (Opens folder (files old)) (Writes folder (files old)) old mid (writes_open folder (files old))

pub ready_opened : (folder : Names) (old mid : Told) → IsOpen (files old) folder → Through (Opens folder (files old)) old mid → IsEmpty folder (files mid) → Ready folder (files mid)
ready_opened folder old mid is_open steps empty =
    ready_empty folder (files old) (files mid) is_open (at_end (Opens folder (files old)) (StandsOutside folder (files old)) old mid steps (λ q apart. refl) (λ s t opens. opens.less.1.outside)) empty

pub begun_is_empty : (folder : Names) (s t : State) → IsEmpty folder s → t ≡ after_append (part_of folder 0) [] s → (t (part_of folder 0)).now ≡ Some []
begun_is_empty folder s t empty is =
    ap (λ (u : State). (u (part_of folder 0)).now) is ∙ ap (λ (h : Held). h.now) (appended_at (part_of folder 0) [] s (part_of folder 0) (same_path-refl (part_of folder 0))) ∙ ap (λ (h : Held). (appended [] h).now) (empty (part_of folder 0) (under-append folder (part_name 0 ∷ [])))
