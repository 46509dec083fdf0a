-- The parts of a job's folder are apart, and each finds its place empty.
use Rattle.std.proofs.Common.{◌≡◌, ◌≢◌, ℕ, ◌+◌, ◌<◌, ◌≤◌, Bool, true, false, ⊎_elim, List, [], ◌∷◌, ◌++◌, length, None, refl, sym, ◌∙◌, ap, subst, arith, length-append, append_assoc}
use Rattle.std.proofs.lemmas.Bool.{false≢true, cases_Bool, cases_lt}
use Rattle.peg_base.specs.Names.{Names, under, same_path, after_top}
use Rattle.peg_base.specs.declared.tasks.Phase.TheVariants.{Reduce}
use Rattle.peg_base.proofs.Under.{under-append, under-refl, under-trans, under-split, under-short, under-long, under-children, same_path-true}
use Rattle.dir_disk.specs.State.{Held, State, after_move}
use Rattle.dir_disk.specs.Calls.{Move, CanMove, HasFile}
use Rattle.dir_disk.proofs.Steps.{after_others, moved_into}
use Rattle.committer.specs.Paths.{success_name, temporary_name, part_name, task_name, success_of, part_of, temporary_of, task_of, task_part_of}
use Rattle.committer.specs.Commits.{StandsBeside, CanCommit, IsUnsealed, IsMovedUpTo}
use Rattle.committer.proofs.NamesApart.{part_not_temporary, success_not_temporary, part_not_success, parts_differ, tasks_differ}
use Rattle.committer.proofs.SealingLemmas.{above_child}
use Rattle.committer.proofs.CommitLemmas.{or_false}

-- ---- paths that are apart

pub not_true : (b : Bool) → (b ≡ true → ⊥) → b ≡ false
not_true true never = absurd (never refl)
not_true false never = refl

-- nothing is under two children of one path
pub children_differ : (top : Names) (n m : List ℕ) (a b q : Names) → n ≢ m → under (top ++ n ∷ a) q ≡ true → under (top ++ m ∷ b) q ≡ false
children_differ top n m a b q differ below =
    let rest : Names = after_top (top ++ n ∷ a) q in
    let is : q ≡ top ++ n ∷ (a ++ rest) = under-split (top ++ n ∷ a) q below ∙ append_assoc top (n ∷ a) rest in
    ap (λ (r : Names). under (top ++ m ∷ b) r) is ∙ under-children top m n b (a ++ rest) (λ same. differ (sym same))

pub parts_apart : (folder : Names) (j k : ℕ) (q : Names) → j < 100000 → k < 100000 → j ≢ k → under (part_of folder j) q ≡ true → under (part_of folder k) q ≡ false
parts_apart folder j k q small other differ =
    children_differ folder (part_name j) (part_name k) [] [] q (λ same. differ (parts_differ j k small other same))

pub task_part_below : (folder : Names) (k : ℕ) (q : Names) → under (task_part_of folder k) q ≡ true → under (task_of folder Reduce k) q ≡ true
task_part_below folder k q below =
    under-trans (task_of folder Reduce k) (task_part_of folder k) q (under-append (task_of folder Reduce k) (part_name k ∷ [])) below

pub task_below : (folder : Names) (k : ℕ) (q : Names) → under (task_part_of folder k) q ≡ true → under (temporary_of folder) q ≡ true
task_below folder k q below =
    under-trans (temporary_of folder) (task_of folder Reduce k) q (under-append (temporary_of folder) (task_name Reduce k ∷ [])) (task_part_below folder k q below)

pub task_parts_apart : (folder : Names) (j k : ℕ) (q : Names) → j < 100000 → k < 100000 → j ≢ k → under (task_part_of folder j) q ≡ true → under (task_part_of folder k) q ≡ false
task_parts_apart folder j k q small other differ below =
    let apart : under (task_of folder Reduce k) q ≡ false = children_differ (temporary_of folder) (task_name Reduce j) (task_name Reduce k) [] [] q (λ same. differ (tasks_differ Reduce j k (omega arith) (omega arith) same)) (task_part_below folder j q below) in
    not_true (under (task_part_of folder k) q) (λ deeper. false≢true (sym apart ∙ task_part_below folder k q deeper))

pub part_outside : (folder : Names) (k : ℕ) (q : Names) → under (part_of folder k) q ≡ true → under (temporary_of folder) q ≡ false
part_outside folder k q =
    children_differ folder (part_name k) temporary_name [] [] q (part_not_temporary k)

pub part_no_task : (folder : Names) (j k : ℕ) (q : Names) → under (part_of folder k) q ≡ true → under (task_part_of folder j) q ≡ false
part_no_task folder j k q below =
    not_true (under (task_part_of folder j) q) (λ deeper. false≢true (sym (part_outside folder k q below) ∙ task_below folder j q deeper))

pub task_no_part : (folder : Names) (j k : ℕ) (q : Names) → under (task_part_of folder k) q ≡ true → under (part_of folder j) q ≡ false
task_no_part folder j k q below =
    not_true (under (part_of folder j) q) (λ deeper. false≢true (sym (part_outside folder j q deeper) ∙ task_below folder k q below))

pub success_outside : (folder q : Names) → under (success_of folder) q ≡ true → under (temporary_of folder) q ≡ false
success_outside folder q =
    children_differ folder success_name temporary_name [] [] q success_not_temporary

pub success_no_part : (folder : Names) (k : ℕ) (q : Names) → under (success_of folder) q ≡ true → under (part_of folder k) q ≡ false
success_no_part folder k q =
    children_differ folder success_name (part_name k) [] [] q (λ same. part_not_success k (sym same))

pub success_no_task : (folder : Names) (k : ℕ) (q : Names) → under (success_of folder) q ≡ true → under (task_part_of folder k) q ≡ false
success_no_task folder k q below =
    not_true (under (task_part_of folder k) q) (λ deeper. false≢true (sym (success_outside folder q below) ∙ task_below folder k q deeper))

-- a child of the folder isn't above the folder, nor the folder
pub child_not_above : (folder : Names) (name : List ℕ) (q : Names) → under q folder ≡ true → under (folder ++ name ∷ []) q ≡ false
child_not_above folder name q above =
    let short : length q ≤ length folder = under-short q folder above in
    let long = length-append folder (name ∷ []) in
    under-long (folder ++ name ∷ []) q (omega (arith, short, long))

pub task_not_above : (folder : Names) (k : ℕ) (q : Names) → under q folder ≡ true → under (task_part_of folder k) q ≡ false
task_not_above folder k q above =
    not_true (under (task_part_of folder k) q) (λ deeper. false≢true (sym (child_not_above folder temporary_name q above) ∙ task_below folder k q deeper))

-- ---- one part more

pub moved_none : (folder : Names) (entry : State) → IsMovedUpTo folder 0 entry entry
moved_none folder entry =
    record { parts = λ part below. absurd (omega arith); others = λ q apart. refl }

-- what is at and under a part's place and under its task's place isn't moved by the parts before it
at_task : (folder : Names) (count : ℕ) (entry s : State) (q : Names) → count < 100000 → IsMovedUpTo folder count entry s → under (task_part_of folder count) q ≡ true → s q ≡ entry q
at_task folder count entry s q small moved below =
    moved.others q (λ part before. (task_parts_apart folder count part q small (omega arith) (λ same. omega (arith, same)) below, task_no_part folder part count q below))

at_place : (folder : Names) (count : ℕ) (entry s : State) (q : Names) → count < 100000 → IsMovedUpTo folder count entry s → under (part_of folder count) q ≡ true → s q ≡ entry q
at_place folder count entry s q small moved below =
    moved.others q (λ part before. (part_no_task folder part count q below, parts_apart folder count part q small (omega arith) (λ same. omega (arith, same)) below))

above_folder : (folder : Names) (count : ℕ) (entry s : State) (q : Names) → IsMovedUpTo folder count entry s → under q folder ≡ true → s q ≡ entry q
above_folder folder count entry s q moved above =
    moved.others q (λ part before. (task_not_above folder part q above, child_not_above folder (part_name part) q above))

now_of : (s entry : State) (q : Names) → s q ≡ entry q → (s q).now ≡ (entry q).now
now_of s entry q is = ap (λ (h : Held). h.now) is

place_is_empty : (folder : Names) (reducers part : ℕ) (entry : State) (q : Names) → CanCommit folder reducers entry → under (part_of folder part) q ≡ true → (entry q).now ≡ None
place_is_empty folder reducers part entry q can below =
    ap (λ (h : Held). h.now) (can.bare q (under-trans folder (part_of folder part) q (under-append folder (part_name part ∷ [])) below) (part_outside folder part q below))

pub none_above : (folder : Names) (reducers : ℕ) (entry : State) (q : Names) → CanCommit folder reducers entry → under q folder ≡ true → (entry q).now ≡ None
none_above folder reducers entry q can above =
    ⊎_elim (λ same. ap (λ (h : Held). h.now) (can.bare q (subst (λ (r : Names). under folder r ≡ true) (sym (same_path-true q folder same)) (under-refl folder)) (child_not_above folder temporary_name q above))) (λ other. can.is_open q above other) (cases_Bool (same_path q folder))

pub can_move_part : (folder : Names) (reducers count : ℕ) (entry s : State) → reducers ≤ 100000 → count < reducers → CanCommit folder reducers entry → IsMovedUpTo folder count entry s → CanMove s (task_part_of folder count) (part_of folder count)
can_move_part folder reducers count entry s few below can moved =
    let small : count < 100000 = omega arith in
    record {
      there = (task_part_of folder count, under-refl (task_part_of folder count), file_at (task_part_of folder count) (at_task folder count entry s (task_part_of folder count) small moved (under-refl (task_part_of folder count))) (can.parts count below));
      empty = λ q deeper. now_of s entry q (at_place folder count entry s q small moved deeper) ∙ place_is_empty folder reducers count entry q can deeper;
      is_open = λ q above other. let over : under q folder ≡ true = above_child q folder (part_name count) above other in now_of s entry q (above_folder folder count entry s q moved over) ∙ none_above folder reducers entry q can over;
      apart = (part_no_task folder count count (part_of folder count) (under-refl (part_of folder count)), task_no_part folder count count (task_part_of folder count) (under-refl (task_part_of folder count)));
      short = λ rest file. shorter rest (can.short count below (task_part_of folder count ++ rest) (under-append (task_part_of folder count) rest) (file_back (task_part_of folder count ++ rest) (at_task folder count entry s (task_part_of folder count ++ rest) small moved (under-append (task_part_of folder count) rest)) file));
    }
  where
    file_at : (q : Names) → s q ≡ entry q → HasFile entry q → HasFile s q
    file_at q is file = (file.0, ap (λ (h : Held). h.now) is ∙ file.1)

    file_back : (q : Names) → s q ≡ entry q → HasFile s q → HasFile entry q
    file_back q is file = (file.0, ap (λ (h : Held). h.now) (sym is) ∙ file.1)

    shorter : (rest : Names) → length (task_part_of folder count ++ rest) ≤ 8 → length (part_of folder count ++ rest) ≤ 8
    shorter rest long =
        let a = length-append (part_of folder count) rest in
        let b = length-append (task_part_of folder count) rest in
        let c = length-append folder (part_name count ∷ []) in
        let d = length-append folder (temporary_name ∷ []) in
        let e = length-append (temporary_of folder) (task_name Reduce count ∷ []) in
        let f = length-append (task_of folder Reduce count) (part_name count ∷ []) in
        omega arith

pub moved_more : (folder : Names) (reducers count : ℕ) (entry s t : State) → reducers ≤ 100000 → count < reducers → CanCommit folder reducers entry → IsMovedUpTo folder count entry s → t ≡ after_move (task_part_of folder count) (part_of folder count) s → IsMovedUpTo folder (count + 1) entry t
moved_more folder reducers count entry s t few below can moved is =
    let small : count < 100000 = omega arith in
    record {
      parts = λ part before rest. ap (λ (u : State). (u (part_of folder part ++ rest)).now) is ∙ ⊎_elim (λ earlier. now_of (after_move (task_part_of folder count) (part_of folder count) s) s (part_of folder part ++ rest) (after_others (Move (task_part_of folder count) (part_of folder count)) s (part_of folder part ++ rest) (or_false (under (task_part_of folder count) (part_of folder part ++ rest)) (under (part_of folder count) (part_of folder part ++ rest)) (part_no_task folder count part (part_of folder part ++ rest) (under-append (part_of folder part) rest)) (parts_apart folder part count (part_of folder part ++ rest) (omega arith) small (λ same. omega (arith, same)) (under-append (part_of folder part) rest)))) ∙ moved.parts part earlier rest) (λ last. let same : part ≡ count = omega (arith, before, last) in subst (λ (k : ℕ). (after_move (task_part_of folder count) (part_of folder count) s (part_of folder k ++ rest)).now ≡ (entry (task_part_of folder k ++ rest)).now) (sym same) (newest small rest)) (cases_lt part count);
      others = λ q apart. ap (λ (u : State). u q) is ∙ after_others (Move (task_part_of folder count) (part_of folder count)) s q (or_false (under (task_part_of folder count) q) (under (part_of folder count) q) (apart count (omega arith)).0 (apart count (omega arith)).1) ∙ moved.others q (λ part before. apart part (omega arith));
    }
  where
    newest : count < 100000 → (rest : Names) → (after_move (task_part_of folder count) (part_of folder count) s (part_of folder count ++ rest)).now ≡ (entry (task_part_of folder count ++ rest)).now
    newest small rest =
        let place = under-append (part_of folder count) rest in
        let none : (s (part_of folder count ++ rest)).now ≡ None = now_of s entry (part_of folder count ++ rest) (at_place folder count entry s (part_of folder count ++ rest) small moved place) ∙ place_is_empty folder reducers count entry (part_of folder count ++ rest) can place in
        moved_into (task_part_of folder count) (part_of folder count) s rest none ∙ now_of s entry (task_part_of folder count ++ rest) (at_task folder count entry s (task_part_of folder count ++ rest) small moved (under-append (task_part_of folder count) rest))

-- ---- what stands meanwhile

pub unsealed_start : (folder : Names) (entry : State) → IsUnsealed folder entry entry
unsealed_start folder entry = record { success = refl; outside = λ q apart. refl }

pub unsealed_part : (folder : Names) (part : ℕ) (entry s t : State) → IsUnsealed folder entry s → StandsBeside (task_part_of folder part) (part_of folder part) s t → IsUnsealed folder entry t
unsealed_part folder part entry s t unsealed stands =
    record {
      success = stands (success_of folder) (success_no_task folder part (success_of folder) (under-refl (success_of folder))) (success_no_part folder part (success_of folder) (under-refl (success_of folder))) ∙ unsealed.success;
      outside = λ q apart. stands q (not_true (under (task_part_of folder part) q) (λ deeper. false≢true (sym apart ∙ under-trans folder (temporary_of folder) q (under-append folder (temporary_name ∷ [])) (task_below folder part q deeper)))) (not_true (under (part_of folder part) q) (λ deeper. false≢true (sym apart ∙ under-trans folder (part_of folder part) q (under-append folder (part_name part ∷ [])) deeper))) ∙ unsealed.outside q apart;
    }
