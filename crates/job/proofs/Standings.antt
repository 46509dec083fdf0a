-- What the directory has for tasks, through changes at the folders of one of them.
use Rattle.std.proofs.Common.{◌≡◌, ◌≢◌, ℕ, ◌+◌, ◌<◌, ◌≤◌, ⊎_elim, true, false, List, length, set, Some, sym, ap, ◌∙◌, subst, arith}
use Rattle.std.proofs.lemmas.Bool.{cases_eq}
use Rattle.peg_base.specs.Names.{Names, under, same_path}
use Rattle.peg_base.proofs.Under.{under-refl, under-trans}
use Rattle.dir_disk.specs.State.{State, Held, bytes_of}
use Rattle.dir_disk.specs.Children.{Child}
use Rattle.task_core.specs.Board.{Board, Tried, Open, Finished, with_tried, tried_at}
use Rattle.task_core.proofs.TriedLemmas.{set_same, set_other}
use Rattle.job.specs.Work.{Work, HomesApart, IsSmall, IsAttempt, IsLocal, input_at, folder_at, output_at, home_at, result_at, text_at}
use Rattle.job.specs.Children.{task_no}
use Rattle.job.specs.Standing.{IsOpenFrom, IsMade, TaskStands, AreFed}
use Rattle.job.proofs.Places.{Touches, outside_above, output_below, result_below, folder_not_number, home_not_folder, folder_not_input, far_folder, far_home, far_input, far_above, beside_outside}
use Rattle.job.proofs.Transfers.{start_same, open_same, no_file_same, only_same}
use Rattle.job.proofs.Listing.{each_map}

-- ---- other tasks

pub text_far : (w : Work) → HomesApart w → (t k : ℕ) (s u : State) → IsLocal w t s u → text_at w u k ≡ text_at w s k
text_far w homes t k s u same =
    ap (λ (h : Held). bytes_of h.now) (same (input_at w k) (far_input w homes t k))

open_far : (w : Work) → HomesApart w → (t k next : ℕ) (s u : State) → t < 1000000 → k < 1000000 → k ≢ t → IsLocal w t s u → IsOpenFrom w s k next → IsOpenFrom w u k next
open_far w homes t k next s u small other differ same open_from =
    record {
      starts = λ b late is. start_same s u (input_at w k) (output_at w k b) (same (input_at w k) (far_input w homes t k)) (λ q over. same q (far_above w t (output_at w k b) q (far_folder w homes t k b (output_at w k b) small other is differ (output_below w k b)) over)) (λ q deeper. same q (far_folder w homes t k b q small other is differ (under-trans (folder_at w k b) (output_at w k b) q (output_below w k b) deeper))) (open_from.starts b late is);
      bare = λ b is. only_same s u (folder_at w k b) (output_at w k b) (λ q deeper proper. same q (far_folder w homes t k b q small other is differ deeper)) (open_from.bare b is);
      empty = no_file_same s u (home_at w k) (λ q deeper. same q (far_home w homes t k q small other differ deeper)) open_from.empty;
      is_open = open_same s u (home_at w k) (λ q over proper. same q (far_above w t (home_at w k) q (far_home w homes t k (home_at w k) small other differ (under-refl (home_at w k))) over)) open_from.is_open;
    }

made_far : (w : Work) → HomesApart w → (gives : List (List ℕ) → List ℕ → List ℕ) (t k : ℕ) (s u : State) → t < 1000000 → k < 1000000 → k ≢ t → IsLocal w t s u → IsMade w gives s s k → IsMade w gives u u k
made_far w homes gives t k s u small other differ same made =
    let there = same (result_at w k) (far_home w homes t k (result_at w k) small other differ (result_below w k)) in
    record {
      output = ap (λ (h : Held). h.now) there ∙ made.output ∙ ap (λ (text : List ℕ). Some (gives w.words text)) (sym (text_far w homes t k s u same));
      alone = only_same s u (home_at w k) (result_at w k) (λ q deeper proper. same q (far_home w homes t k q small other differ deeper)) made.alone;
    }

pub stands_far : (w : Work) → HomesApart w → (gives : List (List ℕ) → List ℕ → List ℕ) (t k : ℕ) (s u : State) (task : Tried) → t < 1000000 → k < 1000000 → k ≢ t → IsLocal w t s u → TaskStands w gives s k task → TaskStands w gives u k task
stands_far w homes gives t k s u (Open n rs) small other differ same stands = open_far w homes t k n s u small other differ same stands
stands_far w homes gives t k s u (Finished rs) small other differ same stands = made_far w homes gives t k s u small other differ same stands

pub fed_far : (w : Work) → HomesApart w → (t : ℕ) (s u : State) (cs : List Child) → IsLocal w t s u → AreFed w s cs → AreFed w u cs
fed_far w homes t s u cs same fed =
    each_map (λ c. c.given ≡ text_at w s (task_no c)) (λ c. c.given ≡ text_at w u (task_no c)) cs (λ c is. is ∙ sym (text_far w homes t (task_no c) s u same)) fed

-- ---- the task itself

-- what else is in the folder of an attempt is no output of another attempt either
other_output : (w : Work) (t a b : ℕ) (q : Names) → t < 1000000 → IsAttempt a → IsAttempt b → under (folder_at w t b) q ≡ true → same_path (output_at w t b) q ≡ false → same_path (output_at w t a) q ≡ false
other_output w t a b q small number is deeper proper =
    ⊎_elim (λ (same : b ≡ a). subst (λ (c : ℕ). same_path (output_at w t c) q ≡ false) same proper) (λ (differ : b ≡ a → ⊥). beside_outside w t a q (folder_not_number w t b a q small is number differ deeper)) (cases_eq b a)

pub open_touched : (w : Work) (t a next after : ℕ) (s u : State) → IsSmall w → t < 1000000 → IsAttempt a → a + 1 ≤ after → next ≤ after → Touches w t a s u → IsOpenFrom w s t next → IsOpenFrom w u t after
open_touched w t a next after s u limits small number later more touches open_from =
    record {
      starts = λ b late is.
          let differ : b ≢ a = λ same. absurd (omega (arith, same, late, later)) in
          start_same s u (input_at w t) (output_at w t b) (touches (input_at w t) (beside_outside w t a (input_at w t) (folder_not_input w t t a))) (λ q over. touches q (beside_outside w t a q (outside_above (folder_at w t a) (output_at w t b) q (folder_not_number w t b a (output_at w t b) small is number differ (output_below w t b)) over))) (λ q deeper. touches q (beside_outside w t a q (folder_not_number w t b a q small is number differ (under-trans (folder_at w t b) (output_at w t b) q (output_below w t b) deeper)))) (open_from.starts b (omega (arith, late, more)) is);
      bare = λ b is. only_same s u (folder_at w t b) (output_at w t b) (λ q deeper proper. touches q (other_output w t a b q small number is deeper proper)) (open_from.bare b is);
      empty = no_file_same s u (home_at w t) (λ q deeper. touches q (beside_outside w t a q (home_not_folder w limits.homes t t a q deeper))) open_from.empty;
      is_open = open_same s u (home_at w t) (λ q over proper. touches q (beside_outside w t a q (outside_above (folder_at w t a) (home_at w t) q (home_not_folder w limits.homes t t a (home_at w t) (under-refl (home_at w t))) over))) open_from.is_open;
    }

-- a task that is done, where another attempt of it writes
pub made_touched : (w : Work) → HomesApart w → (gives : List (List ℕ) → List ℕ → List ℕ) (t a : ℕ) (s u : State) → Touches w t a s u → IsMade w gives s s t → IsMade w gives u u t
made_touched w homes gives t a s u touches made =
    let home = λ (q : Names) (deeper : under (home_at w t) q ≡ true). touches q (beside_outside w t a q (home_not_folder w homes t t a q deeper)) in
    let text = ap (λ (h : Held). bytes_of h.now) (touches (input_at w t) (beside_outside w t a (input_at w t) (folder_not_input w t t a))) in
    record {
      output = ap (λ (h : Held). h.now) (home (result_at w t) (result_below w t)) ∙ made.output ∙ ap (λ (x : List ℕ). Some (gives w.words x)) (sym text);
      alone = only_same s u (home_at w t) (result_at w t) (λ q deeper proper. home q deeper) made.alone;
    }

-- ---- all tasks

pub tasks_stand : (w : Work) → HomesApart w → (gives : List (List ℕ) → List ℕ → List ℕ) (m : Board) (t : ℕ) (v : Tried) (s u : State) → w.count ≤ 524288 → length m.tasks ≡ w.count → t < w.count → IsLocal w t s u
    → ((k : ℕ) → k < w.count → TaskStands w gives s k (tried_at m.tasks k)) → TaskStands w gives u t v → (k : ℕ) → k < w.count → TaskStands w gives u k (tried_at (with_tried m t v).tasks k)
tasks_stand w homes gives m t v s u few size below same stands new k within =
    let inside : t < length m.tasks = omega (arith, size, below) in
    ⊎_elim (λ (is : t ≡ k). subst (λ (j : ℕ). TaskStands w gives u j (tried_at (set m.tasks t v) j)) is (subst (λ (x : Tried). TaskStands w gives u t x) (sym (set_same m.tasks t v inside)) new)) (λ (differ : t ≡ k → ⊥). subst (λ (x : Tried). TaskStands w gives u k x) (sym (set_other m.tasks t k v inside differ)) (stands_far w homes gives t k s u (tried_at m.tasks k) (omega (arith, few, below)) (omega (arith, few, within)) (λ is. differ (sym is)) same (stands k within))) (cases_eq t k)

-- the same machine, with another state at the folders of one task
pub tasks_stay : (w : Work) → HomesApart w → (gives : List (List ℕ) → List ℕ → List ℕ) (m : Board) (t : ℕ) (s u : State) → w.count ≤ 524288 → t < w.count → IsLocal w t s u
    → ((k : ℕ) → k < w.count → k ≢ t → TaskStands w gives s k (tried_at m.tasks k)) → TaskStands w gives u t (tried_at m.tasks t) → (k : ℕ) → k < w.count → TaskStands w gives u k (tried_at m.tasks k)
tasks_stay w homes gives m t s u few below same stands new k within =
    ⊎_elim (λ (is : t ≡ k). subst (λ (j : ℕ). TaskStands w gives u j (tried_at m.tasks j)) is new) (λ (differ : t ≡ k → ⊥). stands_far w homes gives t k s u (tried_at m.tasks k) (omega (arith, few, below)) (omega (arith, few, within)) (λ is. differ (sym is)) same (stands k within (λ is. differ (sym is)))) (cases_eq t k)
