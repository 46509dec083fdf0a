-- What the directory has for tasks, through starts, ends and commits.
use Rattle.std.specs.List.{AllByRecursion}
use Rattle.std.proofs.lemmas.Bool.{cases_eq}
use Rattle.std.proofs.Common.{⊎_elim, ◌≡◌, ◌≢◌, ℕ, ◌+◌, ◌<◌, ◌≤◌, Bool, true, false, cond, List, [], ◌∷◌, ◌++◌, length, sym, ap, ◌∙◌, subst, arith}
use Rattle.peg_base.specs.Names.{Names, under, same_path}
use Rattle.dir_disk.specs.State.{State, Held, Member, Content}
use Rattle.dir_disk.specs.Children.{Child, CanStart, OnlyAt, lent_out, after_start, loans_of}
use Rattle.dir_disk.specs.Lent.{Loan, IsFree, IsNoOutput}
use Rattle.task_core.specs.Board.{Board, Tried, Open, with_tried, tried_at, IsNext}
use Rattle.task_core.proofs.TriedLemmas.{below_from_next, below_from_runs, number_of_next, number_of_running}
use Rattle.job.specs.Work.{Work, IsAttempt, input_at, folder_at, output_at, home_at, text_at}
use Rattle.job.specs.Children.{task_no, number_no, IsChildOf, AreChildrenOf}
use Rattle.job.specs.Standing.{IsOpenFrom, TaskStands, HasWork}
use Rattle.peg_base.proofs.Under.{under-trans}
use Rattle.job.proofs.Places.{Touches, not_under, both_ways, not_same, output_below, folder_not_folder, folder_not_number, folder_not_input, folder_not_home, home_not_input, touches_local}
use Rattle.job.proofs.Listing.{each_map, each_both, each_push, free_loans, no_output_loans}
use Rattle.job.proofs.Fitting.{IsNew, none_of}
use Rattle.job.proofs.Standings.{text_far, fed_far, open_touched, tasks_stand}

-- ---- what the calls of a site leave at other paths than the output

pub held_same : (h k : Held) → h.now ≡ k.now → h.may ≡ k.may → h ≡ k
held_same h k now may =
    let first : (let x : Held = record { now = h.now; may = h.may } in let y : Held = record { now = k.now; may = h.may } in x ≡ y) = ap (λ (c : Content). let x : Held = record { now = c; may = h.may } in x) now in
    let second : (let x : Held = record { now = k.now; may = h.may } in let y : Held = record { now = k.now; may = k.may } in x ≡ y) = ap (λ (m : List Member). let x : Held = record { now = k.now; may = m } in x) may in
    first ∙ second

started_other : (output : Names) (s : State) (q : Names) → same_path output q ≡ false → after_start output s q ≡ s q
started_other output s q other = ap (λ (b : Bool). cond b (lent_out (s q)) (s q)) other

pub touches_started : (w : Work) (t a : ℕ) (output : Names) (s u : State) → output ≡ output_at w t a → u ≡ after_start output s → Touches w t a s u
touches_started w t a output s u is new q other =
    let there : same_path output q ≡ false = ap (λ (p : Names). same_path p q) is ∙ other in
    ap (λ (state : State). state q) new ∙ started_other output s q there

pub touches_refused : (w : Work) (t a : ℕ) (output : Names) (s u : State) → output ≡ output_at w t a → OnlyAt output (after_start output s) u → Touches w t a s u
touches_refused w t a output s u is only q other =
    let there : same_path output q ≡ false = ap (λ (p : Names). same_path p q) is ∙ other in
    held_same (u q) (after_start output s q) (only.others q there) (only.may q) ∙ started_other output s q there

pub touches_left : (w : Work) (t a : ℕ) (output : Names) (s u : State) → output ≡ output_at w t a → OnlyAt output s u → Touches w t a s u
touches_left w t a output s u is only q other =
    let there : same_path output q ≡ false = ap (λ (p : Names). same_path p q) is ∙ other in
    held_same (u q) (s q) (only.others q there) (only.may q)

-- ---- what a start needs

pub number_of : (w : Work) (m : Board) (t a : ℕ) (cs : List Child) → IsNext m.tasks t a → AreChildrenOf w m cs → IsAttempt a
number_of w m t a cs may fits =
    let number = number_of_next m.tasks t a fits.numbered may in record { first = number.0; last = number.1 }

pub below_of : (w : Work) (m : Board) (t a : ℕ) (cs : List Child) → IsNext m.tasks t a → AreChildrenOf w m cs → t < w.count
below_of w m t a cs may fits =
    omega (arith, below_from_next m.tasks t a may, fits.size)

pub can_start : (w : Work) (gives : List (List ℕ) → List ℕ → List ℕ) (m : Board) (t a : ℕ) (cs : List Child) (s : State) (input output : Names) → IsNext m.tasks t a → AreChildrenOf w m cs → input ≡ input_at w t → output ≡ output_at w t a → HasWork w gives s m cs → CanStart s input output
can_start w gives m t a cs s input output may fits input_is output_is stands =
    let here : IsOpenFrom w s t a = subst (λ (x : Tried). TaskStands w gives s t x) may.is (stands.tasks t (below_of w m t a cs may fits)) in
    let can = here.starts a (omega arith) (number_of w m t a cs may fits) in
    subst (λ (p : Names). CanStart s p output) (sym input_is) (subst (λ (p : Names). CanStart s (input_at w t) p) (sym output_is) can)

-- the folders of two attempts are apart
folders_apart : (w : Work) (t u a b : ℕ) (q : Names) → t < 1000000 → u < 1000000 → IsAttempt a → IsAttempt b → (t ≡ u → a ≢ b) → under (folder_at w t a) q ≡ true → under (folder_at w u b) q ≡ false
folders_apart w t u a b q small below first second differ within =
    ⊎_elim
    (λ (same : t ≡ u). folder_not_number w u a b q below first second (differ same) (subst (λ (k : ℕ). under (folder_at w k a) q ≡ true) same within))
    (λ (others : t ≡ u → ⊥). folder_not_folder w t u a b q small below first second others within)
    (cases_eq t u)

-- the children of other attempts neither read nor write in the folder of an attempt
away : (w : Work) (tasks : List Tried) (t a : ℕ) (c : Child) (q : Names) → w.count ≤ 524288 → length tasks ≡ w.count → t < w.count → IsAttempt a → under (folder_at w t a) q ≡ true → IsChildOf w tasks c → (task_no c ≡ t → number_no c ≢ a) → IsAttempt (number_no c) → (under q c.input ≡ false) × (under q c.output ≡ false)
away w tasks t a c q few size below number within is differ number_too =
    let small : task_no c < 1000000 = omega (arith, few, size, below_from_runs tasks (task_no c) (number_no c) is.runs) in
    let input = λ (over : under q (input_at w (task_no c)) ≡ true). both_ways (folder_at w t a) (input_at w (task_no c)) (under-trans (folder_at w t a) q (input_at w (task_no c)) within over) (folder_not_input w t (task_no c) a) in
    let output = λ (over : under q (output_at w (task_no c) (number_no c)) ≡ true). both_ways (folder_at w t a) (output_at w (task_no c) (number_no c)) (under-trans (folder_at w t a) q (output_at w (task_no c) (number_no c)) within over) (folders_apart w (task_no c) t (number_no c) a (output_at w (task_no c) (number_no c)) small (omega (arith, few, below)) number_too number differ (output_below w (task_no c) (number_no c))) in
    (not_under q c.input (λ over. input (subst (λ (p : Names). under q p ≡ true) is.input over)), not_under q c.output (λ over. output (subst (λ (p : Names). under q p ≡ true) is.output over)))

numbered_child : (w : Work) (m : Board) (cs : List Child) (c : Child) → AreChildrenOf w m cs → IsChildOf w m.tasks c → IsAttempt (number_no c)
numbered_child w m cs c fits is =
    let number = number_of_running (tried_at m.tasks (task_no c)) (number_no c) (fits.numbered (task_no c)) is.runs in record { first = number.0; last = number.1 }

-- where no child is of an attempt, its folder is free; and so is that of each task
pub free_folder : (w : Work) (m : Board) (t a : ℕ) (cs : List Child) (q : Names) → AreChildrenOf w m cs → t < w.count → IsAttempt a → AllByRecursion (λ c. task_no c ≡ t → number_no c ≢ a) cs → under (folder_at w t a) q ≡ true → IsFree (loans_of cs) q
free_folder w m t a cs q fits below number rests within =
    free_loans q cs (each_map (λ c. IsChildOf w m.tasks c × (task_no c ≡ t → number_no c ≢ a)) (λ c. (under q c.input ≡ false) × (under q c.output ≡ false)) cs (λ c both. away w m.tasks t a c q fits.small.few fits.size below number within both.0 both.1 (numbered_child w m cs c fits both.0)) (each_both (IsChildOf w m.tasks) (λ c. task_no c ≡ t → number_no c ≢ a) cs fits.each rests))

pub free_home : (w : Work) (m : Board) (t : ℕ) (cs : List Child) → AreChildrenOf w m cs → IsFree (loans_of cs) (home_at w t)
free_home w m t cs fits =
    free_loans (home_at w t) cs (each_map (IsChildOf w m.tasks) (λ c. (under (home_at w t) c.input ≡ false) × (under (home_at w t) c.output ≡ false)) cs (λ c is. (subst (λ (p : Names). under (home_at w t) p ≡ false) (sym is.input) (home_not_input w fits.small.homes t (task_no c)), subst (λ (p : Names). under (home_at w t) p ≡ false) (sym is.output) (folder_not_home w fits.small.homes (task_no c) t (number_no c) (output_at w (task_no c) (number_no c)) (output_below w (task_no c) (number_no c))))) fits.each)

pub free_output : (w : Work) (m : Board) (t a : ℕ) (cs : List Child) (lent : List Loan) (output : Names) → lent ≡ loans_of cs → output ≡ output_at w t a → IsNext m.tasks t a → AreChildrenOf w m cs → IsFree lent output
free_output w m t a cs lent output lent_is output_is may fits =
    let free = free_folder w m t a cs (output_at w t a) fits (below_of w m t a cs may fits) (number_of w m t a cs may fits) (none_of w m.tasks t a cs fits.numbered may fits.each) (output_below w t a) in
    subst (λ (l : List Loan). IsFree l output) (sym lent_is) (subst (λ (p : Names). IsFree (loans_of cs) p) (sym output_is) free)

pub input_is_no_output : (w : Work) (m : Board) (t : ℕ) (cs : List Child) (lent : List Loan) (input : Names) → lent ≡ loans_of cs → input ≡ input_at w t → AreChildrenOf w m cs → IsNoOutput lent input
input_is_no_output w m t cs lent input lent_is input_is fits =
    let each = each_map (IsChildOf w m.tasks) (λ c. same_path (input_at w t) c.output ≡ false) cs (λ c is. not_same (input_at w t) c.output (λ same. both_ways (folder_at w (task_no c) (number_no c)) (input_at w t) (subst (λ (p : Names). under (folder_at w (task_no c) (number_no c)) p ≡ true) (sym (same ∙ is.output)) (output_below w (task_no c) (number_no c))) (folder_not_input w (task_no c) t (number_no c)))) fits.each in
    subst (λ (l : List Loan). IsNoOutput l input) (sym lent_is) (subst (λ (p : Names). IsNoOutput (loans_of cs) p) (sym input_is) (no_output_loans (input_at w t) cs each))

-- ---- starts

pub stands_started : (w : Work) (gives : List (List ℕ) → List ℕ → List ℕ) (m : Board) (t a : ℕ) (child : Child) (cs : List Child) (s u : State) (may : IsNext m.tasks t a) → AreChildrenOf w m cs → IsNew w (text_at w s t) t a child → Touches w t a s u → HasWork w gives s m cs → HasWork w gives u (with_tried m t (Open (a + 1) (a ∷ may.running))) (cs ++ child ∷ [])
stands_started w gives m t a child cs s u may fits new touches stands =
    let below = below_of w m t a cs may fits in
    let number = number_of w m t a cs may fits in
    let local = touches_local w t a s u number touches in
    let here : IsOpenFrom w s t a = subst (λ (x : Tried). TaskStands w gives s t x) may.is (stands.tasks t below) in
    record {
      tasks = tasks_stand w fits.small.homes gives m t (Open (a + 1) (a ∷ may.running)) s u fits.small.few fits.size below local stands.tasks (open_touched w t a a (a + 1) s u fits.small (omega (arith, fits.small.few, below)) number (omega arith) (omega arith) touches here);
      fed = each_push (λ c. c.given ≡ text_at w u (task_no c)) cs child (fed_far w fits.small.homes t s u cs local stands.fed) (new.given ∙ sym (text_far w fits.small.homes t t s u local) ∙ ap (λ (k : ℕ). text_at w u k) (sym new.task));
    }

pub stands_refused : (w : Work) (gives : List (List ℕ) → List ℕ → List ℕ) (m : Board) (t a : ℕ) (cs : List Child) (s u : State) (may : IsNext m.tasks t a) → AreChildrenOf w m cs → Touches w t a s u → HasWork w gives s m cs → HasWork w gives u (with_tried m t (Open (a + 1) may.running)) cs
stands_refused w gives m t a cs s u may fits touches stands =
    let below = below_of w m t a cs may fits in
    let number = number_of w m t a cs may fits in
    let local = touches_local w t a s u number touches in
    let here : IsOpenFrom w s t a = subst (λ (x : Tried). TaskStands w gives s t x) may.is (stands.tasks t below) in
    record {
      tasks = tasks_stand w fits.small.homes gives m t (Open (a + 1) may.running) s u fits.small.few fits.size below local stands.tasks (open_touched w t a a (a + 1) s u fits.small (omega (arith, fits.small.few, below)) number (omega arith) (omega arith) touches here);
      fed = fed_far w fits.small.homes t s u cs local stands.fed;
    }

-- the same facts, of a machine and of children that are the same
pub stands_is : (w : Work) (gives : List (List ℕ) → List ℕ → List ℕ) (state : State) (m n : Board) (cs ds : List Child) → n ≡ m → ds ≡ cs → HasWork w gives state m cs → HasWork w gives state n ds
stands_is w gives state m n cs ds machine children stands =
    subst (λ (k : Board). HasWork w gives state k ds) (sym machine) (subst (λ (l : List Child). HasWork w gives state m l) (sym children) stands)
