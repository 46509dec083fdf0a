-- The children fit the machine, step by step.
use Rattle.std.proofs.Common.{◌≡◌, ◌≢◌, ℕ, ◌+◌, ◌<◌, ⊎_elim, Bool, true, false, eqb, ◌||◌, List, [], ◌∷◌, ◌++◌, length, set, refl, sym, ap, ◌∙◌, subst, arith, length-set, length-append}
use Rattle.std.specs.List.{AllByRecursion}
use Rattle.std.proofs.lemmas.Bool.{cases_eq, eq-eqb}
use Rattle.std.proofs.lemmas.List.Sums.{sum_by-set}
use Rattle.dir_disk.specs.Children.{Child}
use Rattle.task_core.specs.Board.{Board, Tried, Open, Finished, tried_at, with_tried, has, running_in, runs, ended, IsNext, IsNumbered, AreNumbered, Runs}
use Rattle.task_core.proofs.TriedLemmas.{below_from_next, below_from_runs, set_same, set_other, numbered_set, started_numbered, refused_numbered, ended_numbered, ended_runs, ended_has}
use Rattle.job.specs.Work.{Work, input_at, output_at}
use Rattle.job.specs.Children.{task_no, number_no, AreOthers, IsChildOf, AreChildrenOf}
use Rattle.job.proofs.Listing.{each_map, each_both, each_push, each_split, apart_push, apart_split}

-- ---- the children

-- a child of attempt a of task t, where the input has these bytes
pub record IsNew (w : Work) (text : List ℕ) (t a : ℕ) (child : Child) : Type 0 where
  pub job : child.attempt.task.job ≡ w.folder
  pub phase : child.attempt.task.phase ≡ w.phase
  pub task : task_no child ≡ t
  pub number : number_no child ≡ a
  pub words : child.words ≡ w.words
  pub input : child.input ≡ input_at w t
  pub output : child.output ≡ output_at w t a
  pub given : child.given ≡ text

-- no child is of an attempt that is yet to be made
pub none_of : (w : Work) (tasks : List Tried) (t a : ℕ) (cs : List Child) → AreNumbered tasks → IsNext tasks t a → AllByRecursion (IsChildOf w tasks) cs → AllByRecursion (λ c. task_no c ≡ t → number_no c ≢ a) cs
none_of w tasks t a cs numbered next each =
    let here : IsNumbered (Open a next.running) = subst IsNumbered next.is (numbered t) in
    each_map (IsChildOf w tasks) (λ c. task_no c ≡ t → number_no c ≢ a) cs (λ c is same number.
    let was = here.2 (number_no c) (subst (λ (v : Tried). has (number_no c) (running_in v) ≡ true) next.is (subst (λ (u : ℕ). Runs tasks u (number_no c)) same is.runs)) in
    omega (arith, was.1, number)) each

child_stays : (w : Work) (tasks : List Tried) (t : ℕ) (v : Tried) (c : Child) → t < length tasks → IsChildOf w tasks c → (task_no c ≡ t → has (number_no c) (running_in v) ≡ true) → IsChildOf w (set tasks t v) c
child_stays w tasks t v c below is stays =
    record {
      job = is.job;
      phase = is.phase;
      words = is.words;
      input = is.input;
      output = is.output;
      runs = ⊎_elim (λ (same : t ≡ task_no c). subst (λ (x : Tried). has (number_no c) (running_in x) ≡ true) (sym (ap (λ (u : ℕ). tried_at (set tasks t v) u) (sym same) ∙ set_same tasks t v below)) (stays (sym same))) (λ (differ : t ≡ task_no c → ⊥). subst (λ (x : Tried). has (number_no c) (running_in x) ≡ true) (sym (set_other tasks t (task_no c) v below differ)) is.runs) (cases_eq t (task_no c));
    }

children_stay : (w : Work) (tasks : List Tried) (t : ℕ) (v : Tried) (cs : List Child) → t < length tasks → AllByRecursion (IsChildOf w tasks) cs → AllByRecursion (λ c. task_no c ≡ t → has (number_no c) (running_in v) ≡ true) cs → AllByRecursion (IsChildOf w (set tasks t v)) cs
children_stay w tasks t v cs below each stay =
    each_map (λ c. IsChildOf w tasks c × (task_no c ≡ t → has (number_no c) (running_in v) ≡ true)) (IsChildOf w (set tasks t v)) cs (λ c both. child_stays w tasks t v c below both.0 both.1) (each_both (IsChildOf w tasks) (λ c. task_no c ≡ t → has (number_no c) (running_in v) ≡ true) cs each stay)

-- what runs of the task, as it is
run_of_task : (w : Work) (tasks : List Tried) (t : ℕ) (v : Tried) (c : Child) → tried_at tasks t ≡ v → IsChildOf w tasks c → task_no c ≡ t → has (number_no c) (running_in v) ≡ true
run_of_task w tasks t v c is child same =
    subst (λ (x : Tried). has (number_no c) (running_in x) ≡ true) is (subst (λ (u : ℕ). Runs tasks u (number_no c)) same child.runs)

or_more : (x y : Bool) → y ≡ true → (x || y) ≡ true
or_more true y is = refl
or_more false y is = is

new_child : (w : Work) (tasks : List Tried) (text : List ℕ) (t a : ℕ) (rs : List ℕ) (child : Child) → t < length tasks → IsNew w text t a child → IsChildOf w (set tasks t (Open (a + 1) (a ∷ rs))) child
new_child w tasks text t a rs child below new =
    let v = Open (a + 1) (a ∷ rs) in
    let here : has a (running_in v) ≡ true = ap (λ (x : Bool). x || has a rs) (eq-eqb a a refl) in
    let named : has (number_no child) (running_in (tried_at (set tasks t v) t)) ≡ true = subst (λ (b : ℕ). has b (running_in (tried_at (set tasks t v) t)) ≡ true) (sym new.number) (subst (λ (x : Tried). has a (running_in x) ≡ true) (sym (set_same tasks t v below)) here) in
    record {
      job = new.job;
      phase = new.phase;
      words = new.words;
      input = new.input ∙ ap (λ (u : ℕ). input_at w u) (sym new.task);
      output = new.output ∙ ap (λ (u : ℕ). output_at w u a) (sym new.task) ∙ ap (λ (b : ℕ). output_at w (task_no child) b) (sym new.number);
      runs = subst (λ (u : ℕ). Runs (set tasks t v) u (number_no child)) (sym new.task) named;
    }

pub fits_start : (w : Work) (m : Board) (text : List ℕ) (t a : ℕ) (child : Child) (cs : List Child) (next : IsNext m.tasks t a) → AreChildrenOf w m cs → IsNew w text t a child → AreChildrenOf w (with_tried m t (Open (a + 1) (a ∷ next.running))) (cs ++ child ∷ [])
fits_start w m text t a child cs next fits new =
    let rs = next.running in
    let v = Open (a + 1) (a ∷ rs) in
    let below = below_from_next m.tasks t a next in
    let here : IsNumbered (Open a rs) = subst IsNumbered next.is (fits.numbered t) in
    let others = none_of w m.tasks t a cs fits.numbered next fits.each in
    let stay = each_map (IsChildOf w m.tasks) (λ c. task_no c ≡ t → has (number_no c) (running_in v) ≡ true) cs (λ c is same. or_more (eqb a (number_no c)) (has (number_no c) rs) (run_of_task w m.tasks t (Open a rs) c next.is is same)) fits.each in
    let more = rw next.is at (sum_by-set runs m.tasks t v (Finished []) below) in
    record {
      small = fits.small;
      size = length-set m.tasks t v ∙ fits.size;
      numbered = numbered_set m.tasks t v below (started_numbered a rs next.left here) fits.numbered;
      each = each_push (IsChildOf w (set m.tasks t v)) cs child (children_stay w m.tasks t v cs below fits.each stay) (new_child w m.tasks text t a rs child below new);
      apart = apart_push cs child fits.apart (each_map (λ c. task_no c ≡ t → number_no c ≢ a) (λ c. AreOthers c child) cs (λ c differ same number. differ (same ∙ new.task) (number ∙ new.number)) others);
      count = omega (arith, fits.count, more, length-append cs (child ∷ []));
    }

pub fits_refused : (w : Work) (m : Board) (t a : ℕ) (cs : List Child) (next : IsNext m.tasks t a) → AreChildrenOf w m cs → AreChildrenOf w (with_tried m t (Open (a + 1) next.running)) cs
fits_refused w m t a cs next fits =
    let rs = next.running in
    let v = Open (a + 1) rs in
    let below = below_from_next m.tasks t a next in
    let here : IsNumbered (Open a rs) = subst IsNumbered next.is (fits.numbered t) in
    let stay = each_map (IsChildOf w m.tasks) (λ c. task_no c ≡ t → has (number_no c) (running_in v) ≡ true) cs (λ c is same. run_of_task w m.tasks t (Open a rs) c next.is is same) fits.each in
    let more = rw next.is at (sum_by-set runs m.tasks t v (Finished []) below) in
    record {
      small = fits.small;
      size = length-set m.tasks t v ∙ fits.size;
      numbered = numbered_set m.tasks t v below (refused_numbered a rs next.left here) fits.numbered;
      each = children_stay w m.tasks t v cs below fits.each stay;
      apart = fits.apart;
      count = omega (arith, fits.count, more);
    }

pub fits_end : (w : Work) (m : Board) (ok : Bool) (pre : List Child) (c : Child) (post : List Child) → AreChildrenOf w m (pre ++ c ∷ post) → AreChildrenOf w (with_tried m (task_no c) (ended (number_no c) ok (tried_at m.tasks (task_no c)))) (pre ++ post)
fits_end w m ok pre c post fits =
    let here = each_split (IsChildOf w m.tasks) pre c post fits.each in
    let apart = apart_split pre c post fits.apart in
    let running = here.0.runs in
    let t = task_no c in
    let a = number_no c in
    let was = tried_at m.tasks t in
    let v = ended a ok was in
    let below = below_from_runs m.tasks t a running in
    let less = sum_by-set runs m.tasks t v (Finished []) below in
    let one = ended_runs was a ok running in
    let stay = each_map (λ d. IsChildOf w m.tasks d × AreOthers d c) (λ d. task_no d ≡ t → has (number_no d) (running_in v) ≡ true) (pre ++ post) (λ d both same. ended_has was a (number_no d) ok (both.1 same) (run_of_task w m.tasks t was d refl both.0 same)) (each_both (IsChildOf w m.tasks) (λ d. AreOthers d c) (pre ++ post) here.1 apart.0) in
    record {
      small = fits.small;
      size = length-set m.tasks t v ∙ fits.size;
      numbered = numbered_set m.tasks t v below (ended_numbered was a ok (fits.numbered t)) fits.numbered;
      each = children_stay w m.tasks t v (pre ++ post) below here.1 stay;
      apart = apart.1;
      count = omega (arith, fits.count, less, one, length-append pre (c ∷ post), length-append pre post);
    }
