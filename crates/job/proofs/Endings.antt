-- What the directory has for tasks, through the end of a child and the commit of its attempt.
use Rattle.std.specs.List.{AllByRecursion}
use Rattle.std.proofs.Common.{refl, ◌≡◌, ◌≢◌, ℕ, ℤ, pos, negsuc, ◌<◌, ◌≤◌, ⊎_elim, Bool, true, false, ◌&&◌, not, List, ◌∷◌, ◌++◌, length, Some, sym, ap, ◌∙◌, subst, arith, eqb-true}
use Rattle.std.proofs.lemmas.Bool.{false≢true}
use Rattle.peg_base.specs.Names.{Names}
use Rattle.peg_base.proofs.Under.{under-refl}
use Rattle.peg_base.specs.declared.tasks.Attempt.{Attempt}
use Rattle.dir_disk.specs.State.{State}
use Rattle.dir_disk.specs.Moments.{Told, files}
use Rattle.dir_disk.specs.Children.{Child, Seen, OnlyAt, Ends, Leaves, loans_of}
use Rattle.dir_disk.specs.Lent.{Loan, IsFree}
use Rattle.committer.specs.Commits.{StandsBeside}
use Rattle.task_core.specs.Board.{Board, Tried, Open, Finished, Runs, IsNumbered, has, without, running_in, becomes_done, ended as ended_as, with_tried, tried_at, after, NoneDead, End, is_success}
use Rattle.task_core.proofs.TriedLemmas.{below_from_runs, number_of_running, set_same, set_other}
use Rattle.job.specs.Work.{Work, HomesApart, IsSmall, IsAttempt, IsLocal, folder_at, output_at, home_at, text_at}
use Rattle.job.specs.Children.{task_no, number_no, IsChildOf, AreChildrenOf}
use Rattle.job.specs.Standing.{IsMoved, IsOpenFrom, IsMade, TaskStands, AreFed, HasWork, Delivers}
use Rattle.job.specs.Going.{has_dead}
use Rattle.job.proofs.Goings.{none_has_dead, none_from_has_dead, none_dead_before, both_true, not_both}
use Rattle.job.proofs.Places.{Touches, touches_local}
use Rattle.job.proofs.Listing.{each_split, apart_split}
use Rattle.job.proofs.Fitting.{fits_end}
use Rattle.job.proofs.Standings.{text_far, fed_far, stands_far, open_touched, made_touched, tasks_stand, tasks_stay}
use Rattle.job.proofs.Steps.{touches_left, free_folder, free_home}

-- the machine after the end of an attempt
abbrev pub ended : Board → Attempt → ℤ → Board
ended m attempt status = after m (End attempt.task.task attempt.number status)

split_fits : (w : Work) (m : Board) (attempt : Attempt) (status : ℤ) (child : Child) (old new : Seen) → AreChildrenOf w m old.running → (ends : Ends attempt status child old new) → AreChildrenOf w m (ends.before ++ child ∷ ends.after)
split_fits w m attempt status child old new fits ends = subst (λ (cs : List Child). AreChildrenOf w m cs) ends.was fits

pub child_of : (w : Work) (m : Board) (attempt : Attempt) (status : ℤ) (child : Child) (old new : Seen) → AreChildrenOf w m old.running → Ends attempt status child old new → IsChildOf w m.tasks child
child_of w m attempt status child old new fits ends =
    (each_split (IsChildOf w m.tasks) ends.before child ends.after (split_fits w m attempt status child old new fits ends).each).0

pub end_runs : (w : Work) (m : Board) (attempt : Attempt) (status : ℤ) (child : Child) (old new : Seen) → AreChildrenOf w m old.running → Ends attempt status child old new → Runs m.tasks attempt.task.task attempt.number
end_runs w m attempt status child old new fits ends =
    subst (λ (x : Attempt). Runs m.tasks x.task.task x.number) ends.same (child_of w m attempt status child old new fits ends).runs

pub end_number : (w : Work) (m : Board) (attempt : Attempt) (status : ℤ) (child : Child) (old new : Seen) → AreChildrenOf w m old.running → Ends attempt status child old new → IsAttempt attempt.number
end_number w m attempt status child old new fits ends =
    let number = number_of_running (tried_at m.tasks attempt.task.task) attempt.number (fits.numbered attempt.task.task) (end_runs w m attempt status child old new fits ends) in
    record { first = number.0; last = number.1 }

pub end_below : (w : Work) (m : Board) (attempt : Attempt) (status : ℤ) (child : Child) (old new : Seen) → AreChildrenOf w m old.running → Ends attempt status child old new → attempt.task.task < w.count
end_below w m attempt status child old new fits ends =
    omega (arith, fits.size, below_from_runs m.tasks attempt.task.task attempt.number (end_runs w m attempt status child old new fits ends))

pub end_job : (w : Work) (m : Board) (attempt : Attempt) (status : ℤ) (child : Child) (old new : Seen) → AreChildrenOf w m old.running → Ends attempt status child old new → (attempt.task.job ≡ w.folder) × (attempt.task.phase ≡ w.phase)
end_job w m attempt status child old new fits ends =
    let is = child_of w m attempt status child old new fits ends in
    subst (λ (x : Attempt). (x.task.job ≡ w.folder) × (x.task.phase ≡ w.phase)) ends.same (is.job, is.phase)

pub fits_ended : (w : Work) (m : Board) (attempt : Attempt) (status : ℤ) (child : Child) (old new : Seen) → AreChildrenOf w m old.running → Ends attempt status child old new → AreChildrenOf w (ended m attempt status) new.running
fits_ended w m attempt status child old new fits ends =
    let rest = fits_end w m (is_success status) ends.before child ends.after (split_fits w m attempt status child old new fits ends) in
    let named : AreChildrenOf w (ended m attempt status) (ends.before ++ ends.after) = subst (λ (x : Attempt). AreChildrenOf w (with_tried m x.task.task (ended_as x.number (is_success status) (tried_at m.tasks x.task.task))) (ends.before ++ ends.after)) ends.same rest in
    subst (λ (cs : List Child). AreChildrenOf w (ended m attempt status) cs) (sym ends.running) named

pub touches_ended : (w : Work) (m : Board) (attempt : Attempt) (status : ℤ) (child : Child) (old new : Seen) (s u : State) → AreChildrenOf w m old.running → Ends attempt status child old new → OnlyAt child.output s u → Touches w attempt.task.task attempt.number s u
touches_ended w m attempt status child old new s u fits ends only =
    let is = child_of w m attempt status child old new fits ends in
    touches_left w attempt.task.task attempt.number child.output s u (is.output ∙ ap (λ (x : Attempt). output_at w x.task.task x.number) ends.same) only

rest_fed : (w : Work) (m : Board) (attempt : Attempt) (status : ℤ) (child : Child) (old new : Seen) (s : State) → Ends attempt status child old new → AreFed w s old.running → (child.given ≡ text_at w s (task_no child)) × AreFed w s new.running
rest_fed w m attempt status child old new s ends fed =
    let all = subst (λ (cs : List Child). AreFed w s cs) ends.was fed in
    let parts = each_split (λ c. c.given ≡ text_at w s (task_no c)) ends.before child ends.after all in
    (parts.0, subst (λ (cs : List Child). AreFed w s cs) (sym ends.running) parts.1)

-- a task that doesn't become done by the end of an attempt
end_stands : (w : Work) (gives : List (List ℕ) → List ℕ → List ℕ) (t a : ℕ) (s u : State) (v : Tried) (ok : Bool) → IsSmall w → t < 1000000 → IsAttempt a → IsNumbered v → has a (running_in v) ≡ true → Touches w t a s u → becomes_done v ok ≡ false → TaskStands w gives s t v → TaskStands w gives u t (ended_as a ok v)
end_stands w gives t a s u (Open n rs) true small few number numbered runs touches first stands = absurd (false≢true (sym first))
end_stands w gives t a s u (Open n rs) false small few number numbered runs touches first stands =
    let below = numbered.2 a runs in open_touched w t a n n s u small few number (omega (arith, below.1)) (omega arith) touches stands
end_stands w gives t a s u (Finished rs) ok small few number numbered runs touches first stands = made_touched w small.homes gives t a s u touches stands

pub stands_ended : (w : Work) (gives : List (List ℕ) → List ℕ → List ℕ) (m : Board) (attempt : Attempt) (status : ℤ) (child : Child) (old new : Seen) (s u : State) → AreChildrenOf w m old.running → Ends attempt status child old new → OnlyAt child.output s u → becomes_done (tried_at m.tasks attempt.task.task) (is_success status) ≡ false → HasWork w gives s m old.running → HasWork w gives u (ended m attempt status) new.running
stands_ended w gives m attempt status child old new s u fits ends only first stands =
    let t = attempt.task.task in
    let a = attempt.number in
    let was = tried_at m.tasks t in
    let runs = end_runs w m attempt status child old new fits ends in
    let below = end_below w m attempt status child old new fits ends in
    let number = end_number w m attempt status child old new fits ends in
    let touches = touches_ended w m attempt status child old new s u fits ends only in
    let local = touches_local w t a s u number touches in
    let next = end_stands w gives t a s u was (is_success status) fits.small (omega (arith, fits.small.few, below)) number (fits.numbered t) runs touches first (stands.tasks t below) in
    record {
      tasks = tasks_stand w fits.small.homes gives m t (ended_as a (is_success status) was) s u fits.small.few fits.size below local stands.tasks next;
      fed = fed_far w fits.small.homes t s u new.running local (rest_fed w m attempt status child old new s ends stands.fed).1;
    }

-- a task that becomes done was open
pub record WasOpen (v : Tried) (ok : Bool) : Type 0 where
  pub ok_is : ok ≡ true
  pub next : ℕ
  pub running : List ℕ
  pub is : v ≡ Open next running

was_open : (v : Tried) (ok : Bool) → becomes_done v ok ≡ true → WasOpen v ok
was_open (Open n rs) ok is = record { ok_is = is; next = n; running = rs; is = refl }
was_open (Finished rs) ok is = absurd (false≢true is)

success_is_zero : (status : ℤ) → is_success status ≡ true → status ≡ pos 0
success_is_zero (pos n) is = ap pos (eqb-true n 0 is)
success_is_zero (negsuc n) is = absurd (false≢true is)

-- an attempt that succeeded
pub delivers : (w : Work) (gives : List (List ℕ) → List ℕ → List ℕ) (m : Board) (attempt : Attempt) (status : ℤ) (child : Child) (old new : Seen) (d e : Told) → AreChildrenOf w m old.running → Ends attempt status child old new → Leaves gives child status d e → becomes_done (tried_at m.tasks attempt.task.task) (is_success status) ≡ true → HasWork w gives (files d) m old.running → Delivers w gives (files e) (ended m attempt status) new.running attempt.task.task attempt.number
delivers w gives m attempt status child old new d e fits ends leaves first stands =
    let t = attempt.task.task in
    let a = attempt.number in
    let s = files d in
    let u = files e in
    let is = child_of w m attempt status child old new fits ends in
    let runs = end_runs w m attempt status child old new fits ends in
    let below = end_below w m attempt status child old new fits ends in
    let number = end_number w m attempt status child old new fits ends in
    let touches = touches_ended w m attempt status child old new s u fits ends leaves.only in
    let local = touches_local w t a s u number touches in
    let was = was_open (tried_at m.tasks t) (is_success status) first in
    let success = was.ok_is in
    let here : IsOpenFrom w s t was.next = subst (λ (x : Tried). TaskStands w gives s t x) was.is (stands.tasks t below) in
    let most : IsNumbered (Open was.next was.running) = subst IsNumbered was.is (fits.numbered t) in
    let fed = rest_fed w m attempt status child old new s ends stands.fed in
    let inside : t < length m.tasks = omega (arith, fits.size, below) in
    let output_is : child.output ≡ output_at w t a = is.output ∙ ap (λ (x : Attempt). output_at w x.task.task x.number) ends.same in
    let text_is : child.given ≡ text_at w u t = fed.0 ∙ ap (λ (x : Attempt). text_at w s x.task.task) ends.same ∙ sym (text_far w fits.small.homes t t s u local) in
    let left : (u child.output).now ≡ Some (gives child.words child.given) = leaves.output (success_is_zero status success) in
    record {
      others = λ k within differ. subst (λ (x : Tried). TaskStands w gives u k x) (sym (set_other m.tasks t k (ended_as a (is_success status) (tried_at m.tasks t)) inside (λ same. differ (sym same)))) (stands_far w fits.small.homes gives t k s u (tried_at m.tasks k) (omega (arith, fits.small.few, below)) (omega (arith, fits.small.few, within)) differ local (stands.tasks k within));
      fed = fed_far w fits.small.homes t s u new.running local fed.1;
      rest = open_touched w t a was.next 5 s u fits.small (omega (arith, fits.small.few, below)) number (omega (arith, number.last)) (omega (arith, most.1)) touches here;
      output = ap (λ (p : Names). (u p).now) (sym output_is) ∙ left ∙ ap (λ (words : List (List ℕ)). Some (gives words child.given)) is.words ∙ ap (λ (text : List ℕ). Some (gives w.words text)) text_is;
    }

-- ---- its commit

pub beside_local : (w : Work) (t a : ℕ) (s u : State) → IsAttempt a → StandsBeside (folder_at w t a) (home_at w t) s u → IsLocal w t s u
beside_local w t a s u number beside path far = beside path (far.attempts a number) far.task

pub stands_committed : (w : Work) → HomesApart w → (gives : List (List ℕ) → List ℕ → List ℕ) (m : Board) (cs : List Child) (t a : ℕ) (rs : List ℕ) (s u : State) → w.count ≤ 524288 → t < w.count → IsAttempt a → tried_at m.tasks t ≡ Finished rs → StandsBeside (folder_at w t a) (home_at w t) s u → IsMoved w t a s u → Delivers w gives s m cs t a → HasWork w gives u m cs
stands_committed w homes gives m cs t a rs s u few below number done beside moved delivered =
    let local = beside_local w t a s u number beside in
    let made : IsMade w gives u u t = record {
      output = moved.output ∙ delivered.output ∙ ap (λ (text : List ℕ). Some (gives w.words text)) (sym (text_far w homes t t s u local));
      alone = moved.alone;
    } in
    record {
      tasks = tasks_stay w homes gives m t s u few below local delivered.others (subst (λ (x : Tried). TaskStands w gives u t x) (sym done) made);
      fed = fed_far w homes t s u cs local delivered.fed;
    }

pub done_after : (w : Work) (m : Board) (attempt : Attempt) (status : ℤ) (child : Child) (old new : Seen) → AreChildrenOf w m old.running → Ends attempt status child old new → becomes_done (tried_at m.tasks attempt.task.task) (is_success status) ≡ true → (rs : List ℕ) × (tried_at (ended m attempt status).tasks attempt.task.task ≡ Finished rs)
done_after w m attempt status child old new fits ends first =
    let t = attempt.task.task in
    let a = attempt.number in
    let was = was_open (tried_at m.tasks t) (is_success status) first in
    let inside = below_from_runs m.tasks t a (end_runs w m attempt status child old new fits ends) in
    (without a was.running, set_same m.tasks t (ended_as a (is_success status) (tried_at m.tasks t)) inside ∙ ap (λ (v : Tried). ended_as a (is_success status) v) was.is ∙ ap (λ (ok : Bool). ended_as a ok (Open was.next was.running)) was.ok_is)

-- no other child is of the attempt that has ended
others_of : (w : Work) (m : Board) (attempt : Attempt) (status : ℤ) (child : Child) (old new : Seen) → AreChildrenOf w m old.running → Ends attempt status child old new → AllByRecursion (λ c. task_no c ≡ attempt.task.task → number_no c ≢ attempt.number) new.running
others_of w m attempt status child old new fits ends =
    let apart = (apart_split ends.before child ends.after (split_fits w m attempt status child old new fits ends).apart).0 in
    let named : AllByRecursion (λ c. task_no c ≡ attempt.task.task → number_no c ≢ attempt.number) (ends.before ++ ends.after) = subst (λ (x : Attempt). AllByRecursion (λ c. task_no c ≡ x.task.task → number_no c ≢ x.number) (ends.before ++ ends.after)) ends.same apart in
    subst (λ (cs : List Child). AllByRecursion (λ c. task_no c ≡ attempt.task.task → number_no c ≢ attempt.number) cs) (sym ends.running) named

-- both folders that a commit changes are free
pub free_commit : (w : Work) (m : Board) (attempt : Attempt) (status : ℤ) (child : Child) (old new : Seen) (lent : List Loan) → AreChildrenOf w m old.running → Ends attempt status child old new → lent ≡ loans_of new.running → IsFree lent (folder_at w attempt.task.task attempt.number) × IsFree lent (home_at w attempt.task.task)
free_commit w m attempt status child old new lent fits ends lent_is =
    let t = attempt.task.task in
    let a = attempt.number in
    let n = ended m attempt status in
    let fits_now = fits_ended w m attempt status child old new fits ends in
    let folder = free_folder w n t a new.running (folder_at w t a) fits_now (end_below w m attempt status child old new fits ends) (end_number w m attempt status child old new fits ends) (others_of w m attempt status child old new fits ends) (under-refl (folder_at w t a)) in
    let home = free_home w n t new.running fits_now in
    subst (λ (l : List Loan). IsFree l (folder_at w t a) × IsFree l (home_at w t)) (sym lent_is) (folder, home)

-- ---- an end that is to be committed, and one that isn't

abbrev pub is_first : Board → Attempt → ℤ → Bool
is_first m attempt status = becomes_done (tried_at m.tasks attempt.task.task) (is_success status)

abbrev pub is_due : Board → Attempt → ℤ → Bool
is_due m attempt status = is_first m attempt status && not (has_dead (ended m attempt status).tasks)

pub due_success : (m : Board) (attempt : Attempt) (status : ℤ) → is_due m attempt status ≡ true → (is_first m attempt status ≡ true) × NoneDead (ended m attempt status).tasks
due_success m attempt status due =
    let both = both_true (is_first m attempt status) (has_dead (ended m attempt status).tasks) due in
    (both.0, none_from_has_dead (ended m attempt status).tasks both.1)

none_before : (m : Board) (attempt : Attempt) (status : ℤ) → Runs m.tasks attempt.task.task attempt.number → NoneDead (ended m attempt status).tasks → NoneDead m.tasks
none_before m attempt status runs none =
    none_dead_before m.tasks attempt.task.task attempt.number (ended_as attempt.number (is_success status) (tried_at m.tasks attempt.task.task)) runs none

pub due_delivers : (w : Work) (gives : List (List ℕ) → List ℕ → List ℕ) (m : Board) (attempt : Attempt) (status : ℤ) (child : Child) (old new : Seen) (d e : Told) → AreChildrenOf w m old.running → Ends attempt status child old new → Leaves gives child status d e → is_due m attempt status ≡ true → (NoneDead m.tasks → HasWork w gives (files d) m old.running) → Delivers w gives (files e) (ended m attempt status) new.running attempt.task.task attempt.number
due_delivers w gives m attempt status child old new d e fits ends leaves due stands =
    let is = due_success m attempt status due in
    let runs = end_runs w m attempt status child old new fits ends in
    delivers w gives m attempt status child old new d e fits ends leaves is.0 (stands (none_before m attempt status runs is.1))

pub rests_stand : (w : Work) (gives : List (List ℕ) → List ℕ → List ℕ) (m : Board) (attempt : Attempt) (status : ℤ) (child : Child) (old new : Seen) (d e : Told) → AreChildrenOf w m old.running → Ends attempt status child old new → Leaves gives child status d e → is_due m attempt status ≡ false → (NoneDead m.tasks → HasWork w gives (files d) m old.running) → NoneDead (ended m attempt status).tasks → HasWork w gives (files e) (ended m attempt status) new.running
rests_stand w gives m attempt status child old new d e fits ends leaves due stands none =
    let runs = end_runs w m attempt status child old new fits ends in
    let before = none_before m attempt status runs none in
    ⊎_elim (λ (later : is_first m attempt status ≡ false). stands_ended w gives m attempt status child old new (files d) (files e) fits ends leaves.only later (stands before)) (λ (dead : has_dead (ended m attempt status).tasks ≡ true). absurd (false≢true (sym (none_has_dead (ended m attempt status).tasks none) ∙ dead))) (not_both (is_first m attempt status) (has_dead (ended m attempt status).tasks) due)
