-- A whole phase, from the fresh machine to its answer.
use Rattle.std.proofs.lemmas.Bool.{false≢true}
use Rattle.std.proofs.Common.{zero, suc, inl, inr, true, ◌≡◌, ℕ, ◌+◌, ◌*◌, ◌<◌, ◌≤◌, ◌⊎◌, ⊎_elim, List, [], ◌∷◌, ◌++◌, length, replicate, Some, Result, Ok, Err, refl, sym, ap, ◌∙◌, subst, arith}
use Rattle.std.specs.Prelude.{OnOk}
use Rattle.std.specs.List.{AllByRecursion}
use Rattle.std.proofs.lemmas.Bool.{cases_lt}
use Rattle.std.proofs.lemmas.List.{append-nil, append_assoc, get_or-replicate, get_or_past, length-replicate}
use Rattle.std.proofs.lemmas.List.Folds.{sum_by-replicate}
use Rattle.std.specs.Prelude.{sum_by}
use Rattle.std.proofs.lemmas.List.Sums.{sum_by-cons}
use Rattle.peg_base.specs.Names.{Names}
use Rattle.peg_base.specs.declared.tasks.Phase.{Phase}
use Rattle.dir_disk.specs.State.{State}
use Rattle.dir_disk.specs.Moments.{Told, files}
use Rattle.dir_disk.specs.Children.{Child, Given, Seen}
use Rattle.dir_disk.specs.declared.site.LogEntry.{LogEntry}
use Rattle.committer.specs.declared.fault.CommitFault.{CommitFault}
use Rattle.committer.specs.declared.fault.CommitFault.TheVariants.{Disk as DiskFault, NoMemory as NoRoom}
use Rattle.task_core.specs.Board.{Board, Rule, Tried, Open, Finished, tried_at, fresh, after, after_all, runs, running_of, has, is_done, is_dead, IsBusy, IsRunWhere, AllDone, NoneDead, AreNumbered, IsNumbered, AtAnyTime, IsRule, Step, Start, Refuse, End}
use Rattle.job.specs.declared.fault.JobFault.{JobFault}
use Rattle.job.specs.declared.fault.JobFault.TheVariants.{TaskFailed, Disk, NoMemory}
use Rattle.job.specs.Faults.{job_fault}
use Rattle.job.specs.Work.{Work, HomesApart, IsSmall, Keeps, text_at}
use Rattle.job.specs.Children.{AreChildrenOf}
use Rattle.job.specs.Standing.{CanRun, AllMade, IsMade, TaskStands, HasWork}
use Rattle.job.specs.Failing.{IsEntryOf, steps_of, made_in}
use Rattle.job.specs.Going.{Working, Waiting, IsExact, Turn}
use Rattle.job.specs.Turned.{IsOver, left_at}
use Rattle.job.specs.Ran.{Answers, IsExactFor, Ran, Judged}
use Rattle.job.proofs.Listing.{each_append}
use Rattle.job.proofs.Goings.{made-append}
use Rattle.job.proofs.TurnLemmas.{keeps_texts}

-- ---- nothing runs

pub rests_none : (w : Work) (m : Board) (cs : List Child) → AreChildrenOf w m cs → running_of m.tasks ≡ 0 → cs ≡ []
rests_none w m [] fits rests = refl
rests_none w m (c ∷ cs) fits rests = absurd (omega (arith, fits.count, rests))

pub some_run : (w : Work) (m : Board) (cs : List Child) → AreChildrenOf w m cs → 0 < running_of m.tasks → 1 ≤ length cs
some_run w m cs fits some = omega (arith, fits.count, some)

slots_after : (m : Board) (x : Step) → (after m x).slots ≡ m.slots
slots_after m (Start t a) = refl
slots_after m (Refuse t a) = refl
slots_after m (End t a status) = refl

pub slots_stay : (m : Board) (xs : List Step) → (after_all m xs).slots ≡ m.slots
slots_stay m [] = refl
slots_stay m (x ∷ xs) = slots_stay (after m x) xs ∙ slots_after m x

-- ---- the beginning

-- a task that is untried, or past the last one
fresh_at : (n t : ℕ) → (tried_at (replicate n (Open 1 [])) t ≡ Open 1 []) ⊎ (tried_at (replicate n (Open 1 [])) t ≡ Finished [])
fresh_at n t =
    ⊎_elim
    (λ (below : t < n). inl (get_or-replicate n t (Open 1 []) (Finished []) below))
    (λ (past : n ≤ t). inr (get_or_past (replicate n (Open 1 [])) t (Finished []) (omega (arith, past, length-replicate n (Open 1 [])))))
    (cases_lt t n)

untried_is_numbered : IsNumbered (Open 1 [])
untried_is_numbered = (omega arith, omega arith, λ a is. absurd (false≢true is))

nothing_is_numbered : IsNumbered (Finished [])
nothing_is_numbered a is = absurd (false≢true is)

fresh_is_numbered : (n : ℕ) → AreNumbered (replicate n (Open 1 []))
fresh_is_numbered n t =
    ⊎_elim (λ (is : tried_at (replicate n (Open 1 [])) t ≡ Open 1 []). subst IsNumbered (sym is) untried_is_numbered) (λ (is : tried_at (replicate n (Open 1 [])) t ≡ Finished []). subst IsNumbered (sym is) nothing_is_numbered) (fresh_at n t)

pub fits_fresh : (w : Work) (slots : ℕ) (cs : List Child) → IsSmall w → cs ≡ [] → AreChildrenOf w (fresh w.count slots) cs
fits_fresh w slots cs small none =
    let nobody : AreChildrenOf w (fresh w.count slots) [] = record {
      small = small;
      size = length-replicate w.count (Open 1 []);
      numbered = fresh_is_numbered w.count;
      each = tt;
      apart = tt;
      count = omega (arith, sum_by-replicate runs w.count (Open 1 []));
    } in
    subst (λ (l : List Child). AreChildrenOf w (fresh w.count slots) l) (sym none) nobody

pub stands_fresh : (w : Work) (gives : List (List ℕ) → List ℕ → List ℕ) (state : State) (slots : ℕ) (cs : List Child) → cs ≡ [] → CanRun w state → HasWork w gives state (fresh w.count slots) cs
stands_fresh w gives state slots cs none can =
    let nobody : HasWork w gives state (fresh w.count slots) [] = record {
      tasks = λ t below. subst (λ (x : Tried). TaskStands w gives state t x) (sym (get_or-replicate w.count t (Open 1 []) (Finished []) below)) (can t below);
      fed = tt;
    } in
    subst (λ (l : List Child). HasWork w gives state (fresh w.count slots) l) (sym none) nobody

-- each task may be tried four times at most
pub left_few : (tasks : List Tried) → AreNumbered tasks → sum_by left_at tasks ≤ 4 * length tasks
left_few [] numbered = omega arith
left_few (x ∷ xs) numbered =
    let rest = left_few xs (λ t. numbered (suc t)) in
    let one = left_one x (numbered zero) in
    omega (arith, sum_by-cons left_at x xs, rest, one)
  where
    left_one : (v : Tried) → IsNumbered v → left_at v ≤ 4
    left_one (Open n rs) numbered = omega (arith, numbered.0)
    left_one (Finished rs) numbered = omega arith

-- ---- answers

pub over_after : (S : Rule) (made : ℕ) (m : Board) (old mid new : Seen) → running_of m.tasks ≡ 0 → IsBusy S m → new ≡ mid → made_in mid.log ≡ made_in old.log + made → IsOver S made m old new
over_after S made m old mid new rests busy same log =
    record { rests = rests; busy = busy; log = ap (λ (s : Seen). made_in s.log) same ∙ log }

-- as many attempts as the count of the log rose
made_count : (xs old new : List LogEntry) (count : ℕ) → new ≡ old ++ xs → made_in new ≡ made_in old + count → count ≡ made_in xs
made_count xs old new count log made =
    let split = ap made_in log ∙ made-append old xs in omega (arith, split, made)

judged_answers : (w : Work) (m : Board) (front : List LogEntry) (made : ℕ) (r : Result ℕ JobFault) → (NoneDead m.tasks → AllDone m.tasks) → made ≡ made_in front → Judged w.folder w.phase m made r → Answers w m front [] r
judged_answers w m front made (Ok count) done counts judged = (done judged.0, judged.1 ∙ counts, refl)
judged_answers w m front made (Err (TaskFailed id)) done counts judged = (judged.0, judged.1, refl)
judged_answers w m front made (Err Disk) done counts judged = absurd judged
judged_answers w m front made (Err NoMemory) done counts judged = absurd judged

-- nothing was refused
pub ran_judged : (S : Rule) → IsRule S → (P : Type 0) (tells : Type 0) (w : Work) (b : Board) (made : ℕ) (n : Board) (old new : Seen) (had has : List Given) (d e : Told) (r : Result ℕ JobFault) → P → 1 ≤ b.slots → Turn S Working P tells w b n old new had has d e → IsOver S made n old new → Judged w.folder w.phase n made r → Ran S tells w b (text_at w (files d)) old new had has d e r
ran_judged S rule P tells w b made n old new had has d e r p some turn over judged =
    let xs = turn.goes.entries in
    let m = b in
    let reached = turn.goes.reached in
    let whole : xs ≡ xs ++ [] = sym (append-nil xs) in
    let slots_are : 1 ≤ n.slots = omega (arith, some, ap (λ (k : Board). k.slots) reached ∙ slots_stay m (steps_of xs)) in
    let answers = judged_answers w n xs made r (rule.rests n slots_are turn.fits.numbered over.rests over.busy) (made_count xs old.log new.log made turn.goes.log over.log) judged in
    record {
      front = xs;
      ends = [];
      log = subst (λ (l : List LogEntry). new.log ≡ old.log ++ l) whole turn.goes.log;
      of_work = subst (λ (l : List LogEntry). AllByRecursion (IsEntryOf w) l) whole turn.goes.of_work;
      busy = turn.goes.run;
      waited = tt;
      none_made = refl;
      givens = turn.goes.givens;
      calls = λ x. record { most = (turn.calls x).most; exact = λ _. (turn.calls x).exact p };
      start_faults = turn.goes.start_faults;
      answer = subst (λ (k : Board). Answers w k xs [] r) reached answers;
    }

fault_answers : (w : Work) (m : Board) (front ends : List LogEntry) (fault : CommitFault) → NoneDead m.tasks → Answers w m front ends (Err (job_fault fault))
fault_answers w m front ends DiskFault none = none
fault_answers w m front ends NoRoom none = none

-- something was refused, and the children were waited for
pub ran_refused : {T : Type 0} (S : Rule) (result : Result T CommitFault) (fault : CommitFault) (tells : Type 0) (w : Work) (b : Board) (n k : Board) (x y z : Seen) (had has have : List Given) (d e f : Told) (r : Result ℕ JobFault) → result ≡ Err fault → r ≡ Err (job_fault fault) → Turn S Working (IsExact w.home result) tells w b n x y had has d e → Turn S Waiting (Unit {0}) tells w n k y z has have e f → NoneDead n.tasks → Ran S tells w b (text_at w (files d)) x z had have d f r
ran_refused {T} S result fault tells w b n k x y z had has have d e f r was is first second none =
    let xs = first.goes.entries in
    let ys = second.goes.entries in
    let m = b in
    record {
      front = xs;
      ends = ys;
      log = second.goes.log ∙ ap (λ (l : List LogEntry). l ++ ys) first.goes.log ∙ append_assoc x.log xs ys;
      of_work = each_append (IsEntryOf w) xs ys first.goes.of_work second.goes.of_work;
      busy = first.goes.run;
      waited = subst (λ (u : Board). IsRunWhere S AtAnyTime u (steps_of ys)) first.goes.reached second.goes.run;
      none_made = second.goes.made;
      givens = λ told. second.goes.givens told ∙ append-nil has ∙ first.goes.givens told;
      calls =
          λ told.
          let one = first.calls told in
          let two = (second.calls told).exact tt in
          record {
            most = omega (arith, one.most, two);
            exact = λ all. let is_one = one.exact (refused_so all) in omega (arith, is_one, two);
          };
      start_faults = omega (arith, first.goes.start_faults, second.goes.start_faults);
      answer = subst (λ (u : Board). Answers w u xs ys r) first.goes.reached (subst (λ (o : Result ℕ JobFault). Answers w n xs ys o) (sym is) (fault_answers w n xs ys fault none));
    }
  where
    exact_so : (fault : CommitFault) → (let told : Result ℕ JobFault = Err (job_fault fault) in IsExactFor w.home told) → (let result : Result T CommitFault = Err fault in IsExact w.home result)
    exact_so DiskFault all = all
    exact_so NoRoom all = all

    refused_so : IsExactFor w.home r → IsExact w.home result
    refused_so all =
        subst (λ (o : Result T CommitFault). IsExact w.home o) (sym was) (exact_so fault (subst (IsExactFor w.home) is all))

-- each task has its output
made_at : (w : Work) (gives : List (List ℕ) → List ℕ → List ℕ) (s : State) (t : ℕ) (v : Tried) → is_done v ≡ true → TaskStands w gives s t v → IsMade w gives s s t
made_at w gives s t (Open n rs) done stands = absurd (false≢true done)
made_at w gives s t (Finished rs) done stands = stands

pub made_all : (w : Work) → HomesApart w → (gives : List (List ℕ) → List ℕ → List ℕ) (n : Board) (cs : List Child) (d e : Told) → Keeps w d e → AllDone n.tasks → HasWork w gives (files e) n cs → AllMade w gives (files d) (files e)
made_all w homes gives n cs d e keeps done stands t below =
    let here = made_at w gives (files e) t (tried_at n.tasks t) (done t) (stands.tasks t below) in
    record {
      output = here.output ∙ ap (λ (text : List ℕ). Some (gives w.words text)) (keeps_texts w homes d e keeps t);
      alone = here.alone;
    }

-- ---- before the first turn

pub fresh_none_dead : (n slots : ℕ) → NoneDead (fresh n slots).tasks
fresh_none_dead n slots t = ⊎_elim (λ is. ap is_dead is) (λ is. ap is_dead is) (fresh_at n t)

pub ran_none : (S : Rule) (tells : Type 0) (w : Work) (b : Board) (seen : Seen) (had : List Given) (d : Told) (r : Result ℕ JobFault) → NoneDead b.tasks → r ≡ Err NoMemory → Ran S tells w b (text_at w (files d)) seen seen had had d d r
ran_none S tells w b seen had d r alive is =
    let none : Answers w b [] [] (Err NoMemory) = alive in
    record {
      front = [];
      ends = [];
      log = sym (append-nil seen.log);
      of_work = tt;
      busy = tt;
      waited = tt;
      none_made = refl;
      givens = λ _. sym (append-nil had);
      calls = λ _. record { most = omega arith; exact = λ _. omega arith };
      start_faults = omega arith;
      answer = subst (λ (x : Result ℕ JobFault). Answers w b [] [] x) (sym is) none;
    }

-- ---- what the judgement says

pub made_judged : (folder : Names) (phase : Phase) (m : Board) (made : ℕ) (r : Result ℕ JobFault) (P : Type 0) → Judged folder phase m made r → (NoneDead m.tasks → P) → OnOk r P
made_judged folder phase m made (Ok count) P judged holds = holds judged.0
made_judged folder phase m made (Err fault) P judged holds = tt

pub done_over : (S : Rule) → IsRule S → (P : Type 0) (tells : Type 0) (w : Work) (b : Board) (made : ℕ) (n : Board) (old new : Seen) (had has : List Given) (d e : Told) → 1 ≤ b.slots → Turn S Working P tells w b n old new had has d e → IsOver S made n old new → NoneDead n.tasks → AllDone n.tasks
done_over S rule P tells w b made n old new had has d e some turn over none =
    let slots_are : 1 ≤ n.slots = omega (arith, some, ap (λ (k : Board). k.slots) turn.goes.reached ∙ slots_stay b (steps_of turn.goes.entries)) in
    rule.rests n slots_are turn.fits.numbered over.rests over.busy none
