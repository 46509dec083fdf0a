-- How the log and what was given go on, entry by entry and stretch by stretch.
use Rattle.std.proofs.Common.{◌||◌, ◌≡◌, ℕ, ℤ, ◌+◌, ◌≤◌, Bool, true, false, cond, ◌&&◌, not, ◌⊎◌, inl, inr, ⊎_elim, Option, Some, None, MatchOption, List, [], ◌∷◌, ◌++◌, set, zero, suc, refl, sym, ap, ◌∙◌, subst, arith, Result, Ok, Err}
use Rattle.std.specs.Prelude.{OnErr}
use Rattle.std.specs.Option.{is_some}
use Rattle.std.proofs.lemmas.Bool.{cases_eq, false≢true}
use Rattle.std.proofs.lemmas.List.{map-append}
use Rattle.std.proofs.lemmas.List.Sums.{sum_by-append, sum_by-set}
use Rattle.dir_disk.specs.Children.{Given, Seen}
use Rattle.dir_disk.specs.declared.site.LogEntry.{LogEntry}
use Rattle.committer.specs.declared.fault.CommitFault.{CommitFault}
use Rattle.committer.specs.declared.fault.CommitFault.TheVariants.{Disk, NoMemory}
use Rattle.task_core.specs.Board.{Board, Tried, Open, Finished, IsNext, Runs, is_dead, becomes_done, ended, tried_at, with_tried, after, after_all, runs, NoneDead, IsLeastDead, Step, Start, Refuse, End, is_success}
use Rattle.task_core.proofs.TriedLemmas.{below_from_next, below_from_runs, set_other, alive_running, ended_runs, after_start, after_refused}
use Rattle.job.specs.Work.{Home, Work, calls_at}
use Rattle.job.specs.Failing.{steps_of, step_of, made_in, is_made}
use Rattle.job.specs.Going.{Mode, Working, Waiting, MayMakeIn, AreAsMany, IsExact, givens_of, givens_in, has_dead, commit_calls, calls_of}
use Rattle.job.specs.Turned.{left_at, Moves}

-- ---- stretches

pub steps-append : (xs ys : List LogEntry) → steps_of (xs ++ ys) ≡ steps_of xs ++ steps_of ys
steps-append xs ys = map-append step_of xs ys

pub made-append : (xs ys : List LogEntry) → made_in (xs ++ ys) ≡ made_in xs + made_in ys
made-append xs ys = sum_by-append (λ x. cond (is_made x) 1 0) xs ys

pub commit_calls-append : (home : Home) (m : Board) (xs ys : List Step) → commit_calls home m (xs ++ ys) ≡ commit_calls home m xs + commit_calls home (after_all m xs) ys
commit_calls-append home m [] ys = omega arith
commit_calls-append home m (x ∷ xs) ys =
    let rest = commit_calls-append home (after m x) xs ys in omega (arith, rest)

pub calls-append : (mode : Mode) (home : Home) (m : Board) (xs ys : List Step) → calls_of mode home m (xs ++ ys) ≡ calls_of mode home m xs + calls_of mode home (after_all m xs) ys
calls-append Working home m xs ys = commit_calls-append home m xs ys
calls-append Waiting home m xs ys = omega arith

pub givens-append : (w : Work) (inputs : ℕ → List ℕ) (calls : ℕ) (m : Board) (xs ys : List Step) → givens_of w inputs calls m (xs ++ ys) ≡ givens_of w inputs calls m xs ++ givens_of w inputs (calls + commit_calls w.home m xs) (after_all m xs) ys
givens-append w inputs calls m [] ys =
    let none : calls ≡ calls + commit_calls w.home m [] = omega arith in
    ap (λ (i : ℕ). givens_of w inputs i m ys) none
givens-append w inputs calls m (Start t a ∷ xs) ys =
    let n : Board = after m (Start t a) in
    let one : Given = record { words = w.words; input = inputs t; moment = calls } in
    let more : calls + commit_calls w.home n xs ≡ calls + commit_calls w.home m (Start t a ∷ xs) = omega arith in
    ap (λ (gs : List Given). one ∷ gs) (givens-append w inputs calls n xs ys ∙ ap (λ (i : ℕ). givens_of w inputs calls n xs ++ givens_of w inputs i (after_all n xs) ys) more)
givens-append w inputs calls m (Refuse t a ∷ xs) ys =
    let n : Board = after m (Refuse t a) in
    let one : Given = record { words = w.words; input = inputs t; moment = calls } in
    let more : calls + commit_calls w.home n xs ≡ calls + commit_calls w.home m (Refuse t a ∷ xs) = omega arith in
    ap (λ (gs : List Given). one ∷ gs) (givens-append w inputs calls n xs ys ∙ ap (λ (i : ℕ). givens_of w inputs calls n xs ++ givens_of w inputs i (after_all n xs) ys) more)
givens-append w inputs calls m (End t a status ∷ xs) ys =
    let n : Board = after m (End t a status) in
    let here : ℕ = calls + commit_calls w.home m (End t a status ∷ []) in
    let more : here + commit_calls w.home n xs ≡ calls + commit_calls w.home m (End t a status ∷ xs) = omega arith in
    givens-append w inputs here n xs ys ∙ ap (λ (i : ℕ). givens_of w inputs here n xs ++ givens_of w inputs i (after_all n xs) ys) more

pub givens_same : (w : Work) (inputs more : ℕ → List ℕ) (calls : ℕ) (m : Board) (xs : List Step) → ((t : ℕ) → more t ≡ inputs t) → givens_of w more calls m xs ≡ givens_of w inputs calls m xs
givens_same w inputs more calls m [] same = refl
givens_same w inputs more calls m (Start t a ∷ xs) same =
    ap (λ text. record { words = w.words; input = text; moment = calls } ∷ givens_of w more calls (after m (Start t a)) xs) (same t) ∙ ap (λ gs. record { words = w.words; input = inputs t; moment = calls } ∷ gs) (givens_same w inputs more calls (after m (Start t a)) xs same)
givens_same w inputs more calls m (Refuse t a ∷ xs) same =
    ap (λ text. record { words = w.words; input = text; moment = calls } ∷ givens_of w more calls (after m (Refuse t a)) xs) (same t) ∙ ap (λ gs. record { words = w.words; input = inputs t; moment = calls } ∷ gs) (givens_same w inputs more calls (after m (Refuse t a)) xs same)
givens_same w inputs more calls m (End t a status ∷ xs) same =
    givens_same w inputs more (calls + commit_calls w.home m (End t a status ∷ [])) (after m (End t a status)) xs same

-- one stretch after another, where each commit of the first one was a call
pub givens_then : (mode : Mode) (w : Work) (inputs more : ℕ → List ℕ) (early late : ℕ) (m n : Board) (xs ys : List Step) → ((t : ℕ) → more t ≡ inputs t) → late ≡ early + calls_of mode w.home m xs → n ≡ after_all m xs → givens_in mode w inputs early m (xs ++ ys) ≡ givens_in mode w inputs early m xs ++ givens_in mode w more late n ys
givens_then Working w inputs more early late m n xs ys same calls reached =
    givens-append w inputs early m xs ys ∙ ap (λ (gs : List Given). givens_of w inputs early m xs ++ gs) (sym (givens_same w inputs more late n ys same ∙ ap (λ (i : ℕ). givens_of w inputs i n ys) calls ∙ ap (λ (k : Board). givens_of w inputs (early + commit_calls w.home m xs) k ys) reached))
givens_then Waiting w inputs more early late m n xs ys same calls reached = refl

pub ends_give_none : (mode : Mode) (w : Work) (inputs : ℕ → List ℕ) (calls : ℕ) (m : Board) (t a : ℕ) (status : ℤ) → givens_in mode w inputs calls m (End t a status ∷ []) ≡ []
ends_give_none Working w inputs calls m t a status = refl
ends_give_none Waiting w inputs calls m t a status = refl

pub may-append : (mode : Mode) (xs ys : List LogEntry) → MayMakeIn mode xs → MayMakeIn mode ys → MayMakeIn mode (xs ++ ys)
may-append Working xs ys h k = tt
may-append Waiting xs ys h k = omega (arith, h, k, made-append xs ys)

pub as_many_same : (P : Type 0) (x y : ℕ) → x ≡ y → AreAsMany P x y
as_many_same P x y same = record { most = omega (arith, same); exact = λ _. same }

pub as_many_then : (P Q R : Type 0) (a b c i j : ℕ) → (R → P) → (R → Q) → AreAsMany P b (a + i) → AreAsMany Q c (b + j) → AreAsMany R c (a + (i + j))
as_many_then P Q R a b c i j first second h k =
    record {
      most = omega (arith, h.most, k.most);
      exact = λ r. let one = h.exact (first r) in let two = k.exact (second r) in omega (arith, one, two);
    }

-- ---- dead tasks

pub none_has_dead : (tasks : List Tried) → NoneDead tasks → has_dead tasks ≡ false
none_has_dead [] none = refl
none_has_dead (task ∷ tasks) none = rw (none zero) (none_has_dead tasks (λ t. none (suc t)))

or_right : (x y : Bool) → y ≡ true → (x || y) ≡ true
or_right true y is = refl
or_right false y is = is

pub some_has_dead : (tasks : List Tried) (t : ℕ) → is_dead (tried_at tasks t) ≡ true → has_dead tasks ≡ true
some_has_dead [] t dead = absurd (false≢true dead)
some_has_dead (task ∷ tasks) zero dead = rw dead refl
some_has_dead (task ∷ tasks) (suc t) dead = or_right (is_dead task) (has_dead tasks) (some_has_dead tasks t dead)

-- a task of which an attempt runs may become anything: where none is dead then, none was before
pub none_dead_before : (tasks : List Tried) (t a : ℕ) (v : Tried) → Runs tasks t a → NoneDead (set tasks t v) → NoneDead tasks
none_dead_before tasks t a v running none u =
    let below = below_from_runs tasks t a running in
    ⊎_elim (λ (same : t ≡ u). subst (λ (k : ℕ). is_dead (tried_at tasks k) ≡ false) same (alive_running (tried_at tasks t) a running)) (λ (differ : t ≡ u → ⊥). sym (ap is_dead (set_other tasks t u v below differ)) ∙ none u) (cases_eq t u)

dead_or_not : (tasks : List Tried) (t : ℕ) (x : Bool) → is_dead (tried_at tasks t) ≡ x → has_dead tasks ≡ false → x ≡ false
dead_or_not tasks t true is none = absurd (false≢true (sym none ∙ some_has_dead tasks t is))
dead_or_not tasks t false is none = refl

pub none_from_has_dead : (tasks : List Tried) → has_dead tasks ≡ false → NoneDead tasks
none_from_has_dead tasks none t = dead_or_not tasks t (is_dead (tried_at tasks t)) refl none

-- the least dead task is told exactly where some task is dead
pub doomed_tells : (least : Option ℕ) (tasks : List Tried) → MatchOption least (NoneDead tasks) (λ t. IsLeastDead tasks t) → is_some least ≡ has_dead tasks
doomed_tells None tasks none = sym (none_has_dead tasks none)
doomed_tells (Some t) tasks dead = sym (some_has_dead tasks t dead.dead)

pub turned_round : (some none dead : Bool) → some ≡ not none → some ≡ dead → none ≡ not dead
turned_round some true true first second = absurd (false≢true (sym first ∙ second))
turned_round some true false first second = refl
turned_round some false true first second = refl
turned_round some false false first second = absurd (false≢true (sym second ∙ first))

-- ---- commits

pub both_true : (ok dead : Bool) → (ok && not dead) ≡ true → (ok ≡ true) × (dead ≡ false)
both_true true true is = absurd (false≢true is)
both_true true false is = (refl, refl)
both_true false dead is = absurd (false≢true is)

pub not_both : (ok dead : Bool) → (ok && not dead) ≡ false → (ok ≡ false) ⊎ (dead ≡ true)
not_both true true is = inr refl
not_both true false is = absurd (false≢true (sym is))
not_both false dead is = inl refl

pub commit_due : (home : Home) (m : Board) (t a : ℕ) (status : ℤ) → (becomes_done (tried_at m.tasks t) (is_success status) && not (has_dead (after m (End t a status)).tasks)) ≡ true → commit_calls home m (End t a status ∷ []) ≡ calls_at home
commit_due home m t a status due = rw due (omega arith)

pub no_commit : (home : Home) (m : Board) (t a : ℕ) (status : ℤ) → (becomes_done (tried_at m.tasks t) (is_success status) && not (has_dead (after m (End t a status)).tasks)) ≡ false → commit_calls home m (End t a status ∷ []) ≡ 0
no_commit home m t a status due = rw due refl

-- ---- what is left

left_ended : (v : Tried) (a : ℕ) (ok : Bool) → left_at (ended a ok v) ≤ left_at v
left_ended (Open n rs) a true = omega arith
left_ended (Open n rs) a false = omega arith
left_ended (Finished rs) a ok = omega arith

log_more : (k : ℕ) (x : LogEntry) (old new : Seen) → new.log ≡ old.log ++ x ∷ [] → made_in (x ∷ []) ≡ k → made_in new.log ≡ made_in old.log + k
log_more k x old new log made = ap made_in log ∙ made-append old.log (x ∷ []) ∙ ap (λ (k : ℕ). made_in old.log + k) made

pub moves_started : (m : Board) (t a : ℕ) (x : LogEntry) (old new : Seen) → IsNext m.tasks t a → new.log ≡ old.log ++ x ∷ [] → made_in (x ∷ []) ≡ 1 → Moves 1 m (after m (Start t a)) old new
moves_started m t a x old new next log made =
    let v = Open (a + 1) (a ∷ next.running) in
    let below = below_from_next m.tasks t a next in
    let left = rw next.is at (sum_by-set left_at m.tasks t v (Finished []) below) in
    let running = rw next.is at (sum_by-set runs m.tasks t v (Finished []) below) in
    let moves : Moves 1 m (with_tried m t v) old new = record {
      fuel = omega (arith, left, running, next.left);
      left = omega (arith, left, next.left);
      log = log_more 1 x old new log made;
    } in
    subst (λ (k : Board). Moves 1 m k old new) (sym (after_start m t a next)) moves

pub moves_refused : (m : Board) (t a : ℕ) (x : LogEntry) (old new : Seen) → IsNext m.tasks t a → new.log ≡ old.log ++ x ∷ [] → made_in (x ∷ []) ≡ 1 → Moves 1 m (after m (Refuse t a)) old new
moves_refused m t a x old new next log made =
    let v = Open (a + 1) next.running in
    let below = below_from_next m.tasks t a next in
    let left = rw next.is at (sum_by-set left_at m.tasks t v (Finished []) below) in
    let running = rw next.is at (sum_by-set runs m.tasks t v (Finished []) below) in
    let moves : Moves 1 m (with_tried m t v) old new = record {
      fuel = omega (arith, left, running, next.left);
      left = omega (arith, left, next.left);
      log = log_more 1 x old new log made;
    } in
    subst (λ (k : Board). Moves 1 m k old new) (sym (after_refused m t a next)) moves

pub moves_ended : (m : Board) (t a : ℕ) (status : ℤ) (x : LogEntry) (old new : Seen) → Runs m.tasks t a → new.log ≡ old.log ++ x ∷ [] → made_in (x ∷ []) ≡ 0 → Moves 0 m (after m (End t a status)) old new
moves_ended m t a status x old new running log made =
    let was = tried_at m.tasks t in
    let v = ended a (is_success status) was in
    let below = below_from_runs m.tasks t a running in
    let left = sum_by-set left_at m.tasks t v (Finished []) below in
    let one = sum_by-set runs m.tasks t v (Finished []) below in
    let few = left_ended was a (is_success status) in
    let less = ended_runs was a (is_success status) running in
    record {
      fuel = omega (arith, left, one, few, less);
      left = omega (arith, left, few);
      log = log_more 0 x old new log made;
    }

pub always_on_err : {T E : Type 0} (result : Result T E) (P : Type 0) → P → OnErr result P
always_on_err (Ok value) P holds = tt
always_on_err (Err fault) P holds = holds

-- a refusal that is passed on is as exact as it was
pub exact_passes : {T U : Type 0} (home : Home) (result : Result T CommitFault) (passed : Result U CommitFault) (fault : CommitFault) → result ≡ Err fault → passed ≡ Err fault → IsExact home passed → IsExact home result
exact_passes {T} {U} home result passed fault is was exact =
    subst (λ (r : Result T CommitFault). IsExact home r) (sym is) (as_exact fault (subst (λ (r : Result U CommitFault). IsExact home r) was exact))
  where
    as_exact : (fault : CommitFault) → (let passed : Result U CommitFault = Err fault in IsExact home passed) → (let result : Result T CommitFault = Err fault in IsExact home result)
    as_exact Disk exact = exact
    as_exact NoMemory exact = exact

pub exact_ok : {T : Type 0} (home : Home) (result : Result T CommitFault) (value : T) → result ≡ Ok value → IsExact home result
exact_ok {T} home result value is = subst (λ (r : Result T CommitFault). IsExact home r) (sym is) tt
