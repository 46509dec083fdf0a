-- Turns of a phase: nothing, a start, an end, and one after another.
use Rattle.std.proofs.Common.{◌≡◌, ℕ, ℤ, ◌+◌, ◌<◌, ◌≤◌, true, false, List, [], ◌∷◌, ◌++◌, refl, sym, ap, ◌∙◌, subst, arith, Result}
use Rattle.std.proofs.lemmas.List.{append-nil, append_assoc}
use Rattle.peg_base.specs.declared.tasks.Attempt.{Attempt}
use Rattle.dir_disk.specs.State.{State, Held, bytes_of}
use Rattle.dir_disk.specs.Moments.{Told, AddsBy, Through, Both, clock, files}
use Rattle.dir_disk.specs.Children.{Child, Given, Seen, Ends, Leaves}
use Rattle.dir_disk.specs.declared.site.LogEntry.{LogEntry}
use Rattle.dir_disk.specs.declared.site.LogEntry.TheVariants.{Started, StartFailed as Refused, Ended as Left}
use Rattle.dir_disk.proofs.Through.{started, adds_step, then_goes, weaker, kept}
use Rattle.committer.specs.declared.fault.CommitFault.{CommitFault}
use Rattle.committer.specs.Commits.{StandsBeside}
use Rattle.task_core.specs.Board.{Board, Rule, Open, IsNext, after, after_all, with_tried, IsStepWhere, IsRunWhere, IsBusy, NoneDead, Step, Start, Refuse, End}
use Rattle.task_core.proofs.TriedLemmas.{after_all-append, IsRunWhere-append, after_start, after_refused}
use Rattle.job.specs.Work.{Work, HomesApart, calls_at, IsAttempt, StandsAround, Keeps, folder_at, home_at, text_at, input_at}
use Rattle.job.specs.Children.{task_no, number_no, AreChildrenOf}
use Rattle.job.specs.Standing.{IsMoved, HasWork}
use Rattle.job.specs.Failing.{IsEntryOf, steps_of, step_of}
use Rattle.job.specs.Going.{Mode, Working, Waiting, MayEndIn, MayMakeIn, AreAsMany, IsExact, Turn, givens_in, calls_of}
use Rattle.job.proofs.Places.{Touches, touches_local, local_around, input_outside}
use Rattle.job.proofs.Fitting.{IsNew, fits_start, fits_refused}
use Rattle.job.proofs.Steps.{number_of, below_of}
use Rattle.job.proofs.Listing.{each_append}
use Rattle.job.proofs.Endings.{ended, is_due, due_success, due_delivers, done_after, stands_committed, fits_ended, end_runs, end_below, end_number, end_job, beside_local, touches_ended}
use Rattle.job.proofs.Goings.{givens_then, ends_give_none, steps-append, calls-append, may-append, as_many_same, as_many_then, no_commit, commit_due}

-- ---- all around stands

pub keeps_none : (w : Work) (d : Told) → Keeps w d d
keeps_none w d = started (Both (StandsAround w (files d))) d

pub keeps_touch : (w : Work) (t a : ℕ) (d e : Told) → t < w.count → IsAttempt a → AddsBy 0 d e → Touches w t a (files d) (files e) → Keeps w d e
keeps_touch w t a d e below number adds touches =
    adds_step 0 (Both (StandsAround w (files d))) d d e (keeps_none w d) adds ((λ path outside. refl), local_around w t (files d) (files e) below (touches_local w t a (files d) (files e) number touches))

pub around_then : (w : Work) (r s u : State) → StandsAround w r s → StandsAround w s u → StandsAround w r u
around_then w r s u first second path outside = second path outside ∙ first path outside

pub keeps_then : (w : Work) (a b c : Told) → Keeps w a b → Keeps w b c → Keeps w a c
keeps_then w a b c first second =
    let here : StandsAround w (files a) (files b) = kept (StandsAround w (files a)) a b first (λ path outside. refl) in
    then_goes (Both (StandsAround w (files a))) a b c first (weaker (Both (StandsAround w (files b))) (Both (StandsAround w (files a))) b c (λ s u both. (around_then w (files a) (files b) s here both.0, around_then w (files a) (files b) u here both.1)) second)

pub keeps_commit : (w : Work) (t a : ℕ) (d e : Told) → t < w.count → IsAttempt a → Through (Both (StandsBeside (folder_at w t a) (home_at w t) (files d))) d e → Keeps w d e
keeps_commit w t a d e below number steps =
    weaker (Both (StandsBeside (folder_at w t a) (home_at w t) (files d))) (Both (StandsAround w (files d))) d e (λ s u both. (local_around w t (files d) s below (beside_local w t a (files d) s number both.0), local_around w t (files d) u below (beside_local w t a (files d) u number both.1))) steps

pub keeps_texts : (w : Work) → HomesApart w → (d e : Told) → Keeps w d e → (t : ℕ) → text_at w (files e) t ≡ text_at w (files d) t
keeps_texts w homes d e keeps t =
    let here : StandsAround w (files d) (files e) = kept (StandsAround w (files d)) d e keeps (λ path outside. refl) in
    ap (λ (h : Held). bytes_of h.now) (here (input_at w t) (input_outside w homes t))

pub touch_clock : (d e : Told) → AddsBy 0 d e → clock e ≡ clock d
touch_clock d e adds = omega (arith, adds.calls)

-- ---- no turn

no_turn : (S : Rule) (mode : Mode) (P : Type 0) (tells : Type 0) (w : Work) (m : Board) (seen : Seen) (had : List Given) (d : Told) → MayMakeIn mode [] → calls_of mode w.home m [] ≡ 0 → givens_in mode w (text_at w (files d)) (clock d) m [] ≡ [] → AreChildrenOf w m seen.running → Turn S mode P tells w m m seen seen had had d d
no_turn S mode P tells w m seen had d made none nothing fits =
    record {
      fits = fits;
      goes = record {
        entries = [];
        of_work = tt;
        run = tt;
        reached = refl;
        made = made;
        log = sym (append-nil seen.log);
        givens = λ _. sym (append-nil had) ∙ ap (λ (gs : List Given). had ++ gs) (sym nothing);
        start_faults = omega arith;
      };
      keeps = λ _. keeps_none w d;
      calls = λ _. as_many_same P (clock d) (clock d + calls_of mode w.home m []) (omega (arith, none));
    }

pub turn_none : (S : Rule) (mode : Mode) (P : Type 0) (tells : Type 0) (w : Work) (m : Board) (seen : Seen) (had : List Given) (d : Told) → AreChildrenOf w m seen.running → Turn S mode P tells w m m seen seen had had d d
turn_none S Working P tells w m seen had d fits = no_turn S Working P tells w m seen had d tt refl refl fits
turn_none S Waiting P tells w m seen had d fits = no_turn S Waiting P tells w m seen had d refl refl refl fits

pub turn_same : (S : Rule) (mode : Mode) (P : Type 0) (tells : Type 0) (w : Work) (m n : Board) (old new : Seen) (had has : List Given) (d e : Told) → AreChildrenOf w m old.running → n ≡ m → new ≡ old → (tells → (has ≡ had) × (e ≡ d)) → Turn S mode P tells w m n old new had has d e
turn_same S mode P tells w m n old new had has d e fits machine seen told =
    let base = turn_none S mode P tells w m old had d fits in
    let moved : Turn S mode P tells w m n old new had had d d = subst (λ (k : Board). Turn S mode P tells w m k old new had had d d) (sym machine) (subst (λ (s : Seen). Turn S mode P tells w m m old s had had d d) (sym seen) base) in
    record {
      fits = moved.fits;
      goes = record {
        entries = moved.goes.entries;
        of_work = moved.goes.of_work;
        run = moved.goes.run;
        reached = moved.goes.reached;
        made = moved.goes.made;
        log = moved.goes.log;
        givens = λ t. (told t).0 ∙ moved.goes.givens t;
        start_faults = moved.goes.start_faults;
      };
      keeps = λ t. subst (λ (x : Told). Keeps w d x) (sym (told t).1) (keeps_none w d);
      calls = λ t. subst (λ (x : Told). AreAsMany P (clock x) (clock d + calls_of mode w.home m (steps_of moved.goes.entries))) (sym (told t).1) (moved.calls t);
    }

pub turn_weaker : (S : Rule) (mode : Mode) (P Q : Type 0) (tells : Type 0) (w : Work) (m n : Board) (old new : Seen) (had has : List Given) (d e : Told) → (Q → P) → Turn S mode P tells w m n old new had has d e → Turn S mode Q tells w m n old new had has d e
turn_weaker S mode P Q tells w m n old new had has d e weaker turn =
    record {
      fits = turn.fits;
      goes = turn.goes;
      keeps = turn.keeps;
      calls = λ x. record { most = (turn.calls x).most; exact = λ q. (turn.calls x).exact (weaker q) };
    }

-- ---- one entry

pub turn_one : (S : Rule) (mode : Mode) (P : Type 0) (tells : Type 0) (w : Work) (m n : Board) (x : LogEntry) (old new : Seen) (had has : List Given) (d e : Told) → AreChildrenOf w n new.running → IsEntryOf w x → IsStepWhere S (MayEndIn S mode) m (step_of x) → n ≡ after m (step_of x) → MayMakeIn mode (x ∷ []) → new.log ≡ old.log ++ x ∷ []
    → (tells → has ≡ had ++ givens_in mode w (text_at w (files d)) (clock d) m (step_of x ∷ [])) → old.start_faults ≤ new.start_faults → (tells → Keeps w d e) → (tells → AreAsMany P (clock e) (clock d + calls_of mode w.home m (step_of x ∷ []))) → Turn S mode P tells w m n old new had has d e
turn_one S mode P tells w m n x old new had has d e fits of_work step reached made log givens start_faults keeps calls =
    record {
      fits = fits;
      goes = record {
        entries = x ∷ [];
        of_work = (of_work, tt);
        run = (step, tt);
        reached = reached;
        made = made;
        log = log;
        givens = givens;
        start_faults = start_faults;
      };
      keeps = keeps;
      calls = calls;
    }

given_is : (one : Given) (words : List (List ℕ)) (text : List ℕ) (calls : ℕ) → one.words ≡ words → one.input ≡ text → one.moment ≡ calls → (let given : Given = record { words = words; input = text; moment = calls } in one ≡ given)
given_is one words text calls first second third =
    let by_words : (let x : Given = record { words = one.words; input = one.input; moment = one.moment } in let y : Given = record { words = words; input = one.input; moment = one.moment } in x ≡ y) = ap (λ (ws : List (List ℕ)). let x : Given = record { words = ws; input = one.input; moment = one.moment } in x) first in
    let by_text : (let x : Given = record { words = words; input = one.input; moment = one.moment } in let y : Given = record { words = words; input = text; moment = one.moment } in x ≡ y) = ap (λ (t : List ℕ). let x : Given = record { words = words; input = t; moment = one.moment } in x) second in
    let by_moment : (let x : Given = record { words = words; input = text; moment = one.moment } in let y : Given = record { words = words; input = text; moment = calls } in x ≡ y) = ap (λ (i : ℕ). let x : Given = record { words = words; input = text; moment = i } in x) third in
    by_words ∙ by_text ∙ by_moment

-- what was handed to a start of a task, before which so many calls were made
pub record IsGiven (w : Work) (text : List ℕ) (calls : ℕ) (had has : List Given) (one : Given) : Type 0 where
  pub is : has ≡ had ++ one ∷ []
  pub words : one.words ≡ w.words
  pub input : one.input ≡ text
  pub moment : one.moment ≡ calls

givens_one : (w : Work) (text : List ℕ) (calls : ℕ) (had has : List Given) (one : Given) → IsGiven w text calls had has one → (let given : Given = record { words = w.words; input = text; moment = calls } in has ≡ had ++ given ∷ [])
givens_one w text calls had has one given =
    given.is ∙ ap (λ (g : Given). had ++ g ∷ []) (given_is one w.words text calls given.words given.input given.moment)

pub turn_started : (S : Rule) (P : Type 0) (tells : Type 0) (w : Work) (m n : Board) (child : Child) (old new : Seen) (had has : List Given) (one : Given) (d e : Told) → S m (task_no child) (number_no child) → (next : IsNext m.tasks (task_no child) (number_no child)) → AreChildrenOf w m old.running → IsNew w (text_at w (files d) (task_no child)) (task_no child) (number_no child) child
    → n ≡ after m (Start (task_no child) (number_no child)) → new ≡ record { running = old.running ++ child ∷ []; log = old.log ++ Started child.attempt ∷ []; start_faults = old.start_faults }
    → (tells → IsGiven w (text_at w (files d) (task_no child)) (clock d) had has one) → (tells → AddsBy 0 d e × Touches w (task_no child) (number_no child) (files d) (files e)) → Turn S Working P tells w m n old new had has d e
turn_started S P tells w m n child old new had has one d e may next fits is_new reached seen given told =
    let t = task_no child in
    let a = number_no child in
    let number_is = number_of w m t a old.running next fits in
    let below = below_of w m t a old.running next fits in
    let log : new.log ≡ old.log ++ Started child.attempt ∷ [] = ap (λ (s : Seen). s.log) seen in
    let running : new.running ≡ old.running ++ child ∷ [] = ap (λ (s : Seen). s.running) seen in
    let faults : new.start_faults ≡ old.start_faults = ap (λ (s : Seen). s.start_faults) seen in
    let fits_now : AreChildrenOf w n new.running = subst (λ (k : Board). AreChildrenOf w k new.running) (sym reached) (subst (λ (k : Board). AreChildrenOf w k new.running) (sym (after_start m t a next)) (subst (λ (cs : List Child). AreChildrenOf w (with_tried m t (Open (a + 1) (a ∷ next.running))) cs) (sym running) (fits_start w m (text_at w (files d) t) t a child old.running next fits is_new))) in
    turn_one S Working P tells w m n (Started child.attempt) old new had has d e fits_now (record { job = is_new.job; phase = is_new.phase }) may reached tt log (λ x. givens_one w (text_at w (files d) t) (clock d) had has one (given x)) (omega (arith, faults)) (λ x. keeps_touch w t a d e below number_is (told x).0 (told x).1) (λ x. as_many_same P (clock e) (clock d + calls_of Working w.home m (Start t a ∷ [])) (omega (arith, touch_clock d e (told x).0)))

pub turn_refused : (S : Rule) (P : Type 0) (tells : Type 0) (w : Work) (m n : Board) (attempt : Attempt) (old new : Seen) (had has : List Given) (one : Given) (d e : Told) → S m attempt.task.task attempt.number → (next : IsNext m.tasks attempt.task.task attempt.number) → AreChildrenOf w m old.running → attempt.task.job ≡ w.folder → attempt.task.phase ≡ w.phase
    → n ≡ after m (Refuse attempt.task.task attempt.number) → new.running ≡ old.running → new.log ≡ old.log ++ Refused attempt ∷ [] → old.start_faults ≤ new.start_faults
    → (tells → IsGiven w (text_at w (files d) attempt.task.task) (clock d) had has one) → (tells → AddsBy 0 d e × Touches w attempt.task.task attempt.number (files d) (files e)) → Turn S Working P tells w m n old new had has d e
turn_refused S P tells w m n attempt old new had has one d e may next fits job phase reached running log faults given told =
    let t = attempt.task.task in
    let a = attempt.number in
    let number_is = number_of w m t a old.running next fits in
    let below = below_of w m t a old.running next fits in
    let fits_now : AreChildrenOf w n new.running = subst (λ (k : Board). AreChildrenOf w k new.running) (sym reached) (subst (λ (k : Board). AreChildrenOf w k new.running) (sym (after_refused m t a next)) (subst (λ (cs : List Child). AreChildrenOf w (with_tried m t (Open (a + 1) next.running)) cs) (sym running) (fits_refused w m t a old.running next fits))) in
    turn_one S Working P tells w m n (Refused attempt) old new had has d e fits_now (record { job = job; phase = phase }) may reached tt log (λ x. givens_one w (text_at w (files d) t) (clock d) had has one (given x)) faults (λ x. keeps_touch w t a d e below number_is (told x).0 (told x).1) (λ x. as_many_same P (clock e) (clock d + calls_of Working w.home m (Refuse t a ∷ [])) (omega (arith, touch_clock d e (told x).0)))

may_end : (mode : Mode) (attempt : Attempt) (status : ℤ) → MayMakeIn mode (Left attempt status ∷ [])
may_end Working attempt status = tt
may_end Waiting attempt status = refl

-- an end, and then maybe a commit
pub turn_ended : (S : Rule) (mode : Mode) (P : Type 0) (tells : Type 0) (w : Work) (gives : List (List ℕ) → List ℕ → List ℕ) (m n : Board) (attempt : Attempt) (status : ℤ) (child : Child) (old new late : Seen) (had has have : List Given) (d e f : Told) → MayEndIn S mode m → AreChildrenOf w m old.running → Ends attempt status child old new → (tells → Leaves gives child status d e)
    → n ≡ ended m attempt status → late ≡ new → (tells → (has ≡ had) × (have ≡ has)) → (tells → Keeps w e f) → (tells → AreAsMany P (clock f) (clock e + calls_of mode w.home m (End attempt.task.task attempt.number status ∷ []))) → Turn S mode P tells w m n old late had have d f
turn_ended S mode P tells w gives m n attempt status child old new late had has have d e f allowed fits ends leaves reached same given keeps counts =
    let t = attempt.task.task in
    let a = attempt.number in
    let runs = end_runs w m attempt status child old new fits ends in
    let below = end_below w m attempt status child old new fits ends in
    let number = end_number w m attempt status child old new fits ends in
    let job = end_job w m attempt status child old new fits ends in
    let log : late.log ≡ old.log ++ Left attempt status ∷ [] = ap (λ (s : Seen). s.log) same ∙ ends.log in
    let running : late.running ≡ new.running = ap (λ (s : Seen). s.running) same in
    let faults : late.start_faults ≡ old.start_faults = ap (λ (s : Seen). s.start_faults) same ∙ ends.start_faults in
    let fits_now : AreChildrenOf w n late.running = subst (λ (x : Board). AreChildrenOf w x late.running) (sym reached) (subst (λ (cs : List Child). AreChildrenOf w (ended m attempt status) cs) (sym running) (fits_ended w m attempt status child old new fits ends)) in
    turn_one S mode P tells w m n (Left attempt status) old late had have d f fits_now (record { job = job.0; phase = job.1 }) (runs, allowed) reached (may_end mode attempt status) log (λ x. (given x).1 ∙ (given x).0 ∙ sym (append-nil had) ∙ ap (λ (gs : List Given). had ++ gs) (sym (ends_give_none mode w (text_at w (files d)) (clock d) m t a status))) (omega (arith, faults)) (λ x. keeps_then w d e f (keeps_touch w t a d e below number (leaves x).adds (touches_ended w m attempt status child old new (files d) (files e) fits ends (leaves x).only)) (keeps x)) (λ x. after_end_calls d e f (calls_of mode w.home m (End t a status ∷ [])) (touch_clock d e (leaves x).adds) (counts x))
  where
    after_end_calls : (d e f : Told) (c : ℕ) → clock e ≡ clock d → AreAsMany P (clock f) (clock e + c) → AreAsMany P (clock f) (clock d + c)
    after_end_calls d e f c first count =
        record { most = omega (arith, first, count.most); exact = λ p. let is = count.exact p in omega (arith, first, is) }

-- ---- one turn after another

-- where each commit of the first one was a call
pub turn_then : (S : Rule) (mode : Mode) (Q R : Type 0) (tells : Type 0) (w : Work) (m n k : Board) (a b c : Seen) (had has have : List Given) (d e f : Told) → (R → Q) → Turn S mode (Unit {0}) tells w m n a b had has d e → Turn S mode Q tells w n k b c has have e f → Turn S mode R tells w m k a c had have d f
turn_then S mode Q R tells w m n k a b c had has have d e f weaker first second =
    let xs = first.goes.entries in
    let ys = second.goes.entries in
    let whole = steps-append xs ys in
    let run : IsRunWhere S (MayEndIn S mode) m (steps_of xs ++ steps_of ys) = IsRunWhere-append S (MayEndIn S mode) m (steps_of xs) (steps_of ys) first.goes.run (subst (λ (x : Board). IsRunWhere S (MayEndIn S mode) x (steps_of ys)) first.goes.reached second.goes.run) in
    let reached : k ≡ after_all m (steps_of xs ++ steps_of ys) = second.goes.reached ∙ ap (λ (x : Board). after_all x (steps_of ys)) first.goes.reached ∙ sym (after_all-append m (steps_of xs) (steps_of ys)) in
    let texts = λ (x : tells). keeps_texts w first.fits.small.homes d e (first.keeps x) in
    let before = givens_in mode w (text_at w (files d)) (clock d) m (steps_of xs) in
    let after_them = givens_in mode w (text_at w (files e)) (clock e) n (steps_of ys) in
    let givens : (x : tells) → have ≡ had ++ givens_in mode w (text_at w (files d)) (clock d) m (steps_of xs ++ steps_of ys) = λ x. second.goes.givens x ∙ ap (λ (gs : List Given). gs ++ after_them) (first.goes.givens x) ∙ append_assoc had before after_them ∙ ap (λ (gs : List Given). had ++ gs) (sym (givens_then mode w (text_at w (files d)) (text_at w (files e)) (clock d) (clock e) m n (steps_of xs) (steps_of ys) (texts x) ((first.calls x).exact tt) first.goes.reached)) in
    let calls : (x : tells) → AreAsMany R (clock f) (clock d + calls_of mode w.home m (steps_of xs ++ steps_of ys)) = λ x. subst (λ (i : ℕ). AreAsMany R (clock f) (clock d + i)) (sym (calls-append mode w.home m (steps_of xs) (steps_of ys))) (as_many_then (Unit {0}) Q R (clock d) (clock e) (clock f) (calls_of mode w.home m (steps_of xs)) (calls_of mode w.home (after_all m (steps_of xs)) (steps_of ys)) (λ _. tt) weaker (first.calls x) (subst (λ (y : Board). AreAsMany Q (clock f) (clock e + calls_of mode w.home y (steps_of ys))) first.goes.reached (second.calls x))) in
    record {
      fits = second.fits;
      goes = record {
        entries = xs ++ ys;
        of_work = each_append (IsEntryOf w) xs ys first.goes.of_work second.goes.of_work;
        run = subst (λ (ss : List Step). IsRunWhere S (MayEndIn S mode) m ss) (sym whole) run;
        reached = subst (λ (ss : List Step). k ≡ after_all m ss) (sym whole) reached;
        made = may-append mode xs ys first.goes.made second.goes.made;
        log = second.goes.log ∙ ap (λ (l : List LogEntry). l ++ ys) first.goes.log ∙ append_assoc a.log xs ys;
        givens = λ x. subst (λ (ss : List Step). have ≡ had ++ givens_in mode w (text_at w (files d)) (clock d) m ss) (sym whole) (givens x);
        start_faults = omega (arith, first.goes.start_faults, second.goes.start_faults);
      };
      keeps = λ x. keeps_then w d e f (first.keeps x) (second.keeps x);
      calls = λ x. subst (λ (ss : List Step). AreAsMany R (clock f) (clock d + calls_of mode w.home m ss)) (sym whole) (calls x);
    }

-- ---- ends of the three kinds

-- nothing is to be committed
pub turn_rests : (S : Rule) (P : Type 0) (tells : Type 0) (w : Work) (gives : List (List ℕ) → List ℕ → List ℕ) (m n : Board) (attempt : Attempt) (status : ℤ) (child : Child) (old new : Seen) (had has : List Given) (d e : Told) → IsBusy S m → AreChildrenOf w m old.running → Ends attempt status child old new → (tells → Leaves gives child status d e)
    → n ≡ ended m attempt status → (tells → has ≡ had) → is_due m attempt status ≡ false → Turn S Working P tells w m n old new had has d e
turn_rests S P tells w gives m n attempt status child old new had has d e busy fits ends leaves reached given due =
    turn_ended S Working P tells w gives m n attempt status child old new new had has has d e e busy fits ends leaves reached refl (λ x. (given x, refl)) (λ x. keeps_none w e) (λ x. let none = no_commit w.home m attempt.task.task attempt.number status due in as_many_same P (clock e) (clock e + calls_of Working w.home m (End attempt.task.task attempt.number status ∷ [])) (omega (arith, none)))

-- the attempt is committed, or that was tried
pub turn_commits : {T : Type 0} (S : Rule) (result : Result T CommitFault) (tells : Type 0) (w : Work) (gives : List (List ℕ) → List ℕ → List ℕ) (m n : Board) (attempt : Attempt) (status : ℤ) (child : Child) (old new late : Seen) (had has have : List Given) (d e f : Told) → IsBusy S m → AreChildrenOf w m old.running → Ends attempt status child old new → (tells → Leaves gives child status d e)
    → n ≡ ended m attempt status → late ≡ new → (tells → (has ≡ had) × (have ≡ has)) → is_due m attempt status ≡ true → (tells → Through (Both (StandsBeside (folder_at w attempt.task.task attempt.number) (home_at w attempt.task.task) (files e))) e f) → (tells → AreAsMany (IsExact w.home result) (clock f) (clock e + calls_at w.home)) → Turn S Working (IsExact w.home result) tells w m n old late had have d f
turn_commits S result tells w gives m n attempt status child old new late had has have d e f busy fits ends leaves reached same given due steps counts =
    turn_ended S Working (IsExact w.home result) tells w gives m n attempt status child old new late had has have d e f busy fits ends leaves reached same given (λ x. keeps_commit w attempt.task.task attempt.number e f (end_below w m attempt status child old new fits ends) (end_number w m attempt status child old new fits ends) (steps x)) (λ x. subst (λ (k : ℕ). AreAsMany (IsExact w.home result) (clock f) (clock e + k)) (sym (commit_due w.home m attempt.task.task attempt.number status due)) (counts x))

-- the child was only waited for
pub turn_waits : (S : Rule) (P : Type 0) (tells : Type 0) (w : Work) (gives : List (List ℕ) → List ℕ → List ℕ) (m n : Board) (attempt : Attempt) (status : ℤ) (child : Child) (old new : Seen) (had has : List Given) (d e : Told) → AreChildrenOf w m old.running → Ends attempt status child old new → (tells → Leaves gives child status d e)
    → n ≡ ended m attempt status → (tells → has ≡ had) → Turn S Waiting P tells w m n old new had has d e
turn_waits S P tells w gives m n attempt status child old new had has d e fits ends leaves reached given =
    turn_ended S Waiting P tells w gives m n attempt status child old new new had has has d e e tt fits ends leaves reached refl (λ x. (given x, refl)) (λ x. keeps_none w e) (λ x. as_many_same P (clock e) (clock e + 0) (omega arith))

-- what the directory has for the tasks once the attempt is committed
pub commits_stand : (w : Work) (gives : List (List ℕ) → List ℕ → List ℕ) (m n : Board) (attempt : Attempt) (status : ℤ) (child : Child) (old new late : Seen) (d e f : Told) → AreChildrenOf w m old.running → Ends attempt status child old new → Leaves gives child status d e → n ≡ ended m attempt status → late ≡ new → is_due m attempt status ≡ true → (NoneDead m.tasks → HasWork w gives (files d) m old.running)
    → Through (Both (StandsBeside (folder_at w attempt.task.task attempt.number) (home_at w attempt.task.task) (files e))) e f → IsMoved w attempt.task.task attempt.number (files e) (files f) → HasWork w gives (files f) n late.running
commits_stand w gives m n attempt status child old new late d e f fits ends leaves reached same due stands steps moved =
    let t = attempt.task.task in
    let a = attempt.number in
    let beside : StandsBeside (folder_at w t a) (home_at w t) (files e) (files f) = kept (StandsBeside (folder_at w t a) (home_at w t) (files e)) e f steps (λ path one other. refl) in
    let done = done_after w m attempt status child old new fits ends (due_success m attempt status due).0 in
    let now_is = stands_committed w fits.small.homes gives (ended m attempt status) new.running t a done.0 (files e) (files f) fits.small.few (end_below w m attempt status child old new fits ends) (end_number w m attempt status child old new fits ends) done.1 beside moved (due_delivers w gives m attempt status child old new d e fits ends leaves due stands) in
    subst (λ (k : Board). HasWork w gives (files f) k late.running) (sym reached) (subst (λ (s : Seen). HasWork w gives (files f) (ended m attempt status) s.running) (sym same) now_is)
