-- The fields of `Twins` through a write of a task, and what its queues say of the board.
use Rattle.std.proofs.Common.{zero, suc, Option, Some, None, MatchOption, ◌≡◌, ℕ, ◌+◌, ◌-◌, ◌<◌, ◌≤◌, inl, inr, ⊎_elim, Bool, true, false, cond, eqb, List, [], ◌∷◌, length, get_or, map, set, replicate, sum_by, min, refl, sym, ap, ◌∙◌, subst, arith, leb-true, le-leb}
use Rattle.std.specs.Option.{is_some, option_or}
use Rattle.std.proofs.lemmas.Bool.{cases_Bool, cases_eq, cases_lt, false≢true}
use Rattle.std.proofs.lemmas.List.{map-set, get_or_default, get_or-replicate, get_or_past, length-map, length-replicate}
use Rattle.std.proofs.lemmas.List.Folds.{sum_by-replicate}
use Rattle.std.proofs.lemmas.List.Sums.{sum_by-set, sum_by-le, get_or-le-sum_by}
use Rattle.std.proofs.Math.ListN as N
use Rattle.task_core.specs.Board.{Board, Tried, Open, Finished, tried_at, with_tried, runs, running_of, Runs, ended, is_dead, is_done, IsNext, IsNumbered, AreNumbered, AllDone, MayStart, IsIdle, IsBusy, IsLeastDead, NoneDead, fresh}
use Rattle.task_core.specs.Rules.{IsLeast, tried_at-set}
use Rattle.task_core.proofs.TriedLemmas.{alive_running, below_from_next, below_from_runs, numbered_set, started_numbered, refused_numbered, ended_numbered, ended_runs, fresh_is_numbered, set_same, set_other}
use Rattle.twins.specs.declared.task.Pair.TheVariants.{Neither}
use Rattle.twins.specs.declared.task.Twin.{Twin}
use Rattle.twins.specs.declared.task.Twin.TheVariants.{Open as OpenTwin, Finished as FinishedTwin}
use Rattle.twins.specs.Numbers.{contains}
use Rattle.twins.specs.Rules.{MayStartSecond, MayStartTwin, IsLone}
use Rattle.twins.specs.Tasks.{twin_tried, tasks_of, is_idle, is_lone, lacks, AreTwins, MayPut}

abbrev pub board_of : ℕ → List Twin → Board
board_of slots twins = record { slots = slots; tasks = tasks_of twins }

-- ---- a task that was read, and one that was written

pub read_is : (twins : List Twin) (t : ℕ) (v : Twin) → t < length twins → v ≡ get_or twins t v → tried_at (tasks_of twins) t ≡ twin_tried v
read_is twins t v below read =
    N.get_or-map twin_tried twins t (FinishedTwin Neither) ∙ ap twin_tried (sym (get_or_default twins t v (FinishedTwin Neither) below) ∙ sym read)

pub inside : (twins : List Twin) (t : ℕ) → t < length (tasks_of twins) → t < length twins
inside twins t below = omega (arith, below, length-map twins twin_tried)

pub set_is : (slots : ℕ) (twins : List Twin) (t : ℕ) (v : Twin) → board_of slots (set twins t v) ≡ with_tried (board_of slots twins) t (twin_tried v)
set_is slots twins t v = ap (λ (l : List Tried). let b : Board = record { slots = slots; tasks = l } in b) (map-set twin_tried twins t v)

-- of a task that may be started one attempt runs at most
pub next_twin : (b : Board) (t a : ℕ) → MayStartTwin b t a → (next : IsNext b.tasks t a) × (length next.running ≤ 1)
next_twin b t a (inl may) = (record { running = []; is = may.idle.is; left = may.idle.left }, omega arith)
next_twin b t a (inr may) = (record { running = may.lone.one ∷ []; is = may.lone.is; left = may.lone.left }, omega arith)

pub slot_free : (b : Board) (t a : ℕ) → MayStartTwin b t a → running_of b.tasks < b.slots
slot_free b t a (inl may) = may.free.slot
slot_free b t a (inr may) = may.free.slot

pub none_dead : (b : Board) (t a : ℕ) → MayStartTwin b t a → NoneDead b.tasks
none_dead b t a (inl may) = may.free.none_dead
none_dead b t a (inr may) = may.free.none_dead

-- ---- the dead tasks after a write

dead_at-set : (tasks : List Tried) (t u : ℕ) (v : Tried) → t < length tasks → is_dead (tried_at (set tasks t v) u) ≡ cond (eqb t u) (is_dead v) (is_dead (tried_at tasks u))
dead_at-set tasks t u v below = ap is_dead (tried_at-set tasks t u v below) ∙ of_cond (eqb t u)
  where
    of_cond : (b : Bool) → is_dead (cond b v (tried_at tasks u)) ≡ cond b (is_dead v) (is_dead (tried_at tasks u))
    of_cond true = refl
    of_cond false = refl

dead_other : (tasks : List Tried) (t u : ℕ) (v : Tried) → t < length tasks → (t ≡ u → ⊥) → is_dead (tried_at (set tasks t v) u) ≡ is_dead (tried_at tasks u)
dead_other tasks t u v below differ = ap is_dead (set_other tasks t u v below differ)

-- none dies, and the dead are the same
dead_kept : (tasks : List Tried) (t u : ℕ) (v : Tried) → t < length tasks → is_dead (tried_at tasks t) ≡ false → is_dead v ≡ false → is_dead (tried_at (set tasks t v) u) ≡ is_dead (tried_at tasks u)
dead_kept tasks t u v below old new =
    ⊎_elim
    (λ (same : t ≡ u). ap (λ (k : ℕ). is_dead (tried_at (set tasks t v) k)) (sym same) ∙ ap is_dead (set_same tasks t v below) ∙ new ∙ sym old ∙ ap (λ (k : ℕ). is_dead (tried_at tasks k)) same)
    (dead_other tasks t u v below)
    (cases_eq t u)

least_kept : (o : Option ℕ) (tasks : List Tried) (t : ℕ) (v : Tried) → t < length tasks → is_dead (tried_at tasks t) ≡ false → is_dead v ≡ false → MatchOption o (NoneDead tasks) (λ k. IsLeastDead tasks k) → MatchOption o (NoneDead (set tasks t v)) (λ k. IsLeastDead (set tasks t v) k)
least_kept None tasks t v below old new h = λ u. dead_kept tasks t u v below old new ∙ h u
least_kept (Some k) tasks t v below old new h = record {
  dead = dead_kept tasks t k v below old new ∙ h.dead;
  least = λ u before. dead_kept tasks t u v below old new ∙ h.least u before;
}

-- t joins the dead
least_joined : (o : Option ℕ) (tasks : List Tried) (t k : ℕ) (v : Tried) → t < length tasks → is_dead (tried_at tasks t) ≡ false → is_dead v ≡ true → MatchOption o (NoneDead tasks) (λ k. IsLeastDead tasks k) → MatchOption o (k ≡ t) (λ u. k ≡ min u t) → IsLeastDead (set tasks t v) k
least_joined None tasks t k v below old new h is = rw is (record {
  dead = ap is_dead (set_same tasks t v below) ∙ new;
  least = λ u before. dead_other tasks t u v below (λ same. omega (arith, same, before)) ∙ h u;
})
least_joined (Some w) tasks t k v below old new h is =
    ⊎_elim
    (λ (less : w < t). let here : k ≡ w = omega (arith, is, less) in rw here (record {
      dead = dead_other tasks t w v below (λ same. omega (arith, same, less)) ∙ h.dead;
      least = λ u before. dead_other tasks t u v below (λ same. omega (arith, same, before, less)) ∙ h.least u before;
    }))
    (λ (more : t ≤ w). let here : k ≡ t = omega (arith, is, more) in rw here (record {
      dead = ap is_dead (set_same tasks t v below) ∙ new;
      least = λ u before. dead_other tasks t u v below (λ same. omega (arith, same, before)) ∙ h.least u (omega (arith, before, more));
    }))
    (cases_lt w t)

least_set : (o p : Option ℕ) (tasks : List Tried) (t : ℕ) (v : Tried) → t < length tasks → is_dead (tried_at tasks t) ≡ false → MatchOption o (NoneDead tasks) (λ k. IsLeastDead tasks k) → (is_dead v ≡ false → p ≡ o) → (is_dead v ≡ true → MatchOption p ⊥ (λ k. MatchOption o (k ≡ t) (λ u. k ≡ min u t)))
    → MatchOption p (NoneDead (set tasks t v)) (λ k. IsLeastDead (set tasks t v) k)
least_set o p tasks t v below old h alive dead =
    ⊎_elim
    (λ (is : is_dead v ≡ true). joined p is (dead is))
    (λ (is : is_dead v ≡ false). subst (λ (q : Option ℕ). MatchOption q (NoneDead (set tasks t v)) (λ k. IsLeastDead (set tasks t v) k)) (sym (alive is)) (least_kept o tasks t v below old is h))
    (cases_Bool (is_dead v))
  where
    joined : (p : Option ℕ) → is_dead v ≡ true → MatchOption p ⊥ (λ k. MatchOption o (k ≡ t) (λ u. k ≡ min u t)) → MatchOption p (NoneDead (set tasks t v)) (λ k. IsLeastDead (set tasks t v) k)
    joined None is none = absurd none
    joined (Some k) is some = least_joined o tasks t k v below old is h some

-- ---- the fields after a write

put_items : (twins : List Twin) (t : ℕ) (v : Twin) → tasks_of (set twins t v) ≡ set (tasks_of twins) t (twin_tried v)
put_items twins t v = map-set twin_tried twins t v

put_flags : (f : Tried → Bool) (tasks : List Tried) (flags : List Bool) (t : ℕ) (v : Tried) → flags ≡ map f tasks → set flags t (f v) ≡ map f (set tasks t v)
put_flags f tasks flags t v is = ap (λ (l : List Bool). set l t (f v)) is ∙ sym (map-set f tasks t v)

pub put_twins : (twins : List Twin) (idle lone : List Bool) (running unfinished more fewer : ℕ) (o p : Option ℕ) (t : ℕ) (v : Twin) → AreTwins twins idle lone running unfinished o → MayPut (tasks_of twins) t (twin_tried v) more → fewer + lacks (tried_at (tasks_of twins) t) ≡ unfinished + lacks (twin_tried v)
    → (is_dead (twin_tried v) ≡ false → p ≡ o) → (is_dead (twin_tried v) ≡ true → MatchOption p ⊥ (λ k. MatchOption o (k ≡ t) (λ u. k ≡ min u t))) → AreTwins (set twins t v) (set idle t (is_idle (twin_tried v))) (set lone t (is_lone (twin_tried v))) more fewer p
put_twins twins idle lone running unfinished more fewer o p t v are may lacking alive dead =
    let tasks = tasks_of twins in
    let w = twin_tried v in
    let items = sym (put_items twins t v) in
    let sum = sum_by-set lacks tasks t w (Finished []) may.below in
    record {
      numbered = subst AreNumbered items (numbered_set tasks t w may.below may.numbered are.numbered);
      idle_is = put_flags is_idle tasks idle t w are.idle_is ∙ ap (map is_idle) items;
      lone_is = put_flags is_lone tasks lone t w are.lone_is ∙ ap (map is_lone) items;
      running_is = may.running_is ∙ ap running_of items;
      unfinished_is = (let left : fewer ≡ sum_by lacks (set tasks t w) = omega (arith, lacking, sum, are.unfinished_is) in left) ∙ ap (sum_by lacks) items;
      least_dead_is = subst (λ (l : List Tried). MatchOption p (NoneDead l) (λ k. IsLeastDead l k)) items (least_set o p tasks t w may.below may.alive are.least_dead_is alive dead);
    }

pub some_lack : (twins : List Twin) (idle lone : List Bool) (running unfinished : ℕ) (o : Option ℕ) (t : ℕ) → AreTwins twins idle lone running unfinished o → t < length (tasks_of twins) → lacks (tried_at (tasks_of twins) t) ≤ unfinished
some_lack twins idle lone running unfinished o t are below =
    let one = get_or-le-sum_by lacks (tasks_of twins) t (Finished []) below in omega (arith, one, are.unfinished_is)

-- ---- what each step may put

pub start_may : (tasks : List Tried) (running t a : ℕ) (v : Tried) (next : IsNext tasks t a) → AreNumbered tasks → NoneDead tasks → running ≡ running_of tasks → v ≡ Open (a + 1) (a ∷ next.running) → MayPut tasks t v (running + 1)
start_may tasks running t a v next numbered alive is_running is =
    let w = Open (a + 1) (a ∷ next.running) in
    let below = below_from_next tasks t a next in
    let here : IsNumbered (Open a next.running) = subst IsNumbered next.is (numbered t) in
    let more = rw next.is at (sum_by-set runs tasks t w (Finished []) below) in
    rw is (record {
      below = below;
      alive = alive t;
      done = λ done. absurd (false≢true (sym (ap is_done next.is) ∙ done));
      numbered = started_numbered a next.running next.left here;
      running_is = omega (arith, more, is_running);
    })

pub refuse_may : (tasks : List Tried) (running t a : ℕ) (v : Tried) (next : IsNext tasks t a) → AreNumbered tasks → NoneDead tasks → running ≡ running_of tasks → v ≡ Open (a + 1) next.running → MayPut tasks t v running
refuse_may tasks running t a v next numbered alive is_running is =
    let w = Open (a + 1) next.running in
    let below = below_from_next tasks t a next in
    let here : IsNumbered (Open a next.running) = subst IsNumbered next.is (numbered t) in
    let more = rw next.is at (sum_by-set runs tasks t w (Finished []) below) in
    rw is (record {
      below = below;
      alive = alive t;
      done = λ done. absurd (false≢true (sym (ap is_done next.is) ∙ done));
      numbered = refused_numbered a next.running next.left here;
      running_is = omega (arith, more, is_running);
    })

ended_done : (v : Tried) (a : ℕ) (ok : Bool) → is_done v ≡ true → is_done (ended a ok v) ≡ true
ended_done (Open n rs) a ok done = absurd (false≢true done)
ended_done (Finished rs) a ok done = refl

pub end_may : (tasks : List Tried) (running t a : ℕ) (ok : Bool) (v : Tried) → Runs tasks t a → AreNumbered tasks → running ≡ running_of tasks → v ≡ ended a ok (tried_at tasks t) → MayPut tasks t v (running - 1)
end_may tasks running t a ok v runs_it numbered is_running is =
    let was = tried_at tasks t in
    let w = ended a ok was in
    let below = below_from_runs tasks t a runs_it in
    let more = sum_by-set runs tasks t w (Finished []) below in
    let less = ended_runs was a ok runs_it in
    rw is (record {
      below = below;
      alive = alive_running was a runs_it;
      done = ended_done was a ok;
      numbered = ended_numbered was a ok (numbered t);
      running_is = omega (arith, more, less, is_running);
    })

pub one_runs : (tasks : List Tried) (running t a : ℕ) → Runs tasks t a → running ≡ running_of tasks → 1 ≤ running
one_runs tasks running t a runs_it is_running =
    let below = below_from_runs tasks t a runs_it in
    let one = get_or-le-sum_by runs tasks t (Finished []) below in
    let less = ended_runs (tried_at tasks t) a false runs_it in
    omega (arith, one, less, is_running)

-- ---- what the queues say

pub idle_is : (v : Tried) → is_idle v ≡ true → (a : ℕ) × (v ≡ Open a []) × (a ≤ 4)
idle_is (Open n []) is = (n, refl, leb-true n 4 is)
idle_is (Open n (a ∷ rs)) is = absurd (false≢true is)
idle_is (Finished rs) is = absurd (false≢true is)

pub lone_is : (v : Tried) → is_lone v ≡ true → (a one : ℕ) × (v ≡ Open a (one ∷ [])) × (a ≤ 4)
lone_is (Open n []) is = absurd (false≢true is)
lone_is (Open n (a ∷ [])) is = (n, a, refl, leb-true n 4 is)
lone_is (Open n (a ∷ b ∷ rs)) is = absurd (false≢true is)
lone_is (Finished rs) is = absurd (false≢true is)

is_idle_is : (v : Tried) (a : ℕ) → v ≡ Open a [] → a ≤ 4 → is_idle v ≡ true
is_idle_is v a is left = rw is (le-leb a 4 left)

is_lone_is : (v : Tried) (a one : ℕ) → v ≡ Open a (one ∷ []) → a ≤ 4 → is_lone v ≡ true
is_lone_is v a one is left = rw is (le-leb a 4 left)

flag_is : (f : Tried → Bool) (tasks : List Tried) (flags : List Bool) (t : ℕ) → f (Finished []) ≡ false → flags ≡ map f tasks → contains flags t ≡ f (tried_at tasks t)
flag_is f tasks flags t none is =
    ap (λ (l : List Bool). contains l t) is ∙ ap (λ (d : Bool). get_or (map f tasks) t d) (sym none) ∙ N.get_or-map f tasks t (Finished [])

clash : (x : Bool) → x ≡ true → x ≡ false → ⊥
clash x one other = false≢true (sym other ∙ one)

pub none_idle : (tasks : List Tried) (idle : List Bool) → idle ≡ map is_idle tasks → ((t : ℕ) → contains idle t ≡ false) → (t a : ℕ) → IsIdle tasks t a → ⊥
none_idle tasks idle is none t a here =
    clash (is_idle (tried_at tasks t)) (is_idle_is (tried_at tasks t) a here.is here.left) (sym (flag_is is_idle tasks idle t refl is) ∙ none t)

pub none_lone : (tasks : List Tried) (lone : List Bool) → lone ≡ map is_lone tasks → ((t : ℕ) → contains lone t ≡ false) → (t a : ℕ) → IsLone tasks t a → ⊥
none_lone tasks lone is none t a here =
    clash (is_lone (tried_at tasks t)) (is_lone_is (tried_at tasks t) a here.one here.is here.left) (sym (flag_is is_lone tasks lone t refl is) ∙ none t)

-- the least of a queue
pub least_is_idle : (tasks : List Tried) (idle : List Bool) (t : ℕ) → idle ≡ map is_idle tasks → IsLeast (contains idle) t → ((a : ℕ) × IsIdle tasks t a) × ((u c : ℕ) → u < t → IsIdle tasks u c → ⊥)
least_is_idle tasks idle t is here =
    let found = idle_is (tried_at tasks t) (sym (flag_is is_idle tasks idle t refl is) ∙ here.is) in
    ((found.0, record { is = found.1; left = found.2 }), λ u c before other. clash (is_idle (tried_at tasks u)) (is_idle_is (tried_at tasks u) c other.is other.left) (sym (flag_is is_idle tasks idle u refl is) ∙ here.least u before))

pub least_is_lone : (tasks : List Tried) (lone : List Bool) (t : ℕ) → lone ≡ map is_lone tasks → IsLeast (contains lone) t → ((a : ℕ) × IsLone tasks t a) × ((u c : ℕ) → u < t → IsLone tasks u c → ⊥)
least_is_lone tasks lone t is here =
    let found = lone_is (tried_at tasks t) (sym (flag_is is_lone tasks lone t refl is) ∙ here.is) in
    ((found.0, record { one = found.1; is = found.2; left = found.3 }), λ u c before other. clash (is_lone (tried_at tasks u)) (is_lone_is (tried_at tasks u) c other.one other.is other.left) (sym (flag_is is_lone tasks lone u refl is) ∙ here.least u before))

pub doomed_none : (o : Option ℕ) (P : Type 0) (Q : ℕ → Type 0) → is_some o ≡ false → MatchOption o P Q → P
doomed_none None P Q is match' = match'
doomed_none (Some t) P Q is match' = absurd cc

-- the least of a kind of tasks with its number, or there is none
abbrev Finds : (ℕ → ℕ → Type 0) → Option (ℕ × ℕ) → Type 0
Finds Is o = MatchOption o ((t a : ℕ) → Is t a → ⊥) (λ r. Is r.0 r.1 × ((u c : ℕ) → u < r.0 → Is u c → ⊥))

-- what may be started, where a slot is free and no task is dead
pub first_or_second : (o p : Option (ℕ × ℕ)) (b : Board) → running_of b.tasks < b.slots → NoneDead b.tasks → Finds (IsIdle b.tasks) o → Finds (IsLone b.tasks) p → MatchOption (option_or o p) (IsBusy MayStartTwin b) (λ r. MayStartTwin b r.0 r.1)
first_or_second (Some r) p b slot alive idle lone = inl (record { free = record { slot = slot; none_dead = alive }; idle = idle.0; least = idle.1 })
first_or_second None (Some r) b slot alive idle lone = inr (record { free = record { slot = slot; none_dead = alive }; none_idle = idle; lone = lone.0; least = lone.1 })
first_or_second None None b slot alive idle lone = λ t a may.
    ⊎_elim (λ (first : MayStart b t a). idle t a first.idle) (λ (second : MayStartSecond b t a). lone t a second.lone) may

-- ---- all done

lacks_none : (v : Tried) → lacks v ≡ 0 → is_done v ≡ true
lacks_none (Open n rs) none = absurd (omega (arith, none))
lacks_none (Finished rs) none = refl

done_lacks : (v : Tried) → is_done v ≡ true → lacks v ≤ 0
done_lacks (Open n rs) done = absurd (false≢true done)
done_lacks (Finished rs) done = omega arith

pub all_done_from_none : (tasks : List Tried) → sum_by lacks tasks ≡ 0 → AllDone tasks
all_done_from_none tasks none t =
    ⊎_elim
    (λ (below : t < length tasks). let one = get_or-le-sum_by lacks tasks t (Finished []) below in lacks_none (tried_at tasks t) (omega (arith, one, none)))
    (λ (past : length tasks ≤ t). ap is_done (get_or_past tasks t (Finished []) past))
    (cases_lt t (length tasks))

pub none_from_all_done : (tasks : List Tried) → AllDone tasks → sum_by lacks tasks ≡ 0
none_from_all_done tasks all =
    let bound = sum_by-le lacks 0 tasks (λ k d below. rw (get_or_default tasks k d (Finished []) below) (done_lacks (tried_at tasks k) (all k))) in
    omega (arith, bound)

-- ---- the beginning

fresh_runs : (n : ℕ) → running_of (replicate n (Open 1 [])) ≡ 0
fresh_runs n = let none = sum_by-replicate runs n (Open 1 []) in omega (arith, none)

fresh_lacks : (n : ℕ) → sum_by lacks (replicate n (Open 1 [])) ≡ n
fresh_lacks n = let all = sum_by-replicate lacks n (Open 1 []) in omega (arith, all)

map_fresh : (n : ℕ) → tasks_of (replicate n (OpenTwin 1 Neither)) ≡ replicate n (Open 1 [])
map_fresh zero = refl
map_fresh (suc n) = ap (λ (l : List Tried). Open 1 [] ∷ l) (map_fresh n)

fresh_idle : (n : ℕ) → replicate n true ≡ map is_idle (replicate n (Open 1 []))
fresh_idle zero = refl
fresh_idle (suc n) = ap (λ (l : List Bool). true ∷ l) (fresh_idle n)

fresh_lone : (n : ℕ) → replicate n false ≡ map is_lone (replicate n (Open 1 []))
fresh_lone zero = refl
fresh_lone (suc n) = ap (λ (l : List Bool). false ∷ l) (fresh_lone n)

fresh_alive : (n : ℕ) → NoneDead (replicate n (Open 1 []))
fresh_alive n t =
    ⊎_elim
    (λ (below : t < n). ap is_dead (get_or-replicate n t (Open 1 []) (Finished []) below))
    (λ (past : n ≤ t). ap is_dead (get_or_past (replicate n (Open 1 [])) t (Finished []) (omega (arith, past, length-replicate n (Open 1 [])))))
    (cases_lt t n)

pub fresh_twins : (n : ℕ) (twins : List Twin) (idle lone : List Bool) → twins ≡ replicate n (OpenTwin 1 Neither) → idle ≡ replicate n true → lone ≡ replicate n false → AreTwins twins idle lone 0 n None
fresh_twins n twins idle lone is idle_is lone_is =
    let items : replicate n (Open 1 []) ≡ tasks_of twins = sym (ap tasks_of is ∙ map_fresh n) in
    record {
      numbered = subst AreNumbered items (fresh_is_numbered n);
      idle_is = idle_is ∙ fresh_idle n ∙ ap (map is_idle) items;
      lone_is = lone_is ∙ fresh_lone n ∙ ap (map is_lone) items;
      running_is = sym (fresh_runs n) ∙ ap running_of items;
      unfinished_is = sym (fresh_lacks n) ∙ ap (sum_by lacks) items;
      least_dead_is = subst NoneDead items (fresh_alive n);
    }

pub fresh_board : (n slots : ℕ) (twins : List Twin) → twins ≡ replicate n (OpenTwin 1 Neither) → board_of slots twins ≡ fresh n slots
fresh_board n slots twins is =
    ap (λ (l : List Tried). let b : Board = record { slots = slots; tasks = l } in b) (ap tasks_of is ∙ map_fresh n)
