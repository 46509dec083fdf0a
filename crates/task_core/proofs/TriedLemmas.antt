-- What a task has tried, through each kind of step, and a board with it in the task's place.
use Rattle.std.proofs.Common.{◌≡◌, ◌≢◌, ℕ, ◌+◌, ◌<◌, ◌≤◌, ◌⊎◌, inl, inr, ⊎_elim, replicate, Bool, true, false, cond, eqb, ◌||◌, List, [], ◌∷◌, ◌++◌, length, set, refl, sym, ap, ◌∙◌, subst, arith, eqb-true}
use Rattle.std.proofs.lemmas.Bool.{cases_eq, eq-eqb, ne_eqb, cases_lt, false≢true}
use Rattle.std.proofs.lemmas.List.{get_or_past, get_or-replicate, length-replicate}
use Rattle.task_core.specs.Board.{Rule, Board, Step, Start, Refuse, Tried, Open, Finished, tried_at, with_tried, has, without, running_in, runs, is_dead, ended, started, refused, after, after_all, IsNext, IsNumbered, AreNumbered, AreMade, Runs, IsStepWhere, IsRunWhere}
use Rattle.task_core.specs.Rules.{tried_at-set, below_from_open}

-- ---- a list of attempts without one

cut_length : (x : Bool) (b a : ℕ) (bs : List ℕ) → (x || has a bs) ≡ true → (has a bs ≡ true → length (without a bs) + 1 ≡ length bs) → length (cond x bs (b ∷ without a bs)) + 1 ≡ length (b ∷ bs)
cut_length true b a bs is rest = omega arith
cut_length false b a bs is rest = let less = rest is in omega (arith, less)

pub length-without : (a : ℕ) (rs : List ℕ) → has a rs ≡ true → length (without a rs) + 1 ≡ length rs
length-without a [] is = absurd cc
length-without a (b ∷ bs) is = cut_length (eqb b a) b a bs is (length-without a bs)

or_right : (x y : Bool) → y ≡ true → (x || y) ≡ true
or_right true y is = refl
or_right false y is = is

or_more : (x y z : Bool) → (y ≡ true → z ≡ true) → (x || y) ≡ true → (x || z) ≡ true
or_more true y z more is = refl
or_more false y z more is = more is

or_not : (x y : Bool) → x ≡ false → (x || y) ≡ true → y ≡ true
or_not true y not' is = absurd cc
or_not false y not' is = is

cut_from : (x : Bool) (c a b : ℕ) (cs : List ℕ) → (has b (without a cs) ≡ true → has b cs ≡ true) → has b (cond x cs (c ∷ without a cs)) ≡ true → has b (c ∷ cs) ≡ true
cut_from true c a b cs rest is = or_right (eqb c b) (has b cs) is
cut_from false c a b cs rest is = or_more (eqb c b) (has b (without a cs)) (has b cs) rest is

pub has_from_without : (a b : ℕ) (rs : List ℕ) → has b (without a rs) ≡ true → has b rs ≡ true
has_from_without a b [] is = is
has_from_without a b (c ∷ cs) is = cut_from (eqb c a) c a b cs (has_from_without a b cs) is

cut_keeps : (x : Bool) (c a b : ℕ) (cs : List ℕ) → eqb c a ≡ x → b ≢ a → (has b cs ≡ true → has b (without a cs) ≡ true) → has b (c ∷ cs) ≡ true → has b (cond x cs (c ∷ without a cs)) ≡ true
cut_keeps true c a b cs test differ rest is =
    or_not (eqb c b) (has b cs) (ne_eqb c b (λ same. differ (sym same ∙ eqb-true c a test))) is
cut_keeps false c a b cs test differ rest is = or_more (eqb c b) (has b cs) (has b (without a cs)) rest is

pub has-without : (a b : ℕ) (rs : List ℕ) → b ≢ a → has b rs ≡ true → has b (without a rs) ≡ true
has-without a b [] differ is = is
has-without a b (c ∷ cs) differ is = cut_keeps (eqb c a) c a b cs refl differ (has-without a b cs differ) is

-- ---- one task

pub ended_runs : (v : Tried) (a : ℕ) (ok : Bool) → has a (running_in v) ≡ true → runs (ended a ok v) + 1 ≡ runs v
ended_runs (Open n rs) a true is = length-without a rs is
ended_runs (Open n rs) a false is = length-without a rs is
ended_runs (Finished rs) a ok is = length-without a rs is

pub ended_has : (v : Tried) (a b : ℕ) (ok : Bool) → b ≢ a → has b (running_in v) ≡ true → has b (running_in (ended a ok v)) ≡ true
ended_has (Open n rs) a b true differ is = has-without a b rs differ is
ended_has (Open n rs) a b false differ is = has-without a b rs differ is
ended_has (Finished rs) a b ok differ is = has-without a b rs differ is

made_without : (n a : ℕ) (rs : List ℕ) → AreMade n rs → AreMade n (without a rs)
made_without n a rs made b is = made b (has_from_without a b rs is)

made_later : (n m : ℕ) (rs : List ℕ) → n ≤ m → AreMade n rs → AreMade m rs
made_later n m rs later made b is =
    let was = made b is in (was.0, omega (arith, was.1, later))

pub ended_numbered : (v : Tried) (a : ℕ) (ok : Bool) → IsNumbered v → IsNumbered (ended a ok v)
ended_numbered (Open n rs) a true numbered = made_later n 5 (without a rs) numbered.1 (made_without n a rs numbered.2)
ended_numbered (Open n rs) a false numbered = (numbered.0, numbered.1, made_without n a rs numbered.2)
ended_numbered (Finished rs) a ok numbered = made_without 5 a rs numbered

made_more : (a : ℕ) (rs : List ℕ) → 1 ≤ a → AreMade a rs → AreMade (a + 1) (a ∷ rs)
made_more a rs first made b is =
    ⊎_elim (λ (same : a ≡ b). (omega (arith, first, same), omega (arith, same))) (λ (differ : a ≡ b → ⊥). let was = made b (or_not (eqb a b) (has b rs) (ne_eqb a b differ) is) in (was.0, omega (arith, was.1))) (cases_eq a b)

pub started_numbered : (a : ℕ) (rs : List ℕ) → a ≤ 4 → IsNumbered (Open a rs) → IsNumbered (Open (a + 1) (a ∷ rs))
started_numbered a rs few numbered = (omega arith, omega (arith, few), made_more a rs numbered.0 numbered.2)

pub refused_numbered : (a : ℕ) (rs : List ℕ) → a ≤ 4 → IsNumbered (Open a rs) → IsNumbered (Open (a + 1) rs)
refused_numbered a rs few numbered = (omega arith, omega (arith, few), made_later a (a + 1) rs (omega arith) numbered.2)

-- an attempt that runs has a number from 1 to 4
pub number_of_running : (v : Tried) (a : ℕ) → IsNumbered v → has a (running_in v) ≡ true → (1 ≤ a) × (a ≤ 4)
number_of_running (Open n rs) a numbered is = let made = numbered.2 a is in (made.0, omega (arith, made.1, numbered.1))
number_of_running (Finished rs) a numbered is = let made = numbered a is in (made.0, omega (arith, made.1))

-- a task of which an attempt runs isn't dead
pub alive_running : (v : Tried) (a : ℕ) → has a (running_in v) ≡ true → is_dead v ≡ false
alive_running (Open n []) a is = absurd cc
alive_running (Open n (b ∷ bs)) a is = grind arith
alive_running (Finished rs) a is = refl

-- ---- a board

pub below_from_runs : (tasks : List Tried) (t a : ℕ) → Runs tasks t a → t < length tasks
below_from_runs tasks t a is =
    ⊎_elim (λ (h : t < length tasks). h) (λ h. let past : tried_at tasks t ≡ Finished [] = get_or_past tasks t (Finished []) h in absurd (none a (sym (ap (λ (v : Tried). has a (running_in v)) past) ∙ is))) (cases_lt t (length tasks))
  where
    none : (a : ℕ) → has a [] ≡ true → ⊥
    none a is = cc

pub below_from_next : (tasks : List Tried) (t a : ℕ) → IsNext tasks t a → t < length tasks
below_from_next tasks t a next = below_from_open tasks t a next.running next.is

pub set_same : (tasks : List Tried) (t : ℕ) (v : Tried) → t < length tasks → tried_at (set tasks t v) t ≡ v
set_same tasks t v below = rw (tried_at-set tasks t t v below, eq-eqb t t refl) refl

pub set_other : (tasks : List Tried) (t u : ℕ) (v : Tried) → t < length tasks → t ≢ u → tried_at (set tasks t v) u ≡ tried_at tasks u
set_other tasks t u v below differ = rw (tried_at-set tasks t u v below, ne_eqb t u differ) refl

pub numbered_set : (tasks : List Tried) (t : ℕ) (v : Tried) → t < length tasks → IsNumbered v → AreNumbered tasks → AreNumbered (set tasks t v)
numbered_set tasks t v below new old u =
    ⊎_elim
    (λ (e : t ≡ u). subst (λ (k : ℕ). IsNumbered (tried_at (set tasks t v) k)) e (subst IsNumbered (sym (set_same tasks t v below)) new))
    (λ (n : t ≡ u → ⊥). subst IsNumbered (sym (set_other tasks t u v below n)) (old u))
    (cases_eq t u)

-- the number of the next attempt
pub number_of_next : (tasks : List Tried) (t a : ℕ) → AreNumbered tasks → IsNext tasks t a → (1 ≤ a) × (a ≤ 4)
number_of_next tasks t a numbered next =
    let here : IsNumbered (Open a next.running) = subst IsNumbered next.is (numbered t) in (here.0, next.left)

pub after_start : (b : Board) (t a : ℕ) (next : IsNext b.tasks t a) → after b (Start t a) ≡ with_tried b t (Open (a + 1) (a ∷ next.running))
after_start b t a next = ap (λ (v : Tried). with_tried b t (started a v)) next.is

pub after_refused : (b : Board) (t a : ℕ) (next : IsNext b.tasks t a) → after b (Refuse t a) ≡ with_tried b t (Open (a + 1) next.running)
after_refused b t a next = ap (λ (v : Tried). with_tried b t (refused a v)) next.is

-- ---- runs

pub after_all-append : (b : Board) (xs ys : List Step) → after_all b (xs ++ ys) ≡ after_all (after_all b xs) ys
after_all-append b [] ys = refl
after_all-append b (x ∷ xs) ys = after_all-append (after b x) xs ys

pub IsRunWhere-append : (S : Rule) (E : Board → Type 0) (b : Board) (xs ys : List Step) → IsRunWhere S E b xs → IsRunWhere S E (after_all b xs) ys → IsRunWhere S E b (xs ++ ys)
IsRunWhere-append S E b [] ys h k = k
IsRunWhere-append S E b (x ∷ xs) ys h k = (h.0, IsRunWhere-append S E (after b x) xs ys h.1 k)

pub IsRunWhere-front : (S : Rule) (E : Board → Type 0) (b : Board) (xs ys : List Step) → IsRunWhere S E b (xs ++ ys) → IsRunWhere S E b xs
IsRunWhere-front S E b [] ys h = tt
IsRunWhere-front S E b (x ∷ xs) ys h = (h.0, IsRunWhere-front S E (after b x) xs ys h.1)

pub IsRunWhere-back : (S : Rule) (E : Board → Type 0) (b : Board) (xs ys : List Step) → IsRunWhere S E b (xs ++ ys) → IsRunWhere S E (after_all b xs) ys
IsRunWhere-back S E b [] ys h = h
IsRunWhere-back S E b (x ∷ xs) ys h = IsRunWhere-back S E (after b x) xs ys h.1

pub run_grows : (S : Rule) (E : Board → Type 0) (b : Board) (xs : List Step) (x : Step) → IsRunWhere S E b xs → IsStepWhere S E (after_all b xs) x → IsRunWhere S E b (xs ++ x ∷ []) × (after_all b (xs ++ x ∷ []) ≡ after (after_all b xs) x)
run_grows S E b xs x h k = (IsRunWhere-append S E b xs (x ∷ []) h (k, tt), after_all-append b xs (x ∷ []))

-- ---- the beginning

-- a task that is untried, or past the last one
pub fresh_at : (n t : ℕ) → (tried_at (replicate n (Open 1 [])) t ≡ Open 1 []) ⊎ (tried_at (replicate n (Open 1 [])) t ≡ Finished [])
fresh_at n t =
    ⊎_elim
    (λ (below : t < n). inl (get_or-replicate n t (Open 1 []) (Finished []) below))
    (λ (over : n ≤ t). inr (get_or_past (replicate n (Open 1 [])) t (Finished []) (omega (arith, over, length-replicate n (Open 1 [])))))
    (cases_lt t n)

untried_is_numbered : IsNumbered (Open 1 [])
untried_is_numbered = (omega arith, omega arith, λ a is. absurd (false≢true is))

nothing_is_numbered : IsNumbered (Finished [])
nothing_is_numbered a is = absurd (false≢true is)

pub fresh_is_numbered : (n : ℕ) → AreNumbered (replicate n (Open 1 []))
fresh_is_numbered n t =
    ⊎_elim (λ (is : tried_at (replicate n (Open 1 [])) t ≡ Open 1 []). subst IsNumbered (sym is) untried_is_numbered) (λ (is : tried_at (replicate n (Open 1 [])) t ≡ Finished []). subst IsNumbered (sym is) nothing_is_numbered) (fresh_at n t)
