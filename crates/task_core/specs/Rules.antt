-- One task of a board, and what each rule of starting keeps to.
use Rattle.std.proofs.Common.{◌≡◌, ℕ, zero, suc, ◌<◌, ◌≤◌, ◌⊎◌, inl, inr, ⊎_elim, Bool, true, false, cond, eqb, ◌&&◌, List, [], ◌∷◌, length, set, refl, sym, ap, ◌∙◌, arith, leb-true, le-leb}
use Rattle.std.proofs.lemmas.Bool.{cases_eq, eq-eqb, ne_eqb, cases_lt}
use Rattle.std.proofs.lemmas.List.{get_or-set_same, get_or-set_other, get_or_past}
use Rattle.std.proofs.lemmas.List.Sums.{get_or-le-sum_by}
use Rattle.std.specs.Prelude.{nat_le}
use Rattle.task_core.specs.Board.{Board, Tried, Open, Finished, tried_at, runs, running_of, is_done, NoneDead, IsBusy, IsIdle, MayStart, IsRule}

-- a number past the last task is finished
pub below_from_open : (tasks : List Tried) (t a : ℕ) (rs : List ℕ) → tried_at tasks t ≡ Open a rs → t < length tasks
below_from_open tasks t a rs is =
    ⊎_elim (λ (h : t < length tasks). h) (λ h. let past : tried_at tasks t ≡ Finished [] = get_or_past tasks t (Finished []) h in absurd cc) (cases_lt t (length tasks))

-- a task after a write at u
pub tried_at-set : (tasks : List Tried) (u t : ℕ) (s : Tried) → u < length tasks → tried_at (set tasks u s) t ≡ cond (eqb u t) s (tried_at tasks t)
tried_at-set tasks u t s h =
    ⊎_elim
    (λ (e : u ≡ t). rw (eq-eqb u t e, ← e) (get_or-set_same tasks u s (Finished []) h))
    (λ (n : u ≡ t → ⊥). rw (ne_eqb u t n) (get_or-set_other tasks u t s (Finished []) (λ e. n (sym e))))
    (cases_eq u t)

-- the least number below n that passes a test, or none does
pub record IsLeast (test : ℕ → Bool) (t : ℕ) : Type 0 where
  pub is : test t ≡ true
  pub least : (u : ℕ) → u < t → test u ≡ false

least_next : (test : ℕ → Bool) (n : ℕ) → ((u : ℕ) → u < n → test u ≡ false) → (b : Bool) → test n ≡ b → ((t : ℕ) × IsLeast test t) ⊎ ((u : ℕ) → u < suc n → test u ≡ false)
least_next test n none true is = inl (n, record { is = is; least = none })
least_next test n none false is =
    inr (λ u below. ⊎_elim (λ (same : u ≡ n). ap test same ∙ is) (λ (other : u ≡ n → ⊥). none u (lower u n below other)) (cases_eq u n))
  where
    lower : (u n : ℕ) → u < suc n → (u ≡ n → ⊥) → u < n
    lower u n below other = ⊎_elim (λ (h : u < n). h) (λ (h : n ≤ u). absurd (other (omega (arith, h, below)))) (cases_lt u n)

pub least_below : (test : ℕ → Bool) (n : ℕ) → ((t : ℕ) × IsLeast test t) ⊎ ((u : ℕ) → u < n → test u ≡ false)
least_below test zero = inr (λ u below. absurd (omega (arith, below)))
least_below test (suc n) =
    ⊎_elim (λ (found : (t : ℕ) × IsLeast test t). inl found) (λ (none : (u : ℕ) → u < n → test u ≡ false). least_next test n none (test n) refl) (least_below test n)

abbrev idle : Tried → Bool
idle (Open n []) = nat_le n 4
idle (Open n (a ∷ rs)) = false
idle (Finished rs) = false

idle_is : (v : Tried) → idle v ≡ true → (a : ℕ) × (v ≡ Open a []) × (a ≤ 4)
idle_is (Open n []) is = (n, refl, leb-true n 4 is)
idle_is (Open n (a ∷ rs)) is = absurd cc
idle_is (Finished rs) is = absurd cc

is_idle : (v : Tried) (a : ℕ) → v ≡ Open a [] → a ≤ 4 → idle v ≡ true
is_idle v a is left = rw is (le-leb a 4 left)

-- where no attempt of one task at once may be started, and a slot is free and none is dead, no task is idle
none_idle : (b : Board) → running_of b.tasks < b.slots → NoneDead b.tasks → IsBusy MayStart b → (t a : ℕ) → IsIdle b.tasks t a → ⊥
none_idle b slot alive busy t a here =
    ⊎_elim
    (λ (found : (u : ℕ) × IsLeast (λ k. idle (tried_at b.tasks k)) u).
    let is = idle_is (tried_at b.tasks found.0) found.1.is in
    busy found.0 is.0 (record {
      free = record { slot = slot; none_dead = alive };
      idle = record { is = is.1; left = is.2 };
      least = λ u c before other. no (idle (tried_at b.tasks u)) (is_idle (tried_at b.tasks u) c other.is other.left) (found.1.least u before);
    }))
    (λ (none : (u : ℕ) → u < suc t → idle (tried_at b.tasks u) ≡ false). no (idle (tried_at b.tasks t)) (is_idle (tried_at b.tasks t) a here.is here.left) (none t (omega arith)))
    (least_below (λ k. idle (tried_at b.tasks k)) (suc t))
  where
    no : (x : Bool) → x ≡ true → x ≡ false → ⊥
    no x first second = cc

empty_of : (rs : List ℕ) → length rs ≡ 0 → rs ≡ []
empty_of [] none = refl
empty_of (a ∷ rs) none = absurd (omega (arith, none))

-- an open task of which nothing runs is idle or dead
rests_at : (b : Board) (t : ℕ) (v : Tried) → tried_at b.tasks t ≡ v → running_of b.tasks ≡ 0 → NoneDead b.tasks → ((a : ℕ) → IsIdle b.tasks t a → ⊥) → is_done v ≡ true
rests_at b t (Finished rs) is rests alive idle' = refl
rests_at b t (Open n rs) is rests alive idle' =
    let below = below_from_open b.tasks t n rs is in
    let counts : length rs ≤ running_of b.tasks = rw is at (get_or-le-sum_by runs b.tasks t (Finished []) below) in
    let none : rs ≡ [] = empty_of rs (omega (arith, counts, rests)) in
    let here : tried_at b.tasks t ≡ Open n [] = is ∙ ap (Open n) none in
    ⊎_elim
    (λ (few : n < 5). absurd (idle' n (record { is = here; left = omega (arith, few) })))
    (λ (many : 5 ≤ n). absurd (dead n (le-leb 5 n many) (rw here at (alive t))))
    (cases_lt n 5)
  where
    dead : (n : ℕ) → nat_le 5 n ≡ true → (nat_le 5 n && true) ≡ false → ⊥
    dead n many not' = cc

pub rule_alone : IsRule MayStart
rule_alone = record {
  next = λ b t a may. record { running = []; is = may.idle.is; left = may.idle.left };
  alive = λ b t a may. may.free.none_dead;
  rests = λ b some numbered rests busy alive t. rests_at b t (tried_at b.tasks t) refl rests alive (none_idle b (omega (arith, some, rests)) alive busy t);
}
