-- The heap of a set of numbers, through pushes and pops.
use Rattle.std.proofs.Common.{◌≡◌, ℕ, zero, suc, Option, Some, None, ◌+◌, ◌<◌, ◌≤◌, Bool, true, false, cond, eqb, ltb, List, [], ◌∷◌, length, get_or, set, map, replicate, sum_by, refl, sym, ap, ◌∙◌, ⊎_elim, arith, eqb-true, length-set}
use Rattle.std.specs.Option.{IfNone, IfSome}
use Rattle.std.specs.Ordering.{nat_cmp, is_lt}
use Rattle.std.specs.BinaryHeap.{IsHeap, IsUpperBound, PopsGreatest}
use Rattle.std.specs.List.Sorted.{IsPermutation}
use Rattle.std.specs.declared.cmp.Reverse.{Reverse}
use Rattle.std.specs.declared.cmp.Ordering.TheVariants.{Less, Equal, Greater}
use Rattle.std.proofs.lemmas.Bool.{cases_Bool, cases_lt, cases_eq, lt-ltb, eq-eqb, ne_eqb, false≢true}
use Rattle.std.proofs.lemmas.List.{get_or-replicate, get_or_past, get_or_default, get_or-set_same, get_or-set_other, set-get_or, ext_get_or, length-replicate, map-set}
use Rattle.std.proofs.lemmas.List.Folds.{sum_by-replicate}
use Rattle.std.proofs.lemmas.List.Sums.{sum_by-cons, sum_by-set, sum_by-le}
use Rattle.std.proofs.lemmas.List.Sorted.{sum_by_popped, sum_by_pushed, length_permutation}
use Rattle.std.proofs.Math.ListN as N
use Rattle.task_core.specs.Sound.{least_first, entries_of}
use Rattle.task_core.specs.Rules.{IsLeast}
use Rattle.task_core.proofs.Queue.{entry_at_front}
use Rattle.twins.specs.declared.number_set.Mark.{Mark}
use Rattle.twins.specs.declared.number_set.Mark.TheVariants.{Out, Stale, In}
use Rattle.twins.specs.Numbers.{contains, is_in, entries_by, mark_at, IsHeapOf, IsSettled, IsSetOf, IsTop}

-- how often a number stands in an entry
abbrev entry : ℕ → Reverse ℕ → ℕ
entry t y = cond (eqb y.0 t) 1 0

-- ---- marks

pub mark_at-set : (marks : List Mark) (t u : ℕ) (s : Mark) → t < length marks → mark_at (set marks t s) u ≡ cond (eqb t u) s (mark_at marks u)
mark_at-set marks t u s below =
    ⊎_elim
    (λ (same : t ≡ u). rw (eq-eqb t u same, ← same) (get_or-set_same marks t s Out below))
    (λ (differ : t ≡ u → ⊥). rw (ne_eqb t u differ) (get_or-set_other marks t u s Out (λ e. differ (sym e))))
    (cases_eq t u)

pub contains_is : (marks : List Mark) (t : ℕ) → contains (map is_in marks) t ≡ is_in (mark_at marks t)
contains_is marks t = N.get_or-map is_in marks t Out

pub below_from_entry : (marks : List Mark) (t : ℕ) → 0 < entries_by (mark_at marks t) → t < length marks
below_from_entry marks t some =
    ⊎_elim
    (λ (below : t < length marks). below)
    (λ (past : length marks ≤ t). let none : 0 < entries_by Out = rw (get_or_past marks t Out past) at some in absurd (omega (arith, none)))
    (cases_lt t (length marks))

entries_by_le : (s : Mark) → entries_by s ≤ 1
entries_by_le Out = omega arith
entries_by_le Stale = omega arith
entries_by_le In = omega arith

in_from_is : (s : Mark) → is_in s ≡ true → entries_by s ≡ 1
in_from_is Out is = absurd (false≢true is)
in_from_is Stale is = absurd (false≢true is)
in_from_is In is = refl

out_from_none : (s : Mark) → entries_by s ≡ 0 → is_in s ≡ false
out_from_none Out none = refl
out_from_none Stale none = absurd (omega (arith, none))
out_from_none In none = absurd (omega (arith, none))

-- ---- the heap after a write of a mark

held-set : (marks : List Mark) (heap after : List (Reverse ℕ)) (t gone come : ℕ) (s : Mark) → IsHeapOf marks heap → t < length marks → gone + entries_by s ≡ come + entries_by (mark_at marks t)
    → ((u : ℕ) → entries_of u after + cond (eqb t u) gone 0 ≡ entries_of u heap + cond (eqb t u) come 0) → (u : ℕ) → entries_of u after ≡ entries_by (mark_at (set marks t s) u)
held-set marks heap after t gone come s q l balance moved u =
    let m = moved u in
    let h = q.held u in
    rw (mark_at-set marks t u s l)
    (⊎_elim
    (λ (b : eqb t u ≡ true).
    let i : t ≡ u = eqb-true t u b in
    let m : entries_of u after + gone ≡ entries_of u heap + come = rw b at m in
    let w : gone + entries_by s ≡ come + entries_by (mark_at marks u) = rw i at balance in
    rw b (let r : entries_of u after ≡ entries_by s = omega (arith, m, w, h) in r))
    (λ (b : eqb t u ≡ false).
    let m : entries_of u after + 0 ≡ entries_of u heap + 0 = rw b at m in
    rw b (let r : entries_of u after ≡ entries_by (mark_at marks u) = omega (arith, m, h) in r))
    (cases_Bool (eqb t u)))

-- a number gets an entry
pub IsHeapOf-pushed : (marks : List Mark) (heap after : List (Reverse ℕ)) (x : Reverse ℕ) (t : ℕ) → IsHeapOf marks heap → t < length marks → IsPermutation (x ∷ heap) after → IsHeap least_first after → x.0 ≡ t → mark_at marks t ≡ Out → IsHeapOf (set marks t In) after
IsHeapOf-pushed marks heap after x t q l p order i r =
    let size : sum_by entries_by (set marks t In) + entries_by Out ≡ sum_by entries_by marks + 1 = rw r at (sum_by-set entries_by marks t In Out l) in
    let len = length_permutation (x ∷ heap) after p in
    record {
      ordered = order;
      held = held-set marks heap after t 0 1 In q l (rw r refl) (λ u. rw (← i) (let e : entries_of u after ≡ entry u x + entries_of u heap = sum_by_pushed (entry u) x heap after p in grind arith));
      size = omega (arith, size, len, q.size);
    }

-- a stale number loses its entry
pub IsHeapOf-popped : (marks : List Mark) (heap after : List (Reverse ℕ)) (x : Reverse ℕ) (t : ℕ) → IsHeapOf marks heap → t < length marks → IsPermutation heap (x ∷ after) → IsHeap least_first after → x.0 ≡ t → mark_at marks t ≡ Stale → IsHeapOf (set marks t Out) after
IsHeapOf-popped marks heap after x t q l p order i r =
    let size : sum_by entries_by (set marks t Out) + entries_by Stale ≡ sum_by entries_by marks + 0 = rw r at (sum_by-set entries_by marks t Out Out l) in
    let len = length_permutation heap (x ∷ after) p in
    record {
      ordered = order;
      held = held-set marks heap after t 1 0 Out q l (rw r refl) (λ u. rw (← i) (let e : entries_of u after + entry u x ≡ entries_of u heap = sum_by_popped (entry u) x heap after p in e ∙ grind arith));
      size = omega (arith, size, len, q.size);
    }

-- a number keeps its entry, or has none still
pub IsHeapOf-marked : (marks : List Mark) (heap : List (Reverse ℕ)) (t : ℕ) (s : Mark) → IsHeapOf marks heap → t < length marks → entries_by s ≡ entries_by (mark_at marks t) → IsHeapOf (set marks t s) heap
IsHeapOf-marked marks heap t s q l same =
    let size = sum_by-set entries_by marks t s Out l in
    record {
      ordered = q.ordered;
      held = held-set marks heap heap t 0 0 s q l (omega (arith, same)) (λ u. refl);
      size = omega (arith, size, same, q.size);
    }

-- there is room for a number that has no entry
pub heap_has_room : (marks : List Mark) (heap : List (Reverse ℕ)) (t : ℕ) → IsHeapOf marks heap → t < length marks → mark_at marks t ≡ Out → length heap < length marks
heap_has_room marks heap t q l r =
    let size : sum_by entries_by (set marks t In) + entries_by Out ≡ sum_by entries_by marks + 1 = rw r at (sum_by-set entries_by marks t In Out l) in
    let bound = sum_by-le entries_by 1 (set marks t In) (λ k d h. entries_by_le (get_or (set marks t In) k d)) in
    omega (arith, size, bound, q.size, length-set marks t In)

-- ---- the top

not_less : (a b : ℕ) → is_lt (nat_cmp a b) ≡ false → b ≤ a
not_less a b h =
    ⊎_elim (λ (l : a < b). let e : ltb a b ≡ true = lt-ltb a b l in let k : is_lt (cond true Less (cond (eqb a b) Equal Greater)) ≡ false = rw e at h in absurd (cc)) (λ (l : b ≤ a). l) (cases_lt a b)

-- no entry is below the top
bound_le : (x : Reverse ℕ) (t : ℕ) (ys : List (Reverse ℕ)) → IsUpperBound least_first x ys → 0 < entries_of t ys → x.0 ≤ t
bound_le x t [] h k = absurd (omega arith)
bound_le x t (y ∷ ys) h k =
    let e = sum_by-cons (entry t) y ys in
    ⊎_elim
    (λ (b : eqb y.0 t ≡ true). let i : y.0 ≡ t = eqb-true y.0 t b in let j : x.0 ≤ y.0 = not_less y.0 x.0 h.0 in let r : x.0 ≤ t = omega arith in r)
    (λ (b : eqb y.0 t ≡ false). let p : 0 < entry t y + entries_of t ys = rw (← e) k in let q : 0 < cond false 1 0 + entries_of t ys = rw b at p in bound_le x t ys h.1 (omega (arith, q)))
    (cases_Bool (eqb y.0 t))

pub top_is_below : (marks : List Mark) (heap : List (Reverse ℕ)) (x : Reverse ℕ) → IsHeapOf marks heap → 0 < length heap → x ≡ get_or heap 0 x → x.0 < length marks
top_is_below marks heap x q some top =
    let front = entry_at_front x heap some top in
    below_from_entry marks x.0 (omega (arith, front, q.held x.0))

pub top_has_entry : (marks : List Mark) (heap : List (Reverse ℕ)) (x : Reverse ℕ) → IsHeapOf marks heap → 0 < length heap → x ≡ get_or heap 0 x → entries_by (mark_at marks x.0) ≡ 1
top_has_entry marks heap x q some top =
    let front = entry_at_front x heap some top in
    let few = entries_by_le (mark_at marks x.0) in
    omega (arith, front, few, q.held x.0)

pub settled_by : (marks : List Mark) (heap : List (Reverse ℕ)) (x : Reverse ℕ) → x ≡ get_or heap 0 x → mark_at marks x.0 ≡ In → IsSettled marks heap
settled_by marks heap x top is y some that =
    let same : y ≡ x = that ∙ get_or_default heap 0 y x some ∙ sym top in
    ap (λ (z : Reverse ℕ). mark_at marks z.0) same ∙ is

pub settled_empty : (marks : List Mark) (heap : List (Reverse ℕ)) → length heap ≡ 0 → IsSettled marks heap
settled_empty marks heap none y some that = absurd (omega (arith, none, some))

-- ---- the least number

pub none_in : (marks : List Mark) (heap : List (Reverse ℕ)) → IsHeapOf marks heap → length heap ≡ 0 → (t : ℕ) → contains (map is_in marks) t ≡ false
none_in marks [] q none t = contains_is marks t ∙ out_from_none (mark_at marks t) (sym (q.held t))
none_in marks (y ∷ ys) q none t = absurd (omega (arith, none))

not_in : (b : Bool) → (b ≡ true → ⊥) → b ≡ false
not_in true never = absurd (never refl)
not_in false never = refl

pub least_in : (marks : List Mark) (heap : List (Reverse ℕ)) (room : ℕ) (x : Reverse ℕ) → IsSetOf marks heap room → IsTop heap x → IsLeast (contains (map is_in marks)) x.0
least_in marks heap room x q top = record {
  is = contains_is marks x.0 ∙ ap is_in (q.settled x top.some top.is);
  least = λ u before. not_in (contains (map is_in marks) u) (λ is.
      let one = in_from_is (mark_at marks u) (sym (contains_is marks u) ∙ is) in
      let low = bound_le x u heap (top.least q.entries.ordered) (omega (arith, one, q.entries.held u)) in
      omega (arith, low, before));
}

-- ---- the beginning

pub out_at : (n t : ℕ) → mark_at (replicate n Out) t ≡ Out
out_at n t =
    ⊎_elim (λ (below : t < n). get_or-replicate n t Out Out below) (λ (past : n ≤ t). get_or_past (replicate n Out) t Out (omega (arith, past, length-replicate n Out))) (cases_lt t n)

pub IsSetOf-empty : (n room : ℕ) → IsHeap least_first [] → n ≤ room → IsSetOf (replicate n Out) [] room
IsSetOf-empty n room order fits = record {
  entries = record { ordered = order; held = λ t. sym (ap entries_by (out_at n t)); size = omega (arith, sum_by-replicate entries_by n Out) };
  fits = omega (arith, fits, length-replicate n Out);
  settled = settled_empty (replicate n Out) [] refl;
}

pub none_marked : (n : ℕ) (marks : List Mark) → marks ≡ replicate n Out → map is_in marks ≡ replicate n false
none_marked n marks is = ap (map is_in) is ∙ map_out n
  where
    map_out : (n : ℕ) → map is_in (replicate n Out) ≡ replicate n false
    map_out zero = refl
    map_out (suc n) = ap (λ (l : List Bool). false ∷ l) (map_out n)

-- ---- what a write of a mark makes of the set

-- a number that is put in, and one that is taken out
pub marked_is : (marks : List Mark) (t : ℕ) (s : Mark) (member : Bool) → is_in s ≡ member → map is_in (set marks t s) ≡ set (map is_in marks) t member
marked_is marks t s member is = map-set is_in marks t s ∙ ap (set (map is_in marks) t) is

-- one that stays as it is
pub marked_same : (marks : List Mark) (t : ℕ) (member : Bool) → is_in (mark_at marks t) ≡ member → map is_in marks ≡ set (map is_in marks) t member
marked_same marks t member is =
    sym (set-get_or (map is_in marks) t false) ∙ ap (set (map is_in marks) t) (contains_is marks t ∙ is)

-- the top loses its entry, where it isn't in the set
pub stale_at_top : (marks : List Mark) (heap : List (Reverse ℕ)) (x : Reverse ℕ) → IsHeapOf marks heap → IsTop heap x → (mark_at marks x.0 ≡ In → ⊥) → mark_at marks x.0 ≡ Stale
stale_at_top marks heap x q top not' = stale_of (mark_at marks x.0) (top_has_entry marks heap x q top.some top.is) not'
  where
    stale_of : (s : Mark) → entries_by s ≡ 1 → (s ≡ In → ⊥) → s ≡ Stale
    stale_of Out one not' = absurd (omega (arith, one))
    stale_of Stale one not' = refl
    stale_of In one not' = absurd (not' refl)

-- a pop takes the stale top
pub IsHeapOf-dropped : (marks : List Mark) (heap after : List (Reverse ℕ)) (x : Reverse ℕ) (o : Option (Reverse ℕ)) {len : ℕ} → IsHeapOf marks heap → IsTop heap x → x.0 < length marks → mark_at marks x.0 ≡ Stale → len ≡ length heap
    → IfNone o (len ≡ 0) → IfSome o (λ y. y ≡ get_or heap 0 y) → IfSome o (λ y. IsPermutation heap (y ∷ after)) → IfSome o (λ y. PopsGreatest least_first heap y after) → IsHeapOf (set marks x.0 Out) after × (length after + 1 ≡ length heap)
IsHeapOf-dropped marks heap after x None q top below stale is empty first p order = absurd (omega (arith, empty, is, top.some))
IsHeapOf-dropped marks heap after x (Some y) q top below stale is empty first p order =
    let same : y ≡ x = first ∙ get_or_default heap 0 y x top.some ∙ sym top.is in
    let len = length_permutation heap (y ∷ after) p in
    (IsHeapOf-popped marks heap after y x.0 q below p (order q.ordered).0 (ap (λ (z : Reverse ℕ). z.0) same) stale, omega (arith, len))

pub dropped_same : (marks : List Mark) (t : ℕ) → t < length marks → mark_at marks t ≡ Stale → map is_in (set marks t Out) ≡ map is_in marks
dropped_same marks t below stale =
    marked_is marks t Out false refl ∙ sym (marked_same marks t false (ap is_in stale))

-- ---- numbers put in one after the other

pub put_one_more : (numbers : List Bool) (n : ℕ) → n < length numbers → ((t : ℕ) → t < n → contains numbers t ≡ true) → (t : ℕ) → t < n + 1 → contains (set numbers n true) t ≡ true
put_one_more numbers n below put t less =
    ⊎_elim
    (λ (same : t ≡ n). rw same (get_or-set_same numbers n true false below))
    (λ (differ : t ≡ n → ⊥). get_or-set_other numbers n t true false differ ∙ put t (lower differ))
    (cases_eq t n)
  where
    lower : (t ≡ n → ⊥) → t < n
    lower differ = ⊎_elim (λ (h : t < n). h) (λ (h : n ≤ t). absurd (differ (omega (arith, h, less)))) (cases_lt t n)

pub put_all : (numbers : List Bool) (n : ℕ) → length numbers ≡ n → ((t : ℕ) → t < n → contains numbers t ≡ true) → numbers ≡ replicate n true
put_all numbers n bounded put =
    ext_get_or false numbers (replicate n true) (bounded ∙ sym (length-replicate n true))
    (λ t below. let less : t < n = omega (arith, below, bounded) in put t less ∙ sym (get_or-replicate n t true false less))
