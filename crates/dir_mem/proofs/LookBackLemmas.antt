-- What the tests refuse can't be done: each test holds where what it stands for holds.
use Rattle.std.proofs.Common.{◌≡◌, ℕ, ◌+◌, ◌≤◌, Bool, true, false, ◌&&◌, ◌||◌, ⊎_elim, inl, inr, List, [], ◌∷◌, ◌++◌, length, length-append, None, Some, refl, sym, ◌∙◌, ap, subst, arith}
use Rattle.std.specs.Prelude.{is_some, not, nat_lt}
use Rattle.std.specs.List.{list_all, list_any}
use Rattle.std.proofs.lemmas.Bool.{false≢true, or_cases, and_parts, and_from}
use Rattle.std.proofs.lemmas.List.Elements.{All-head, All-tail}
use Rattle.peg_base.specs.Names.{Names, under, same_path, after_top}
use Rattle.peg_base.proofs.Under.{same_path_comm, under-refl, under-split}
use Rattle.dir_disk.specs.State.{Member, Gone, Exactly, Anything, Allows, Content, State}
use Rattle.dir_disk.specs.Lent.{Loan, IsFree, IsNoOutput}
use Rattle.dir_disk.specs.Calls.{HasFile, IsOpen, CanAppend, CanMove}
use Rattle.dir_mem.specs.declared.mem_dir.Lending.{Lending}
use Rattle.dir_mem.specs.declared.traces.Trace.{Trace}
use Rattle.dir_mem.specs.Traces.{member_of, members_of}
use Rattle.dir_mem.specs.Sound.{ListsAll, loans_of}
use Rattle.dir_mem.specs.Looking.{is_gone, is_in_way, is_file_under, is_too_deep}
use Rattle.dir_mem.proofs.LookLemmas.{file_of, none_at, not_true, some_listed}

holds_unless : (test : Bool) → (test ≡ false → ⊥) → test ≡ true
holds_unless true never = refl
holds_unless false never = absurd (never refl)

fails_unless : (test : Bool) → (test ≡ true → ⊥) → test ≡ false
fails_unless true never = absurd (never refl)
fails_unless false never = refl

pub not_false : (test : Bool) → test ≡ false → not test ≡ true
not_false true is = absurd (false≢true (sym is))
not_false false is = refl

no_file : (now : Content) → is_some now ≡ true → now ≡ None → ⊥
no_file now is gone = false≢true (sym (ap is_some gone) ∙ is)

-- ---- what is lent, and what a stop leaves

pub all_free : (lent : List Lending) (path : Names) → IsFree (loans_of lent) path → list_all (λ lending. not (under path lending.input) && not (under path lending.output)) lent ≡ true
all_free [] path free = refl
all_free (first ∷ lent) path free =
    let here = All-head (λ (l : Loan). (under path l.input ≡ false) × (under path l.output ≡ false)) (let l : Loan = record { input = first.input; output = first.output } in l) (loans_of lent) free in
    let rest = All-tail (λ (l : Loan). (under path l.input ≡ false) × (under path l.output ≡ false)) (let l : Loan = record { input = first.input; output = first.output } in l) (loans_of lent) free in
    and_from _ _ (and_from _ _ (not_false (under path first.input) here.0) (not_false (under path first.output) here.1)) (all_free lent path rest)

pub all_no_output : (lent : List Lending) (path : Names) → IsNoOutput (loans_of lent) path → list_all (λ lending. not (same_path path lending.output)) lent ≡ true
all_no_output [] path none = refl
all_no_output (first ∷ lent) path none =
    let here = All-head (λ (l : Loan). same_path path l.output ≡ false) (let l : Loan = record { input = first.input; output = first.output } in l) (loans_of lent) none in
    let rest = All-tail (λ (l : Loan). same_path path l.output ≡ false) (let l : Loan = record { input = first.input; output = first.output } in l) (loans_of lent) none in
    and_from _ _ (not_false (same_path path first.output) here) (all_no_output lent path rest)

pub all_gone : (traces : List Trace) → ((content : Content) → Allows (members_of traces) content → content ≡ None) → list_all (λ trace. is_gone (member_of trace)) traces ≡ true
all_gone [] none = refl
all_gone (first ∷ traces) none =
    and_from _ _ (gone_here (member_of first) (members_of traces) none) (all_gone traces (λ content allowed. none content (inr allowed)))
  where
    gone_here : (member : Member) (may : List Member) → ((content : Content) → Allows (member ∷ may) content → content ≡ None) → is_gone member ≡ true
    gone_here Gone may none = refl
    gone_here (Exactly bytes) may none = absurd (no_file (Some bytes) refl (none (Some bytes) (inl refl)))
    gone_here Anything may none = absurd (no_file (Some []) refl (none (Some []) (inl refl)))

-- ---- what is in the way

-- where nothing is above the place or under it, no file is in the way
pub way_clear : (paths : List Names) (state : State) (place : Names) → IsOpen state place → ((q : Names) → under place q ≡ true → same_path place q ≡ false → (state q).now ≡ None) → list_any (is_in_way state place) paths ≡ false
way_clear paths state place above below =
    fails_unless (list_any (is_in_way state place) paths) (λ is. let found = some_listed (is_in_way state place) paths is in stands found.0 found.1)
  where
    stands : (q : Names) → is_in_way state place q ≡ true → ⊥
    stands q is =
        let parts = and_parts (is_some (state q).now) (not (same_path q place) && (under place q || under q place)) is in
        let near = and_parts (not (same_path q place)) (under place q || under q place) parts.1 in
        let other = not_true (same_path q place) near.0 in
        no_file (state q).now parts.0 (⊎_elim (λ under_it. below q under_it (same_path_comm place q ∙ other)) (λ over_it. above q over_it other) (or_cases (under place q) (under q place) near.1))

pub append_open : (paths : List Names) (state : State) (place : Names) → CanAppend state place → list_any (is_in_way state place) paths ≡ false
append_open paths state place can = way_clear paths state place can.is_open can.nothing_under

-- ---- what a move needs

-- what is to be moved is found among the listed paths
pub move_holds : (paths : List Names) (state : State) (from to : Names) → ListsAll paths state → CanMove state from to → list_any (is_file_under state from) paths ≡ true
move_holds paths state from to lists can =
    let q = can.there.0 in
    let is : is_file_under state from q ≡ true = and_from (under from q) (is_some (state q).now) can.there.1 (ap is_some can.there.2.1) in
    holds_unless (list_any (is_file_under state from) paths) (λ none. false≢true (sym (none_at (is_file_under state from) paths state lists none q (λ gone. absurd (no_file (state q).now (ap is_some can.there.2.1) gone))) ∙ is))

pub move_open : (paths : List Names) (state : State) (from to : Names) → CanMove state from to → list_any (is_in_way state to) paths ≡ false
move_open paths state from to can = way_clear paths state to can.is_open (λ q below other. can.empty q below)

pub move_empty : (state : State) (from to : Names) → CanMove state from to → (state to).now ≡ None
move_empty state from to can = can.empty to (under-refl to)

less : (m n : ℕ) → nat_lt m n ≡ true → m + 1 ≤ n
less m n is = grind arith

-- no file's new path has too many names
pub move_short : (paths : List Names) (state : State) (from to : Names) → CanMove state from to → list_any (is_too_deep state from to) paths ≡ false
move_short paths state from to can =
    fails_unless (list_any (is_too_deep state from to) paths) (λ is. let found = some_listed (is_too_deep state from to) paths is in fits found.0 found.1)
  where
    fits : (path : Names) → is_too_deep state from to path ≡ true → ⊥
    fits path is =
        let parts = and_parts (is_file_under state from path) (nat_lt (8 + length from) (length to + length path)) is in
        let file = and_parts (under from path) (is_some (state path).now) parts.0 in
        let rest = after_top from path in
        let split : path ≡ from ++ rest = under-split from path file.0 in
        let bound : length (to ++ rest) ≤ 8 = can.short rest (subst (λ (p : Names). HasFile state p) split (file_of (state path).now file.1)) in
        let long = less (8 + length from) (length to + length path) parts.1 in
        let size : length path ≡ length (from ++ rest) = ap length split in
        absurd (omega (arith, bound, long, size, length-append from rest, length-append to rest))
