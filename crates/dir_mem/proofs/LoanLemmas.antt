-- The end of a loan.
use Rattle.std.proofs.Common.{◌≡◌, ℕ, zero, suc, ◌+◌, ◌^◌, ◌<◌, ◌≤◌, Bool, true, false, ◌&&◌, ◌||◌, cond, ⊎_elim, List, [], ◌∷◌, ◌++◌, length, take, drop, Option, Some, None, ltb, refl, sym, ◌∙◌, ap, subst, arith}
use Rattle.std.specs.Prelude.{not, nat_le, option_map, IfSome}
use Rattle.std.specs.Global.{Vec}
use Rattle.std.specs.List.{list_any, list_all, position, position_or_len, remove}
use Rattle.std.proofs.lemmas.Bool.{false≢true, or_cases, and_parts, and_from}
use Rattle.peg_base.specs.Names.{Names, same_path}
use Rattle.peg_base.proofs.Under.{same_path-true, same_path-refl}
use Rattle.dir_disk.specs.State.{Member, Gone, Exactly, Anything, Content, Held, State}
use Rattle.dir_disk.specs.Moments.{files}
use Rattle.dir_disk.specs.Lent.{Loan}
use Rattle.dir_mem.specs.declared.log.Change.{Change}
use Rattle.dir_mem.specs.declared.log.Step.{Step}
use Rattle.dir_mem.specs.declared.mem_dir.Lending.{Lending}
use Rattle.dir_mem.specs.Log.{after_changes, replaced, state_of, told_by}
use Rattle.dir_mem.specs.Sound.{allows, admits, is_absent, is_anything, is_listed, is_open_end, is_short_content, is_sound, IsSoundState, HasNoTop, LendsOpen, ListsAll, loans_of}
use Rattle.dir_mem.specs.Facts.{absent_from, present}
use Rattle.dir_mem.specs.Lending.{IsLent, TakesOff, is_loan, after_loan, left_with}
use Rattle.dir_mem.proofs.EffectLemmas.{one_change, or_first, or_second}
use Rattle.dir_mem.proofs.ListLemmas.{listed_change}
use Rattle.dir_mem.proofs.SoundLemmas.{sound_same, no_top_same, sound_from, short_may, chosen_if}
use Rattle.dir_mem.proofs.CallLemmas.{same_state}

-- ---- the place of a loan

abbrev pub is_of : Loan → Lending → Bool
is_of loan lending = same_path lending.input loan.input && same_path lending.output loan.output

abbrev pub loan_of : Lending → Loan
loan_of lending = record { input = lending.input; output = lending.output }

within_more : (test : Bool) (place len : ℕ) → (test ≡ false → place < len) → cond (not test) (1 + place) 0 < suc len
within_more true place len rest = omega arith
within_more false place len rest = let later = rest refl in omega (arith, later)

later_of : (test others : Bool) → (test || others) ≡ true → test ≡ false → others ≡ true
later_of true others is fails = absurd (false≢true (sym fails))
later_of false others is fails = is

pub place_within : (loan : Loan) (lent : List Lending) → IsLent loan (loans_of lent) → position_or_len (is_of loan) lent < length lent
place_within loan [] is = absurd (false≢true is)
place_within loan (first ∷ lent) is =
    within_more (is_of loan first) (position_or_len (is_of loan) lent) (length lent) (λ other. place_within loan lent (later_of (is_of loan first) (list_any (is_loan loan) (loans_of lent)) is other))

-- it is found there
pub place_found : (loan : Loan) (lent : List Lending) → IsLent loan (loans_of lent) → position (is_of loan) lent ≡ Some (position_or_len (is_of loan) lent)
place_found loan lent is =
    ap (λ (test : Bool). cond test (Some (position_or_len (is_of loan) lent)) None) (ltb-from-lt (position_or_len (is_of loan) lent) (length lent) (place_within loan lent is))
  where
    ltb-from-lt : (m n : ℕ) → m < n → ltb m n ≡ true
    ltb-from-lt m n less = grind arith

pub same_loan : (loan : Loan) (lending : Lending) → is_of loan lending ≡ true → loan_of lending ≡ loan
same_loan loan lending is =
    let parts = and_parts (same_path lending.input loan.input) (same_path lending.output loan.output) is in
    ap (λ (p : Names). let l : Loan = record { input = p; output = lending.output } in l) (same_path-true lending.input loan.input parts.0) ∙ ap (λ (p : Names). let l : Loan = record { input = loan.input; output = p } in l) (same_path-true lending.output loan.output parts.1)

splits_more : (test : Bool) (loan : Loan) (first : Lending) (lent : List Lending) (place : ℕ) → (test ≡ true → loan_of first ≡ loan) → (test ≡ false → loans_of lent ≡ loans_of (take place lent) ++ loan ∷ loans_of (drop (suc place) lent)) → let n = cond (not test) (1 + place) 0 in loans_of (first ∷ lent) ≡ loans_of (take n (first ∷ lent)) ++ loan ∷ loans_of (drop (suc n) (first ∷ lent))
splits_more true loan first lent place here there = ap (λ (l : Loan). l ∷ loans_of lent) (here refl)
splits_more false loan first lent place here there =
    let more : suc place ≡ 1 + place = omega arith in
    subst (λ (n : ℕ). loans_of (first ∷ lent) ≡ loans_of (take n (first ∷ lent)) ++ loan ∷ loans_of (drop (suc n) (first ∷ lent))) more (ap (λ (ls : List Loan). loan_of first ∷ ls) (there refl))

pub place_splits : (loan : Loan) (lent : List Lending) → IsLent loan (loans_of lent) → loans_of lent ≡ loans_of (take (position_or_len (is_of loan) lent) lent) ++ loan ∷ loans_of (drop (suc (position_or_len (is_of loan) lent)) lent)
place_splits loan [] is = absurd (false≢true is)
place_splits loan (first ∷ lent) is =
    splits_more (is_of loan first) loan first lent (position_or_len (is_of loan) lent) (same_loan loan first) (λ other. place_splits loan lent (later_of (is_of loan first) (list_any (is_loan loan) (loans_of lent)) is other))

pub loans_append : (one other : List Lending) → loans_of (one ++ other) ≡ loans_of one ++ loans_of other
loans_append [] other = refl
loans_append (first ∷ one) other = ap (λ (ls : List Loan). loan_of first ∷ ls) (loans_append one other)

-- what was lent last is lent
pub lent_last : (lent : List Loan) (loan : Loan) → IsLent loan (lent ++ loan ∷ [])
lent_last [] loan =
    or_first (is_loan loan loan) false (and_from (same_path loan.input loan.input) (same_path loan.output loan.output) (same_path-refl loan.input) (same_path-refl loan.output))
lent_last (first ∷ lent) loan = or_second (is_loan loan first) (list_any (is_loan loan) (lent ++ loan ∷ [])) (lent_last lent loan)

-- ---- the output

pub open_at : (loan : Loan) (lent : List Lending) (state : State) → IsLent loan (loans_of lent) → LendsOpen lent state → is_open_end (state loan.output) ≡ true
open_at loan [] state is opens = absurd (false≢true is)
open_at loan (first ∷ lent) state is opens =
    let parts = and_parts _ _ opens in
    ⊎_elim (λ here. subst (λ (p : Names). is_open_end (state p) ≡ true) (same_path-true first.output loan.output (and_parts (same_path first.input loan.input) (same_path first.output loan.output) here).1) parts.0) (λ later. open_at loan lent state later parts.1) (or_cases (is_of loan first) (list_any (is_loan loan) (loans_of lent)) is)

any_allows : (may : List Member) (bytes : List ℕ) → list_any is_anything may ≡ true → allows may (Some bytes) ≡ true
any_allows [] bytes is = absurd (false≢true is)
any_allows (Gone ∷ may) bytes is = or_second (admits Gone (Some bytes)) (allows may (Some bytes)) (any_allows may bytes is)
any_allows (Exactly others ∷ may) bytes is = or_second (admits (Exactly others) (Some bytes)) (allows may (Some bytes)) (any_allows may bytes is)
any_allows (Anything ∷ may) bytes is = refl

open_allows : (left : Content) (may : List Member) → allows may None ≡ true → list_any is_anything may ≡ true → allows may left ≡ true
open_allows None may none any = none
open_allows (Some bytes) may none any = any_allows may bytes any

sound_left : (left : Content) (held : Held) → is_short_content left ≡ true → is_open_end held ≡ true → is_sound held ≡ true → is_sound (left_with left held) ≡ true
sound_left left held short opens sound =
    let parts = and_parts (allows held.may None) (list_any is_anything held.may) opens in
    sound_from (left_with left held) (open_allows left held.may parts.0 parts.1) short (short_may held sound)

left_at : (change : Change) (output : Names) (left : Content) (state : State) → change.path ≡ output → replaced change (state output) ≡ left_with left (state output) → (path : Names) → after_changes (change ∷ []) state path ≡ after_loan output left state path
left_at change output left state at makes path = one_change (left_with left) (change ∷ []) change output state refl at makes path

pub ends_sound : (change : Change) (output : Names) (left : Content) (state : State) → change.path ≡ output → replaced change (state output) ≡ left_with left (state output) → is_short_content left ≡ true → is_open_end (state output) ≡ true → IsSoundState state → IsSoundState (after_changes (change ∷ []) state)
ends_sound change output left state at makes short opens sound =
    sound_same (after_loan output left state) (after_changes (change ∷ []) state) (left_at change output left state at makes) (λ path. chosen_if (same_path output path) (left_with left (state path)) (state path) (λ same. subst (λ (p : Names). is_sound (left_with left (state p)) ≡ true) (same_path-true output path same) (sound_left left (state output) short opens (sound output))) (sound path))

not_absent : (held : Held) → is_open_end held ≡ true → is_absent held ≡ true → ⊥
not_absent held opens absent =
    false≢true (ap (λ (h : Held). is_open_end h) (sym (absent_from held absent)) ∙ opens)

pub ends_no_top : (change : Change) (output : Names) (left : Content) (state : State) → change.path ≡ output → replaced change (state output) ≡ left_with left (state output) → is_open_end (state output) ≡ true → HasNoTop state → HasNoTop (after_changes (change ∷ []) state)
ends_no_top change output left state at makes opens none =
    no_top_same (after_loan output left state) (after_changes (change ∷ []) state) (left_at change output left state at makes) (kept output left state opens none)
  where
    kept : (output : Names) (left : Content) (state : State) → is_open_end (state output) ≡ true → HasNoTop state → HasNoTop (after_loan output left state)
    kept [] left state opens none = absurd (not_absent (state []) opens none)
    kept (name ∷ output) left state opens none = none

pub ends_listed : (paths : List Names) (change : Change) (output : Names) (state : State) → change.path ≡ output → is_open_end (state output) ≡ true → ListsAll paths state → ListsAll paths (after_changes (change ∷ []) state)
ends_listed paths change output state at opens lists =
    listed_change paths change state (ap (is_listed paths) at ∙ ⊎_elim (λ is. is) (λ absent. absurd (not_absent (state output) opens absent)) (or_cases (is_listed paths output) (is_absent (state output)) (lists output))) lists

all_removed : (p : Lending → Bool) (lent : List Lending) (place : ℕ) → list_all p lent ≡ true → list_all p (remove lent place) ≡ true
all_removed p [] zero all = all
all_removed p [] (suc place) all = all
all_removed p (first ∷ lent) zero all = (and_parts _ _ all).1
all_removed p (first ∷ lent) (suc place) all =
    let parts = and_parts _ _ all in
    and_from _ _ parts.0 (all_removed p lent place parts.1)

open_may : (lent : List Lending) (old new : State) → ((path : Names) → (new path).may ≡ (old path).may) → LendsOpen lent old → LendsOpen lent new
open_may [] old new same opens = refl
open_may (first ∷ lent) old new same opens =
    let parts = and_parts _ _ opens in
    and_from _ _ (ap (λ (may : List Member). allows may None && list_any is_anything may) (same first.output) ∙ parts.0) (open_may lent old new same parts.1)

pub ends_open : (lent : List Lending) (place : ℕ) (change : Change) (output : Names) (left : Content) (state : State) → change.path ≡ output → replaced change (state output) ≡ left_with left (state output) → LendsOpen lent state → LendsOpen (remove lent place) (after_changes (change ∷ []) state)
ends_open lent place change output left state at makes opens =
    all_removed (λ lending. is_open_end (after_changes (change ∷ []) state lending.output)) lent place (open_may lent state (after_changes (change ∷ []) state) (λ path. ap (λ (h : Held). h.may) (left_at change output left state at makes path) ∙ may_kept (same_path output path) (state path)) opens)
  where
    may_kept : (test : Bool) (held : Held) → (cond test (left_with left held) held).may ≡ held.may
    may_kept true held = refl
    may_kept false held = refl

-- the state after the loan has ended
pub ends_to : (change : Change) (output : Names) (left : Content) (old new : List Step) → change.path ≡ output → replaced change (state_of old output) ≡ left_with left (state_of old output) → state_of new ≡ after_changes (change ∷ []) (state_of old) → files (told_by new) ≡ after_loan output left (files (told_by old))
ends_to change output left old new at makes reaches =
    present new ∙ reaches ∙ same_state (after_changes (change ∷ []) (state_of old)) (after_loan output left (state_of old)) (left_at change output left (state_of old) at makes) ∙ ap (after_loan output left) (sym (present old))

pub short_left : (left : Option (Vec ℕ)) → IfSome left (λ bytes. length bytes.items ≤ 2 ^ 50) → is_short_content (option_map (λ bytes. bytes.items) left) ≡ true
short_left None short = refl
short_left (Some bytes) short = is_le (length bytes.items) (2 ^ 50) short
  where
    is_le : (m n : ℕ) → m ≤ n → nat_le m n ≡ true
    is_le m n less = grind arith

-- what is lent once the loan at its place was removed
pub taken_off : (loan : Loan) (lent now : List Lending) (found : Option ℕ) (place : ℕ) → IsLent loan (loans_of lent) → found ≡ position (is_of loan) lent → found ≡ Some place → now ≡ remove lent place → TakesOff loan (loans_of lent) (loans_of now)
taken_off loan lent now found place is finds at removed =
    let n = position_or_len (is_of loan) lent in
    let same : place ≡ n = some_same place n (sym at ∙ finds ∙ place_found loan lent is) in
    record {
      before = loans_of (take n lent);
      after = loans_of (drop (suc n) lent);
      was = place_splits loan lent is;
      is = ap loans_of (removed ∙ ap (remove lent) same) ∙ loans_append (take n lent) (drop (suc n) lent);
    }
  where
    some_same : (one other : ℕ) → Some one ≡ Some other → one ≡ other
    some_same one other is = cc
