-- What tests of the listed paths say of all paths.
use Rattle.std.proofs.Common.{◌≡◌, ◌≢◌, ℕ, ◌+◌, ◌≤◌, Bool, true, false, ◌&&◌, ◌||◌, ◌⊎◌, inl, inr, ⊎_elim, List, [], ◌∷◌, ◌++◌, length, length-append, Option, Some, None, refl, sym, ◌∙◌, ap, subst, arith}
use Rattle.std.specs.Prelude.{is_some, not, nat_lt}
use Rattle.std.specs.Borrow.{Bor}
use Rattle.std.specs.List.{list_all, list_any}
use Rattle.std.proofs.lemmas.Bool.{false≢true, cases_Bool, or_cases, and_parts, and_from}
use Rattle.std.proofs.lemmas.List.Elements.{All-nil, All-cons}
use Rattle.peg_base.specs.Names.{Names, under, same_path}
use Rattle.peg_base.proofs.Under.{same_path-true, under-append, same_path_comm}
use Rattle.dir_disk.specs.State.{Member, Gone, Exactly, Anything, Admits, Allows, Content, Held, State}
use Rattle.dir_disk.specs.Lent.{Loan, IsFree, IsNoOutput}
use Rattle.dir_mem.specs.declared.mem_dir.Lending.{Lending}
use Rattle.dir_mem.specs.declared.traces.Trace.{Trace}
use Rattle.dir_mem.specs.Traces.{content_of, member_of, members_of}
use Rattle.dir_disk.specs.Calls.{HasFile, CanAppend, CanMove}
use Rattle.dir_mem.specs.Sound.{ListsAll, is_listed, loans_of}
use Rattle.dir_mem.specs.Looking.{is_gone, is_in_way, is_file_under, is_too_deep}
use Rattle.dir_mem.proofs.EffectLemmas.{unlisted_absent}

or_none : (a b : Bool) → (a || b) ≡ false → (a ≡ false) × (b ≡ false)
or_none true b is = absurd (false≢true (sym is))
or_none false b is = (refl, is)

none_listed : (p : Names → Bool) (paths : List Names) (path : Names) → list_any p paths ≡ false → is_listed paths path ≡ true → p path ≡ false
none_listed p [] path none listed = absurd (false≢true listed)
none_listed p (first ∷ paths) path none listed =
    let parts = or_none (p first) (list_any p paths) none in
    ⊎_elim (λ same. subst (λ (q : Names). p q ≡ false) (same_path-true first path same) parts.0) (λ later. none_listed p paths path parts.1 later) (or_cases (same_path first path) (is_listed paths path) listed)

pub some_listed : (p : Names → Bool) (paths : List Names) → list_any p paths ≡ true → (path : Names) × (p path ≡ true)
some_listed p [] is = absurd (false≢true is)
some_listed p (first ∷ paths) is =
    ⊎_elim (λ here. (first, here)) (λ later. some_listed p paths later) (or_cases (p first) (list_any p paths) is)

-- a test that fails at each listed path and where no file is fails everywhere
pub none_at : (p : Names → Bool) (paths : List Names) (state : State) → ListsAll paths state → list_any p paths ≡ false → (path : Names) → ((state path).now ≡ None → p path ≡ false) → p path ≡ false
none_at p paths state lists none path gone =
    ⊎_elim (λ listed. none_listed p paths path none listed) (λ unlisted. gone (ap (λ (h : Held). h.now) (unlisted_absent paths state path lists unlisted))) (cases_Bool (is_listed paths path))

and_none : (a b : Bool) → a ≡ false → (a && b) ≡ false
and_none true b is = absurd (false≢true (sym is))
and_none false b is = refl

clear_now : (now : Content) (same below above : Bool) → (is_some now && (not same && (below || above))) ≡ false → same ≡ false → (below ≡ true) ⊎ (above ≡ true) → now ≡ None
clear_now None same below above clear other near = refl
clear_now (Some bytes) true below above clear other near = absurd (false≢true (sym other))
clear_now (Some bytes) false true above clear other near = absurd (false≢true (sym clear))
clear_now (Some bytes) false false true clear other near = absurd (false≢true (sym clear))
clear_now (Some bytes) false false false clear other near = absurd (⊎_elim false≢true false≢true near)

-- no file is above the place or under it
pub clear_at : (paths : List Names) (state : State) (place path : Names) → ListsAll paths state → list_any (is_in_way state place) paths ≡ false → same_path path place ≡ false → (under place path ≡ true) ⊎ (under path place ≡ true) → (state path).now ≡ None
clear_at paths state place path lists clear other near =
    clear_now (state path).now (same_path path place) (under place path) (under path place) (none_at (is_in_way state place) paths state lists clear path (λ none. and_none (is_some (state path).now) (not (same_path path place) && (under place path || under path place)) (ap is_some none))) other near

pub append_clear : (paths : List Names) (state : State) (place : Names) → ListsAll paths state → place ≢ [] → list_any (is_in_way state place) paths ≡ false → CanAppend state place
append_clear paths state place lists named clear = record {
  named = named;
  is_open = λ q above other. clear_at paths state place q lists clear other (inr above);
  nothing_under = λ q below other. clear_at paths state place q lists clear (same_path_comm q place ∙ other) (inl below);
}

pub file_of : (now : Content) → is_some now ≡ true → (bytes : List ℕ) × (now ≡ Some bytes)
file_of None is = absurd (false≢true is)
file_of (Some bytes) is = (bytes, refl)

-- what is found is there
pub found_there : (result : Bool) (found : Option (Bor (List ℕ))) (now : Content) → result ≡ is_some found → content_of found ≡ now → result ≡ true → (bytes : List ℕ) × (now ≡ Some bytes)
found_there result None now finds at is = absurd (false≢true (sym finds ∙ is))
found_there result (Some bytes) now finds at is = (bytes.now, sym at)

not_less : (m n : ℕ) → nat_lt m n ≡ false → n ≤ m
not_less m n is = grind arith

shallow_at : (deep : Bool) (more : Bool) (m n : ℕ) → (deep && nat_lt m n) ≡ false → deep ≡ true → n ≤ m
shallow_at true more m n is deep = not_less m n is
shallow_at false more m n is deep = absurd (false≢true deep)

none_some : (now : Content) (bytes : List ℕ) → now ≡ None → now ≡ Some bytes → ⊥
none_some now bytes gone is = cc

pub move_clear : (paths : List Names) (state : State) (from to : Names) → ListsAll paths state → list_any (is_file_under state from) paths ≡ true → (state to).now ≡ None → list_any (is_in_way state to) paths ≡ false → under from to ≡ false → under to from ≡ false → list_any (is_too_deep state from to) paths ≡ false → CanMove state from to
move_clear paths state from to lists holds none clear apart away shallow =
    let found = some_listed (is_file_under state from) paths holds in
    let parts = and_parts (under from found.0) (is_some (state found.0).now) found.1 in
    record {
      there = (found.0, parts.0, file_of (state found.0).now parts.1);
      empty = λ q below. ⊎_elim (λ same. subst (λ (p : Names). (state p).now ≡ None) (sym (same_path-true q to same)) none) (λ other. clear_at paths state to q lists clear other (inl below)) (cases_Bool (same_path q to));
      is_open = λ q above other. clear_at paths state to q lists clear other (inr above);
      apart = (apart, away);
      short = λ rest file. deep rest file;
    }
  where
    deep : (rest : Names) → HasFile state (from ++ rest) → length (to ++ rest) ≤ 8
    deep rest file =
        let path = from ++ rest in
        let is_file : is_file_under state from path ≡ true = and_from (under from path) (is_some (state path).now) (under-append from rest) (ap is_some file.1) in
        let fails = none_at (is_too_deep state from to) paths state lists shallow path (λ gone. absurd (none_some (state path).now file.0 gone file.1)) in
        let bound = shallow_at (is_file_under state from path) true (8 + length from) (length to + length path) fails is_file in
        omega (arith, bound, length-append from rest, length-append to rest)

-- ---- what is lent, and what a stop leaves

pub not_true : (test : Bool) → not test ≡ true → test ≡ false
not_true true is = absurd (false≢true is)
not_true false is = refl

pub free_all : (lent : List Lending) (path : Names) → list_all (λ lending. not (under path lending.input) && not (under path lending.output)) lent ≡ true → IsFree (loans_of lent) path
free_all [] path all = All-nil (λ (l : Loan). (under path l.input ≡ false) × (under path l.output ≡ false))
free_all (first ∷ lent) path all =
    let parts = and_parts _ _ all in
    let here = and_parts (not (under path first.input)) (not (under path first.output)) parts.0 in
    All-cons (λ (l : Loan). (under path l.input ≡ false) × (under path l.output ≡ false)) (let l : Loan = record { input = first.input; output = first.output } in l) (loans_of lent) (not_true (under path first.input) here.0, not_true (under path first.output) here.1) (free_all lent path parts.1)

pub no_output_all : (lent : List Lending) (path : Names) → list_all (λ lending. not (same_path path lending.output)) lent ≡ true → IsNoOutput (loans_of lent) path
no_output_all [] path all = All-nil (λ (l : Loan). same_path path l.output ≡ false)
no_output_all (first ∷ lent) path all =
    let parts = and_parts _ _ all in
    All-cons (λ (l : Loan). same_path path l.output ≡ false) (let l : Loan = record { input = first.input; output = first.output } in l) (loans_of lent) (not_true (same_path path first.output) parts.0) (no_output_all lent path parts.1)

pub gone_all : (traces : List Trace) (content : Content) → list_all (λ trace. is_gone (member_of trace)) traces ≡ true → Allows (members_of traces) content → content ≡ None
gone_all [] content all allowed = absurd allowed
gone_all (first ∷ traces) content all allowed =
    let parts = and_parts _ _ all in
    ⊎_elim (λ here. gone_it (member_of first) parts.0 here) (λ later. gone_all traces content parts.1 later) allowed
  where
    gone_it : (member : Member) → is_gone member ≡ true → Admits member content → content ≡ None
    gone_it Gone is admitted = admitted
    gone_it (Exactly bytes) is admitted = absurd (false≢true is)
    gone_it Anything is admitted = absurd (false≢true is)
