-- What stands while a file is written, piece by piece.
use Rattle.std.proofs.Common.{◌≡◌, ℕ, Bool, true, false, if◌then◌else◌, ⊎_elim, List, ◌++◌, None, Some, Result, refl, sym, ◌∙◌, ap}
use Rattle.std.proofs.lemmas.Bool.{false≢true, cases_Bool}
use Rattle.peg_base.specs.Names.{Names, under, same_path}
use Rattle.peg_base.proofs.Under.{same_path-refl, same_path-true, same_path_comm, under-trans}
use Rattle.dir_disk.specs.declared.dir.DirFault.{DirFault}
use Rattle.dir_disk.specs.State.{Content, Held, State, IsSound, StandsOutside, bytes_of, appended, after_append}
use Rattle.dir_disk.specs.Moments.{Told, Through, Both, files}
use Rattle.dir_disk.specs.Calls.{Look, Append, Does, CanAppend}
use Rattle.dir_disk.specs.Keeping.{HasWritten}
use Rattle.dir_disk.proofs.Steps.{appended_at}
use Rattle.dir_disk.proofs.Through.{keeps, kept, weaker, then_goes}

-- ---- what an append leaves

not_chosen : (test : Bool) (h k : Held) → test ≡ false → (if test then h else k) ≡ k
not_chosen true h k fails = absurd (false≢true (sym fails))
not_chosen false h k fails = refl

pub not_appended : (target : Names) (bytes : List ℕ) (s : State) (q : Names) → same_path target q ≡ false → after_append target bytes s q ≡ s q
not_appended target bytes s q other =
    not_chosen (same_path target q) (appended bytes (s q)) (s q) other

pub appended_now : (target : Names) (bytes : List ℕ) (s : State) → (after_append target bytes s target).now ≡ Some (bytes_of (s target).now ++ bytes)
appended_now target bytes s =
    ap (λ (h : Held). h.now) (appended_at target bytes s target (same_path-refl target))

-- the first append makes a file, a later one makes it longer
pub written_first : (target : Names) (bytes : List ℕ) (s t : State) → (s target).now ≡ None → t ≡ after_append target bytes s → HasWritten target bytes s t
written_first target bytes s t none is =
    record {
      now = ap (λ (u : State). (u target).now) is ∙ appended_now target bytes s ∙ ap (λ (c : Content). Some (bytes_of c ++ bytes)) none;
      others = λ q other. ap (λ (u : State). u q) is ∙ not_appended target bytes s q other;
    }

pub written_more : (target : Names) (before bytes : List ℕ) (entry s t : State) → HasWritten target before entry s → t ≡ after_append target bytes s → HasWritten target (before ++ bytes) entry t
written_more target before bytes entry s t written is =
    record {
      now = ap (λ (u : State). (u target).now) is ∙ appended_now target bytes s ∙ ap (λ (c : Content). Some (bytes_of c ++ bytes)) written.now;
      others = λ q other. ap (λ (u : State). u q) is ∙ not_appended target bytes s q other ∙ written.others q other;
    }

-- another file is still there with its bytes
pub written_other : (target path : Names) (bytes : List ℕ) (entry s : State) → HasWritten target bytes entry s → same_path target path ≡ false → s path ≡ entry path
written_other target path bytes entry s written other = written.others path other

-- where nothing is at one path and something at another, they differ
pub other_path : (target path : Names) (bytes : List ℕ) (s : State) → (s target).now ≡ None → (s path).now ≡ Some bytes → same_path target path ≡ false
other_path target path bytes s none there =
    ⊎_elim (λ same. let clash : Some bytes ≡ None = sym (ap (λ (q : Names). (s q).now) (same_path-true target path same) ∙ there) ∙ none in absurd cc) (λ other. other) (cases_Bool (same_path target path))

-- ---- a further append is allowed

pub can_append_still : (target : Names) (bytes : List ℕ) (entry s : State) → CanAppend entry target → HasWritten target bytes entry s → CanAppend s target
can_append_still target bytes entry s can written =
    record {
      named = can.named;
      is_open = λ q above other. ap (λ (h : Held). h.now) (written.others q (sym (same_path_comm q target) ∙ other)) ∙ can.is_open q above other;
      nothing_under = λ q below other. ap (λ (h : Held). h.now) (written.others q other) ∙ can.nothing_under q below other;
    }

-- ---- at every moment

pub stands_outside_start : (top : Names) (entry : State) → StandsOutside top entry entry
stands_outside_start top entry q apart = refl

-- a look, whatever it answers
pub look_stands : {T : Type 0} (top path : Names) (old new : Told) (result : Result T DirFault) → Does (Look path) old new result → IsSound (files old) → Through (Both (StandsOutside top (files old))) old new
look_stands top path old new result does sound =
    keeps (StandsOutside top (files old)) old new (Look path) result (λ q apart. refl) does sound (λ t steps q apart. steps.others q refl)

-- an append at or under the path, whatever it answers
pub append_stands : {T : Type 0} (top target : Names) (bytes : List ℕ) (old new : Told) (result : Result T DirFault) → under top target ≡ true → Does (Append target bytes) old new result → IsSound (files old) → Through (Both (StandsOutside top (files old))) old new
append_stands top target bytes old new result below does sound =
    keeps (StandsOutside top (files old)) old new (Append target bytes) result (λ q apart. refl) does sound (λ t steps q apart. steps.others q (outside q apart))
  where
    outside : (q : Names) → under top q ≡ false → under target q ≡ false
    outside q apart =
        ⊎_elim (λ deeper. absurd (false≢true (sym apart ∙ under-trans top target q below deeper))) (λ out. out) (cases_Bool (under target q))

-- what stands since a later state stands since the first one
pub stands_since : (top : Names) (entry mid s : State) → StandsOutside top entry mid → StandsOutside top mid s → StandsOutside top entry s
stands_since top entry mid s first second q apart = second q apart ∙ first q apart

-- one run of calls after another
pub stands_then : (top : Names) (a b c : Told) → Through (Both (StandsOutside top (files a))) a b → Through (Both (StandsOutside top (files b))) b c → Through (Both (StandsOutside top (files a))) a c
stands_then top a b c first second =
    let mid : StandsOutside top (files a) (files b) = kept (StandsOutside top (files a)) a b first (stands_outside_start top (files a)) in
    then_goes (Both (StandsOutside top (files a))) a b c first (weaker (Both (StandsOutside top (files b))) (Both (StandsOutside top (files a))) b c (λ s t both. (stands_since top (files a) (files b) s mid both.0, stands_since top (files a) (files b) t mid both.1)) second)
