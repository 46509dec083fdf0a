-- A run goes on after an iteration that is whole.
use Rattle.std.proofs.Common.{◌≡◌, ℕ, ◌^◌, ◌<◌, ◌≤◌, false, Some, refl, sym, ◌∙◌, ap, subst, arith}
use Rattle.std.specs.Prelude.{Option, Result, Ok, Err, IfOk, OnOk, unwrap_or}
use Rattle.job.specs.Inputs.{bytes_at_each}
use Rattle.report.specs.Lines.{iteration_text}
use Rattle.mining.specs.Table.{part_paths}
use Rattle.std.proofs.lemmas.Bool.{false≢true}
use Rattle.dir_disk.specs.State.{State, IsSound}
use Rattle.dir_disk.specs.Moments.{Both, EachImage, Through, Told, files}
use Rattle.dir_disk.proofs.Through.{then_goes}
use Rattle.mining.specs.declared.place.Place.TheVariants.{Vector}
use Rattle.mining.specs.Flow.{Mining, changes_in, count_of, ends_unchanged}
use Rattle.mining.specs.Kept.{AllKept, Kept}
use Rattle.mining.specs.Between.{IsSure, KeepsWhole}
use Rattle.mining.specs.Iterations.{IsAt, IsNext, line_at}
use Rattle.mining.specs.declared.run.Reached.{Reached}
use Rattle.mining.specs.Making.{IsAsAt}
use Rattle.mining.proofs.DueLemmas.{count_is}
use Rattle.mining.proofs.EnsureLemmas.{kept_after, looks_keep, sure_same, sure_kept, stays_after}
use Rattle.mining.proofs.Looks.{same_after}
use Rattle.driver.proofs.Due.{next_here}

-- no count is needed
pub at_any : (mining : Mining) (k changed : ℕ) → ends_unchanged mining.conf.command ≡ false → IsAt mining k changed
at_any mining k changed never = record { count = λ some by. absurd (false≢true (sym never ∙ by)) }

pub at_first : (mining : Mining) (changed : ℕ) → IsAt mining 0 changed
at_first mining changed = record { count = λ some by. absurd (omega (arith, some)) }

pub at_counted : {E : Type 0} (mining : Mining) (k : ℕ) (result : Result ℕ E) → IfOk result (λ changed. count_of mining k ≡ Some changed) → IfOk result (λ changed. IsAt mining k changed)
at_counted mining k (Ok changed) is = record { count = λ some by. is }
at_counted mining k (Err error) is = is

pub taken_kept : (mining : Mining) (k : ℕ) (d e f : Told) → IsSound (files e) → 1 ≤ k → k < 10 ^ 10 → AllKept mining (files d) → IsSure (Vector k) (files d) → Through (Both (IsAsAt (files d))) d e → (AllKept mining (files e) → IsNext mining k (files e) → Through (EachImage (Kept mining)) e f) → Through (EachImage (Kept mining)) d f
taken_kept mining k d e f sound some few kept sure looks drops =
    let first : Through (EachImage (Kept mining)) d e = looks_keep mining d e kept looks in
    let there : AllKept mining (files e) = kept_after mining d e kept first in
    then_goes (EachImage (Kept mining)) d e f first (drops there (next_here mining k (files e) sound there some few (sure_same (Vector k) (files d) (files e) (same_after d e looks _) sure)))

pub ok_always : {T E : Type 0} (P : Type 0) (result : Result T E) → P → OnOk result P
ok_always P (Ok value) is = is
ok_always P (Err error) is = tt

-- the line of iteration 0
pub first_line : (mining : Mining) (s : State) (changed : ℕ) → IsSound s → AllKept mining s → IsSure (Vector 0) s → changes_in (bytes_at_each s (part_paths (Vector 0) mining.conf.reducers)) ≡ Some changed → iteration_text 0 changed ≡ line_at mining 0
first_line mining s changed sound kept sure is =
    let counts : count_of mining 0 ≡ Some changed = sym (count_is mining 0 s sound kept (omega arith) sure) ∙ is in
    ap (λ (o : Option ℕ). iteration_text 0 (unwrap_or o 0)) (sym counts)

pub sure_reached : {E : Type 0} (e f : Told) (k : ℕ) → k < 10 ^ 10 → Through (Both (KeepsWhole (files e))) e f → IsSure (Vector k) (files e) → (result : Result Reached E) → IfOk result (λ reached. reached.k ≡ k) → IfOk result (λ reached. IsSure (Vector reached.k) (files f))
sure_reached e f k few stays sure (Ok reached) is =
    subst (λ (j : ℕ). IsSure (Vector j) (files f)) (sym is) (sure_kept (Vector k) (files e) (files f) few refl (stays_after e f stays) sure)
sure_reached e f k few stays sure (Err error) is = is

pub at_reached : {E : Type 0} (mining : Mining) (k : ℕ) (result : Result Reached E) → IfOk result (λ reached. reached.k ≡ k) → IfOk result (λ reached. IsAt mining k reached.changed) → IfOk result (λ reached. IsAt mining reached.k reached.changed)
at_reached mining k (Ok reached) is at = subst (λ (j : ℕ). IsAt mining j reached.changed) (sym is) at
at_reached mining k (Err error) is at = at
