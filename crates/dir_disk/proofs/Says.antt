-- The clock of what is said: the calls of the directory that were made before.
use Rattle.std.proofs.Common.{◌≡◌, ℕ, ◌≤◌, ⊎_elim, ap, arith}
use Rattle.std.proofs.lemmas.Bool.{cases_lt}
use Rattle.dir_disk.specs.Moments.{Moment, Told, AddsBy, IsClock, IsFresh}

-- right after a call of the directory no other step was made at its clock
pub fresh_call : (old new : Told) → AddsBy 1 old new → IsClock old → IsFresh new
fresh_call old new adds is_clock moment before =
    let past : moment ≤ old.count = omega (arith, adds.count) in
    let same : (new.at moment).calls ≡ (old.at moment).calls = ap (λ (m : Moment). m.calls) (adds.past moment past) in
    let earlier : (old.at moment).calls ≤ (old.at old.count).calls = is_clock moment old.count past (omega arith) in
    omega (arith, same, earlier, adds.calls)

-- the clock runs on over a step
pub clock_on : (more : ℕ) (old new : Told) → AddsBy more old new → IsClock old → IsClock new
clock_on more old new adds is_clock early late in_order last =
    ⊎_elim (λ within. let below : late ≤ old.count = omega (arith, adds.count) in let first : (new.at early).calls ≡ (old.at early).calls = same early (omega arith) in let second : (new.at late).calls ≡ (old.at late).calls = same late below in let before : (old.at early).calls ≤ (old.at late).calls = is_clock early late in_order below in omega (arith, first, second, before)) (λ past. ⊎_elim (λ sooner. let below : early ≤ old.count = omega (arith, adds.count) in let first : (new.at early).calls ≡ (old.at early).calls = same early below in let before : (old.at early).calls ≤ (old.at old.count).calls = is_clock early old.count below (omega arith) in let end : (new.at late).calls ≡ (new.at new.count).calls = ap (λ (m : ℕ). (new.at m).calls) (omega arith) in omega (arith, first, before, end, adds.calls)) (λ both. let is : (new.at early).calls ≡ (new.at late).calls = ap (λ (m : ℕ). (new.at m).calls) (omega arith) in omega (arith, is)) (cases_lt early new.count)) (cases_lt late new.count)
  where
    same : (moment : ℕ) → moment ≤ old.count → (new.at moment).calls ≡ (old.at moment).calls
    same moment past = ap (λ (m : Moment). m.calls) (adds.past moment past)
