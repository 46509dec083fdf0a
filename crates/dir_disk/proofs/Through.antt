-- What holds at every moment of a run of calls, whatever they answer.
use Rattle.std.proofs.Common.{◌≡◌, ℕ, ◌+◌, ◌-◌, ◌<◌, ⊎_elim, Result, Ok, Err, refl, sym, ◌∙◌, ap, subst, arith}
use Rattle.std.proofs.lemmas.Bool.{cases_lt}
use Rattle.dir_disk.specs.declared.dir.DirFault.{DirFault}
use Rattle.dir_disk.specs.declared.dir.DirFault.TheVariants.{Failed, NoMemory}
use Rattle.dir_disk.specs.State.{State, IsSound}
use Rattle.dir_disk.specs.Moments.{Moment, Told, AddsBy, Through, Both, files}
use Rattle.dir_disk.specs.Calls.{Call, Does}
use Rattle.dir_disk.proofs.Steps.{Steps, steps_ok, steps_failed}

pub started : (R : State → State → Type 0) (d : Told) → Through R d d
started R d =
    record { later = omega arith; past = λ moment past. refl; each = λ moment from below. absurd (omega arith) }

at_same : (R : State → State → Type 0) (m m' n n' : Moment) → m ≡ m' → n ≡ n' → R m'.state n'.state → R m.state n.state
at_same R m m' n n' first second step =
    subst (λ (x : Moment). R x.state n.state) (sym first) (subst (λ (y : Moment). R m'.state y.state) (sym second) step)

-- one step more, of however many calls
pub adds_step : (more : ℕ) (R : State → State → Type 0) (a b c : Told) → Through R a b → AddsBy more b c → R (files b) (files c) → Through R a c
adds_step more R a b c so_far adds step =
    record {
      later = omega (arith, so_far.later, adds.count);
      past = λ moment past. adds.past moment (omega (arith, so_far.later)) ∙ so_far.past moment past;
      each =
          λ moment from below.
          ⊎_elim (λ before. at_same R (c.at moment) (b.at moment) (c.at (moment + 1)) (b.at (moment + 1)) (adds.past moment (omega arith)) (adds.past (moment + 1) (omega arith)) (so_far.each moment from before)) (λ last. let is : moment ≡ b.count = omega (arith, adds.count) in at_same R (c.at moment) (b.at b.count) (c.at (moment + 1)) (c.at c.count) (ap c.at is ∙ adds.past b.count (omega arith)) (ap (λ (m : ℕ). c.at (m + 1)) is ∙ ap c.at (sym adds.count)) step) (cases_lt moment b.count);
    }

-- one call more, whatever it answers
pub goes_on : {T : Type 0} (R : State → State → Type 0) (a b c : Told) (call : Call) (result : Result T DirFault) → Through R a b → Does call b c result → IsSound (files b) → ((t : State) → Steps call (files b) t → R (files b) t) → Through R a c
goes_on R a b c call (Ok value) so_far does sound step =
    adds_step 1 R a b c so_far does.ok.0 (step (files c) (steps_ok call (files b) (files c) sound does.ok.1))
goes_on R a b c call (Err Failed) so_far does sound step =
    let broken = does.failed refl in
    adds_step 1 R a b c so_far broken.0 (step (files c) (steps_failed call (files b) (files c) broken.1))
goes_on R a b c call (Err NoMemory) so_far does sound step =
    subst (λ (d : Told). Through R a d) (sym (does.no_memory refl)) so_far

-- one run of calls after another
pub then_goes : (R : State → State → Type 0) (a b c : Told) → Through R a b → Through R b c → Through R a c
then_goes R a b c first second =
    record {
      later = omega (arith, first.later, second.later);
      past = λ moment past. second.past moment (omega (arith, first.later)) ∙ first.past moment past;
      each =
          λ moment from below.
          ⊎_elim (λ before. at_same R (c.at moment) (b.at moment) (c.at (moment + 1)) (b.at (moment + 1)) (second.past moment (omega arith)) (second.past (moment + 1) (omega arith)) (first.each moment from before)) (λ later. second.each moment later below) (cases_lt moment b.count);
    }

pub weaker : (R Q : State → State → Type 0) (a b : Told) → ((s t : State) → R s t → Q s t) → Through R a b → Through Q a b
weaker R Q a b weak steps =
    record { later = steps.later; past = steps.past; each = λ moment from below. weak _ _ (steps.each moment from below) }

-- two facts of the same steps are one
pub together : (R Q : State → State → Type 0) (a b : Told) → Through R a b → Through Q a b → Through (λ s t. R s t × Q s t) a b
together R Q a b first second =
    record {
      later = first.later;
      past = first.past;
      each = λ moment from below. (first.each moment from below, second.each moment from below);
    }

-- a fact of the states after the steps holds of the last state
pub at_end : (R : State → State → Type 0) (P : State → Type 0) (a b : Told) → Through R a b → P (files a) → ((s t : State) → R s t → P t) → P (files b)
at_end R P a b steps start each =
    ⊎_elim (λ more. let before : b.count - 1 < b.count = omega arith in let next : b.count - 1 + 1 ≡ b.count = omega arith in subst (λ (m : ℕ). P (b.at m).state) next (each _ _ (steps.each (b.count - 1) (omega arith) before))) (λ none. let same : b.count ≡ a.count = omega (arith, steps.later) in subst (λ (m : Moment). P m.state) (sym (ap b.at same ∙ steps.past a.count (omega arith))) start) (cases_lt a.count b.count)

-- a fact of states that each call keeps
pub keeps : {T : Type 0} (P : State → Type 0) (b c : Told) (call : Call) (result : Result T DirFault) → P (files b) → Does call b c result → IsSound (files b) → ((t : State) → Steps call (files b) t → P t) → Through (Both P) b c
keeps P b c call result start does sound step =
    goes_on (Both P) b b c call result (started (Both P) b) does sound (λ t steps. (start, step t steps))

pub kept : (P : State → Type 0) (a b : Told) → Through (Both P) a b → P (files a) → P (files b)
kept P a b steps start = at_end (Both P) P a b steps start (λ s t both. both.1)
