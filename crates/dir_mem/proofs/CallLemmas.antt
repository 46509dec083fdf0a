-- What a call does, from the step that it adds to the log.
use Rattle.std.proofs.Common.{◌≡◌, Bool, true, false, ◌||◌, ⊎_elim, List, Result, Ok, Err, refl, sym, ◌∙◌, ap, subst}
use Rattle.std.specs.Prelude.{OnOk, OnErr, IfErr, IsErrOf}
use Rattle.std.proofs.lemmas.Bool.{cases_Bool}
use Rattle.peg_base.specs.Names.{Names, under}
use Rattle.dir_disk.specs.declared.dir.DirFault.{DirFault}
use Rattle.dir_disk.specs.declared.dir.DirFault.TheVariants.{Failed, NoMemory}
use Rattle.dir_disk.specs.State.{Held, State}
use Rattle.dir_disk.specs.Moments.{files}
use Rattle.dir_disk.specs.Calls.{Call, Look, Append, Move, Remove, Settle, after, after_fault, may_change, Broken, Does}
use Rattle.dir_disk.proofs.Steps.{after_others}
use Rattle.dir_mem.specs.declared.log.Step.{Step}
use Rattle.dir_mem.specs.declared.log.Change.{Change}
use Rattle.dir_mem.specs.Traces.{newest}
use Rattle.dir_mem.specs.Log.{AddsStep, after_changes, state_of, told_by}
use Rattle.dir_mem.specs.Failing.{FailsWhen, HasNewest}
use Rattle.dir_mem.specs.Sound.{IsSoundState}
use Rattle.dir_mem.specs.Facts.{allowed_now, allows_it, present}
use Rattle.dir_mem.specs.Effects.{Leads, after_break, broken}
use Rattle.dir_mem.proofs.EffectLemmas.{if_true, if_false}

-- states that are the same at each path are the same
pub same_state : (s t : State) → ((path : Names) → s path ≡ t path) → s ≡ t
same_state s t same = λ i path. same path i

-- a call that was carried out
pub does_ok : (call : Call) (changes : List Change) (read old new : List Step) (result : Result (Unit {0}) DirFault) → read ≡ old → Leads changes (state_of read) (after call (state_of read)) → OnOk result (AddsStep 1 old new (after_changes changes (state_of old))) → IfErr result (λ fault. fault ≡ NoMemory) → OnErr result (new ≡ old) → Does call (told_by old) (told_by new) result
does_ok call changes read old new (Ok value) same leads adds err steps =
    let goes = subst (λ (r : List Step). Leads changes (state_of r) (after call (state_of r))) same leads in
    record {
      ok = (adds.adds, present new ∙ adds.reaches ∙ same_state (after_changes changes (state_of old)) (after call (state_of old)) goes ∙ ap (after call) (sym (present old)));
      failed = λ never. absurd (cc);
      no_memory = λ never. absurd (cc);
    }
does_ok call changes read old new (Err fault) same leads adds err steps =
    record {
      ok = tt;
      failed = λ failed. absurd (cc);
      no_memory = λ none. ap told_by steps;
    }

fault_others : (call : Call) (s : State) (path : Names) → may_change call path ≡ false → after_fault call s path ≡ s path
fault_others (Look top) s path apart = refl
fault_others (Append top bytes) s path apart = after_others (Append top bytes) s path apart
fault_others (Move from to) s path apart = after_others (Move from to) s path apart
fault_others (Remove top) s path apart = after_others (Remove top) s path apart
fault_others (Settle top) s path apart = refl

-- a call that was broken off
pub does_fail : (call : Call) (fault : State) (top other : Names) (old new : List Step) (result : DirFault) → ((path : Names) → may_change call path ≡ (under top path || under other path)) → ((path : Names) → (fault path).may ≡ (after_fault call (state_of old) path).may) → (result ≡ Failed → AddsStep 1 old new (after_break top other fault (state_of old))) → (result ≡ NoMemory → new ≡ old) → IsSoundState (state_of new) → Does {T = Unit {0}} call (told_by old) (told_by new) (Err result)
does_fail call fault top other old new result reach may failed none sound =
    record {
      ok = tt;
      failed = λ is. let it : result ≡ Failed = cc in ((failed it).adds, breaks (failed it).reaches);
      no_memory = λ is. let it : result ≡ NoMemory = cc in ap told_by (none it);
    }
  where
    s : State
    s = state_of old

    breaks : state_of new ≡ after_break top other fault s → Broken call (files (told_by old)) (files (told_by new))
    breaks is =
        let at : (path : Names) → state_of new path ≡ after_break top other fault s path = λ path. ap (λ (t : State). t path) is in
        let inner : Broken call s (state_of new) = record {
          may = λ path. ⊎_elim (λ holds. ap (λ (h : Held). h.may) (at path ∙ if_true (under top path || under other path) (broken (fault path)) (s path) holds) ∙ may path) (λ fails. ap (λ (h : Held). h.may) (at path ∙ if_false (under top path || under other path) (broken (fault path)) (s path) fails) ∙ ap (λ (h : Held). h.may) (sym (fault_others call s path (reach path ∙ fails)))) (cases_Bool (under top path || under other path));
          now = λ path changes. allows_it (state_of new path).may (state_of new path).now (allowed_now (state_of new path) (sound path));
          others = λ path apart. at path ∙ if_false (under top path || under other path) (broken (fault path)) (s path) (sym (reach path) ∙ apart);
        } in
        subst (λ (t : State). Broken call t (files (told_by new))) (sym (present old)) (subst (λ (t : State). Broken call s t) (sym (present new)) inner)

pub or_same : (a : Bool) → a ≡ (a || a)
or_same true = refl
or_same false = refl

-- a call that is due to fail is broken off
pub fails_due : (due : Bool) (fault : DirFault) → due ≡ true → FailsWhen {T = Unit {0}} due (Err fault)
fails_due due Failed is = is
fails_due due NoMemory is = tt

-- a call that isn't finds no memory, or is carried out
pub fails_not : (due : Bool) (result : Result (Unit {0}) DirFault) → due ≡ false → IfErr result (λ fault. fault ≡ NoMemory) → FailsWhen due result
fails_not due (Ok value) is err = is
fails_not due (Err fault) is err = subst (λ (f : DirFault). FailsWhen {T = Unit {0}} due (Err f)) (sym err) tt

-- a call that was broken off leaves the newest at the paths that it may change
pub breaks_newest : (call : Call) (fault : State) (top other : Names) (old new : List Step) (result : DirFault) → ((path : Names) → may_change call path ≡ (under top path || under other path)) → (result ≡ Failed → AddsStep 1 old new (after_break top other fault (state_of old))) → IsErrOf {T = Unit {0}} (Err result) Failed → HasNewest call (files (told_by new))
breaks_newest call fault top other old new result reach failed is path changes =
    let it : result ≡ Failed = cc in
    let held : state_of new path ≡ broken (fault path) = ap (λ (t : State). t path) (failed it).reaches ∙ if_true (under top path || under other path) (broken (fault path)) (state_of old path) (sym (reach path) ∙ changes) in
    subst (λ (t : State). (t path).now ≡ newest (t path).may) (sym (present new)) (subst (λ (h : Held). h.now ≡ newest h.may) (sym held) refl)

-- a call that isn't due to fail leaves nothing broken
pub none_failed : (call : Call) (state : State) (result : Result (Unit {0}) DirFault) → IfErr result (λ fault. fault ≡ NoMemory) → IsErrOf result Failed → HasNewest call state
none_failed call state (Ok value) none is = absurd (cc)
none_failed call state (Err fault) none is = absurd (cc)
