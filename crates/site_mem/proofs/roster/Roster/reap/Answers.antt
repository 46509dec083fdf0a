use Rattle.std.proofs.Common.{rules, ◌≡◌, ◌≤◌, ℕ, length, w32, SFits, to_z, of_z, to_z-of_z, List, ◌∷◌, ◌++◌, ◌+◌, ◌∙◌, Some, ap, sym, subst, arith, take, drop}
use Rattle.std.specs.Prelude.{ℤ, if◌then◌else◌}
use Rattle.dir_disk.specs.Lent.{Loan}
use Rattle.dir_disk.specs.Moments.{files}
use Rattle.peg_base.specs.declared.tasks.Attempt.{Attempt}
use Rattle.dir_disk.specs.declared.site.LogEntry.{LogEntry}
use Rattle.dir_disk.specs.Children.{Child, Seen, loan_of, loans_of}
use Rattle.std.proofs.lemmas.List.{length-take-le}
use Rattle.site_mem.specs.Plans.{IsNext, Planned, status_of}
use Rattle.dir_mem.specs.Lending.{IsLent, TakesOff, after_loan}
use Rattle.dir_mem.specs.Memory.{lent_of, told_of}
use Rattle.site_mem.specs.Ends.{WriteApart, is_zero}
use Rattle.site_mem.specs.Rosters.{Roll}
use Rattle.site_mem.proofs.Leaving.{apart_then, child_lent, leaves, left_is, lent_then}
use Rattle.site_mem.proofs.roster.Roster.reap.Goals as goal

pub end_loan-requires-clause-lent : goal.end_loan-requires-clause-lent
end_loan-requires-clause-lent g c =
    let running : List Child = c.self.inside.running.items in
    let before = take c.next_place-place.result running in
    let after = drop (c.next_place-place.result + 1) running in
    let child : Child = c.take_at.result in
    let loan_is : c.attempt.inside.loan ≡ loan_of child = ap loan_of c.attempt.view_is in
    let was : lent_of c.args.dir.now ≡ loans_of (before ++ child ∷ after) = c.requires.lent ∙ ap (λ (r : Roll). loans_of r.seen.running) (sym c.self.view_is) ∙ ap loans_of c.take_at.ensures.was in
    subst (λ (l : Loan). IsLent l (lent_of c.args.dir.now)) (sym loan_is) (child_lent (lent_of c.args.dir.now) before after child was)

pub invariant_of-self : goal.invariant_of-self
invariant_of-self g c =
    let running : List Child = c.self.inside.running.items in
    let before = take c.next_place-place.result running in
    let after = drop (c.next_place-place.result + 1) running in
    let child : Child = c.take_at.result in
    (search rules, subst (λ (cs : List Child). WriteApart (loans_of cs)) (sym c.take_at.ensures.items) (apart_then before after child (subst (λ (cs : List Child). WriteApart (loans_of cs)) c.take_at.ensures.was c.self.invariant.1)))

pub returns-clause-lent : goal.returns-clause-lent
returns-clause-lent g c =
    let running : List Child = c.self.inside.running.items in
    let before = take c.next_place-place.result running in
    let after = drop (c.next_place-place.result + 1) running in
    let child : Child = c.take_at.result in
    let old = lent_of c.args.dir.now in
    let new = lent_of c.end_loan.new.self in
    let loan_is : c.attempt.inside.loan ≡ loan_of child = ap loan_of c.attempt.view_is in
    let was : old ≡ loans_of (before ++ child ∷ after) = c.requires.lent ∙ ap (λ (r : Roll). loans_of r.seen.running) (sym c.self.view_is) ∙ ap loans_of c.take_at.ensures.was in
    let apart = subst (λ (cs : List Child). WriteApart (loans_of cs)) c.take_at.ensures.was c.self.invariant.1 in
    lent_then old new before after child was apart (subst (λ (l : Loan). TakesOff l old new) loan_is c.end_loan.ensures.lent) ∙ ap loans_of (sym c.take_at.ensures.items)

pub returns-clause-ended : goal.returns-clause-ended
returns-clause-ended g c =
    let running : List Child = c.self.inside.running.items in
    let place : ℕ = c.next_place-place.result in
    let plan : Planned = c.args.plan.now in
    let seen : Seen = c.args.self.now.seen in
    let child : Child = c.take_at.result in
    let old = told_of c.args.dir.now in
    let new = told_of c.end_loan.new.self in
    let left : List ℕ = c.left_by.result.items in
    let status : ℤ = to_z w32 (of_z w32 c.status_of-status.result) in
    let gives : List ℕ = g.R.Roles.gives child.words child.given in
    let output_is : c.attempt.inside.loan.output ≡ child.output = ap (λ (ch : Child). ch.output) c.attempt.view_is in
    let attempt_is : c.attempt.inside.attempt ≡ child.attempt = ap (λ (ch : Child). ch.attempt) c.attempt.view_is in
    let log_is : c.self.inside.log.items ≡ seen.log = ap (λ (r : Roll). r.seen.log) c.self.view_is in
    let running_is : running ≡ seen.running = ap (λ (r : Roll). r.seen.running) c.self.view_is in
    let goes : files new ≡ after_loan child.output (Some left) (files old) = subst (λ o. files new ≡ after_loan o (Some left) (files old)) output_is c.end_loan.ensures.state in
    let answer : c.attempt.inside.answer.items ≡ gives = c.attempt.invariant.1 ∙ ap (λ (ch : Child). g.R.Roles.gives ch.words ch.given) c.attempt.view_is in
    let fits : SFits w32 c.status_of-status.result = search rules in
    let status_is : status ≡ status_of plan seen.log child.attempt gives = to_z-of_z fits ∙ c.status_of-status.ensures ∙ ap (λ (l : List LogEntry). status_of plan l c.attempt.inside.attempt c.deref-4.result.now) (c.deref-3.ensures.value ∙ log_is) ∙ ap (λ (x : List ℕ). status_of plan seen.log c.attempt.inside.attempt x) (c.deref-4.ensures.value ∙ answer) ∙ ap (λ (a : Attempt). status_of plan seen.log a gives) attempt_is in
    let next : IsNext plan seen.log seen.running place = subst (λ (l : List LogEntry). IsNext plan l seen.running place) (c.deref.ensures.value ∙ log_is) (subst (λ (cs : List Child). IsNext plan c.deref.result.now cs place) (c.deref-2.ensures.value ∙ running_is) c.next_place-place.ensures.next) in
    let within : place ≤ length running = omega (arith, c.next_place-place.ensures.within, ap (λ (cs : List Child). length cs) c.deref-2.ensures.value) in (
      child,
      record {
        before = take place running;
        after = drop (place + 1) running;
        was = sym running_is ∙ c.take_at.ensures.was;
        running = c.take_at.ensures.items;
        same = sym attempt_is;
        log = search rules;
        start_faults = ap (λ (r : Roll). r.seen.start_faults) c.self.view_is;
      },
      leaves g.R.Roles.gives child status left old new c.end_loan.ensures.step goes (λ done. c.left_by.ensures ∙ ap (λ (s : ℤ). if is_zero s then c.attempt.inside.answer.items else c.attempt.inside.remains.items) done ∙ answer),
      subst (λ (n : ℕ). IsNext plan seen.log seen.running n) (sym (length-take-le place running within)) next,
      status_is,
      left_is child.output left (files old) (files new) goes ∙ ap Some (c.left_by.ensures ∙ ap (λ (x : List ℕ). if is_zero status then x else c.attempt.inside.remains.items) answer ∙ ap (λ (x : List ℕ). if is_zero status then gives else x) c.attempt.invariant.2),
    )
