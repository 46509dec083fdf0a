use Rattle.std.proofs.Common.{◌≡◌, List, [], ◌∷◌, ◌++◌, Vec, Global, None, sym, ◌∙◌, ap, subst}
use Rattle.peg_base.specs.Names.{Names}
use Rattle.dir_disk.specs.State.{State, Allows}
use Rattle.dir_disk.specs.Moments.{files}
use Rattle.dir_disk.specs.Lent.{Loan, IsFree}
use Rattle.dir_mem.specs.declared.log.Step.{Step}
use Rattle.dir_mem.specs.declared.mem_dir.Lending.{Lending}
use Rattle.dir_mem.specs.Log.{replaced, state_of, told_by}
use Rattle.dir_mem.specs.Lending.{IsLent}
use Rattle.dir_disk.specs.Children.{after_start, lent_out}
use Rattle.dir_mem.specs.Facts.{allowed_now, allows_it, present}
use Rattle.dir_mem.specs.Sound.{loans_of}
use Rattle.dir_mem.proofs.LoanLemmas.{lent_last, loan_of, loans_append}
use Rattle.dir_mem.proofs.SoundLemmas.{lends_sound, lends_listed, lends_open, lends_to}
use Rattle.dir_mem.proofs.mem_dir.MemDir.lend.Goals as goal

pub add_loan-requires-clause-sound : goal.add_loan-requires-clause-sound
add_loan-requires-clause-sound c =
    let old = c.args.self.now in
    let output = c.args.output.now in
    let change = c.in_ok-change.change in
    let same : c.list_one.new.self.steps.items ≡ old.steps.items = ap (λ (v : Vec Step Global). v.items) c.list_one.ensures.steps in
    let read : c.deref.result.now ≡ c.list_one.new.self.steps.items = c.deref.ensures.value ∙ sym same in
    let makes : replaced change (state_of c.list_one.new.self.steps.items output) ≡ lent_out (state_of c.list_one.new.self.steps.items output) = subst (λ (r : List Step). replaced change (state_of r output) ≡ lent_out (state_of r output)) read c.in_ok-change.ensures.made in
    lends_sound change output (state_of c.list_one.new.self.steps.items) c.in_ok-change.ensures.path makes c.list_one.new.self.sound

pub add_loan-requires-clause-listed : goal.add_loan-requires-clause-listed
add_loan-requires-clause-listed c =
    let old = c.args.self.now in
    let output = c.args.output.now in
    let change = c.in_ok-change.change in
    let same : c.list_one.new.self.steps.items ≡ old.steps.items = ap (λ (v : Vec Step Global). v.items) c.list_one.ensures.steps in
    let read : c.deref.result.now ≡ c.list_one.new.self.steps.items = c.deref.ensures.value ∙ sym same in
    let makes : replaced change (state_of c.list_one.new.self.steps.items output) ≡ lent_out (state_of c.list_one.new.self.steps.items output) = subst (λ (r : List Step). replaced change (state_of r output) ≡ lent_out (state_of r output)) read c.in_ok-change.ensures.made in
    lends_listed c.list_one.new.self.paths.items change output (state_of c.list_one.new.self.steps.items) c.in_ok-change.ensures.path makes c.in_ok-list_one.ensures.listed c.list_one.new.self.listed

pub add_loan-requires-clause-open_ends : goal.add_loan-requires-clause-open_ends
add_loan-requires-clause-open_ends c =
    let old = c.args.self.now in
    let output = c.args.output.now in
    let change = c.in_ok-change.change in
    let same : c.list_one.new.self.steps.items ≡ old.steps.items = ap (λ (v : Vec Step Global). v.items) c.list_one.ensures.steps in
    let read : c.deref.result.now ≡ c.list_one.new.self.steps.items = c.deref.ensures.value ∙ sym same in
    let makes : replaced change (state_of c.list_one.new.self.steps.items output) ≡ lent_out (state_of c.list_one.new.self.steps.items output) = subst (λ (r : List Step). replaced change (state_of r output) ≡ lent_out (state_of r output)) read c.in_ok-change.ensures.made in
    let state : State = state_of c.list_one.new.self.steps.items in
    let lending : Lending = record { input = c.in_ok-copy-3.field-0; output = c.in_ok-copy-4.field-0 } in
    let free : IsFree (loans_of c.list_one.new.self.lent.items) output = subst (λ (l : Vec Lending Global). IsFree (loans_of l.items) output) (sym c.list_one.ensures.lent) c.requires.free in
    let told : State = state_of old.steps.items in
    let none_old : (told output).now ≡ None = c.requires.can.none (told output).now (subst (λ (s : State). Allows (s output).may (told output).now) (sym (present old.steps.items)) (allows_it (told output).may (told output).now (allowed_now (told output) (old.sound output)))) in
    let none : (state output).now ≡ None = ap (λ (r : List Step). (state_of r output).now) same ∙ none_old in
    lends_open c.list_one.new.self.lent.items lending change output state c.in_ok-change.ensures.path makes c.in_ok-copy-4.ensures free none c.list_one.new.self.sound c.list_one.new.self.open_ends

abbrev lends_goal : List Step → List Step → Names → Type 0
lends_goal old new output = files (told_by new) ≡ after_start output (files (told_by old))

pub returns-clause-state : goal.returns-clause-state
returns-clause-state c =
    let old = c.args.self.now in
    let output = c.args.output.now in
    let change = c.in_ok-change.change in
    let same : c.list_one.new.self.steps.items ≡ old.steps.items = ap (λ (v : Vec Step Global). v.items) c.list_one.ensures.steps in
    let read : c.deref.result.now ≡ c.list_one.new.self.steps.items = c.deref.ensures.value ∙ sym same in
    let makes : replaced change (state_of c.list_one.new.self.steps.items output) ≡ lent_out (state_of c.list_one.new.self.steps.items output) = subst (λ (r : List Step). replaced change (state_of r output) ≡ lent_out (state_of r output)) read c.in_ok-change.ensures.made in
    subst (λ (r : List Step). lends_goal r c.add_loan.new.self.steps.items output) same (lends_to change output c.list_one.new.self.steps.items c.add_loan.new.self.steps.items c.in_ok-change.ensures.path makes c.in_ok-add_loan.ensures.ok.reaches)

pub returns-clause-is_lent : goal.returns-clause-is_lent
returns-clause-is_lent c =
    let lent = c.list_one.new.self.lent.items in
    let lending : Lending = record { input = c.in_ok-copy-3.field-0; output = c.in_ok-copy-4.field-0 } in
    let loan : Loan = record { input = c.in_ok-copy.field-0; output = c.in_ok-copy-2.field-0 } in
    let same : loan_of lending ≡ loan = ap (λ (p : Names). let l : Loan = record { input = p; output = c.in_ok-copy-4.field-0 } in l) (c.in_ok-copy-3.ensures ∙ sym c.in_ok-copy.ensures) ∙ ap (λ (p : Names). let l : Loan = record { input = c.in_ok-copy.field-0; output = p } in l) (c.in_ok-copy-4.ensures ∙ sym c.in_ok-copy-2.ensures) in
    subst (IsLent loan) (sym (ap loans_of c.in_ok-add_loan.ensures.lent ∙ loans_append lent (lending ∷ []) ∙ ap (λ (l : Loan). loans_of lent ++ l ∷ []) same)) (lent_last (loans_of lent) loan)
