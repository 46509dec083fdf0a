use Rattle.std.proofs.Common.{◌∙◌, None, Vec, Global, refl, ap, ℕ}
use Rattle.std.specs.Prelude.{is_some, option_map}
use Rattle.std.specs.List.{position}
use Rattle.dir_disk.specs.Lent.{Loan}
use Rattle.dir_disk.specs.State.{State}
use Rattle.dir_mem.specs.declared.log.Change.{Change}
use Rattle.dir_mem.specs.Log.{state_of}
use Rattle.dir_mem.proofs.LoanLemmas.{ends_sound, ends_no_top, ends_listed, ends_open, is_of, open_at, place_found, short_left, taken_off}
use Rattle.dir_mem.proofs.mem_dir.MemDir.end_loan.Goals as goal

pub unwrap-place-requires : goal.unwrap-place-requires
unwrap-place-requires c =
    let loan = c.args.loan in
    ap is_some (c.place_of.ensures ∙ ap (position (is_of loan)) c.deref.ensures.value ∙ place_found loan c.args.self.now.lent.items c.requires.lent)

pub end_at-requires-clause-sound : goal.end_at-requires-clause-sound
end_at-requires-clause-sound c =
    let old = c.args.self.now in
    let loan = c.args.loan in
    let state : State = state_of old.steps.items in
    let left = option_map (λ (bytes : Vec ℕ Global). bytes.items) c.args.left in
    let change : Change = record { path = c.loan.inside.output; now = c.args.left; may = None } in
    ends_sound change loan.output left state (ap (λ (l : Loan). l.output) c.loan.view_is) refl (short_left c.args.left c.requires.short) (open_at loan old.lent.items state c.requires.lent old.open_ends) old.sound

pub end_at-requires-clause-no_top : goal.end_at-requires-clause-no_top
end_at-requires-clause-no_top c =
    let old = c.args.self.now in
    let loan = c.args.loan in
    let state : State = state_of old.steps.items in
    let left = option_map (λ (bytes : Vec ℕ Global). bytes.items) c.args.left in
    let change : Change = record { path = c.loan.inside.output; now = c.args.left; may = None } in
    ends_no_top change loan.output left state (ap (λ (l : Loan). l.output) c.loan.view_is) refl (open_at loan old.lent.items state c.requires.lent old.open_ends) old.no_top

pub end_at-requires-clause-listed : goal.end_at-requires-clause-listed
end_at-requires-clause-listed c =
    let old = c.args.self.now in
    let loan = c.args.loan in
    let state : State = state_of old.steps.items in
    let change : Change = record { path = c.loan.inside.output; now = c.args.left; may = None } in
    ends_listed old.paths.items change loan.output state (ap (λ (l : Loan). l.output) c.loan.view_is) (open_at loan old.lent.items state c.requires.lent old.open_ends) old.listed

pub end_at-requires-clause-open_ends : goal.end_at-requires-clause-open_ends
end_at-requires-clause-open_ends c =
    let old = c.args.self.now in
    let loan = c.args.loan in
    let state : State = state_of old.steps.items in
    let left = option_map (λ (bytes : Vec ℕ Global). bytes.items) c.args.left in
    let change : Change = record { path = c.loan.inside.output; now = c.args.left; may = None } in
    ends_open old.lent.items c.unwrap-place.result change loan.output left state (ap (λ (l : Loan). l.output) c.loan.view_is) refl old.open_ends

pub returns-clause-lent : goal.returns-clause-lent
returns-clause-lent c =
    let loan = c.args.loan in
    let lent = c.args.self.now.lent.items in
    taken_off loan lent c.end_at.new.self.lent.items c.place_of.result c.unwrap-place.result c.requires.lent (c.place_of.ensures ∙ ap (position (is_of loan)) c.deref.ensures.value) c.unwrap-place.ensures c.end_at.ensures.lent
