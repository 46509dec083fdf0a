use Rattle.std.proofs.Common.{◌≡◌, List, Vec, Global, ap, subst}
use Rattle.dir_disk.specs.Children.{after_start, lent_out}
use Rattle.dir_disk.specs.Moments.{files}
use Rattle.dir_mem.specs.declared.log.Step.{Step}
use Rattle.dir_mem.specs.Log.{replaced, state_of, told_by}
use Rattle.dir_mem.proofs.SoundLemmas.{lends_sound, lends_listed, lends_to, spoils_open}
use Rattle.dir_mem.proofs.mem_dir.MemDir.spoil.Goals as goal

pub add_change-requires-clause-sound : goal.add_change-requires-clause-sound
add_change-requires-clause-sound c =
    let steps = c.list_one.new.self.steps.items in
    let output = c.args.output.now in
    let makes : replaced c.in_ok-change.change (state_of steps output) ≡ lent_out (state_of steps output) = subst (λ (r : List Step). replaced c.in_ok-change.change (state_of r output) ≡ lent_out (state_of r output)) c.deref.ensures.value c.in_ok-change.ensures.made in
    lends_sound c.in_ok-change.change output (state_of steps) c.in_ok-change.ensures.path makes c.list_one.new.self.sound

pub add_change-requires-clause-listed : goal.add_change-requires-clause-listed
add_change-requires-clause-listed c =
    let steps = c.list_one.new.self.steps.items in
    let output = c.args.output.now in
    let makes : replaced c.in_ok-change.change (state_of steps output) ≡ lent_out (state_of steps output) = subst (λ (r : List Step). replaced c.in_ok-change.change (state_of r output) ≡ lent_out (state_of r output)) c.deref.ensures.value c.in_ok-change.ensures.made in
    lends_listed c.list_one.new.self.paths.items c.in_ok-change.change output (state_of steps) c.in_ok-change.ensures.path makes c.in_ok-list_one.ensures.listed c.list_one.new.self.listed

pub add_change-requires-clause-open_ends : goal.add_change-requires-clause-open_ends
add_change-requires-clause-open_ends c =
    let steps = c.list_one.new.self.steps.items in
    let output = c.args.output.now in
    let makes : replaced c.in_ok-change.change (state_of steps output) ≡ lent_out (state_of steps output) = subst (λ (r : List Step). replaced c.in_ok-change.change (state_of r output) ≡ lent_out (state_of r output)) c.deref.ensures.value c.in_ok-change.ensures.made in
    spoils_open c.list_one.new.self.lent.items c.in_ok-change.change output (state_of steps) c.in_ok-change.ensures.path makes c.list_one.new.self.open_ends

pub returns-clause-state : goal.returns-clause-state
returns-clause-state c =
    let steps = c.list_one.new.self.steps.items in
    let output = c.args.output.now in
    let makes : replaced c.in_ok-change.change (state_of steps output) ≡ lent_out (state_of steps output) = subst (λ (r : List Step). replaced c.in_ok-change.change (state_of r output) ≡ lent_out (state_of r output)) c.deref.ensures.value c.in_ok-change.ensures.made in
    let same : steps ≡ c.args.self.now.steps.items = ap (λ (v : Vec Step Global). v.items) c.list_one.ensures.steps in
    subst (λ (r : List Step). files (told_by c.add_change.new.self.steps.items) ≡ after_start output (files (told_by r))) same (lends_to c.in_ok-change.change output steps c.add_change.new.self.steps.items c.in_ok-change.ensures.path makes c.in_ok-add_change.ensures.ok.reaches)
