use Rattle.std.proofs.Common.{◌≡◌, ◌∙◌, ◌<◌, ◌++◌, [], ℕ, List, length, map, get_or, ap, sym, subst, arith, Vec, Global}
use Rattle.std.specs.List.{All}
use Rattle.peg_base.specs.Names.{Names}
use Rattle.dir_disk.specs.Moments.{Told, Through, Both, files}
use Rattle.pairs.specs.Pairs.{Pair, IsPlain, pairs_in}
use Rattle.spill.specs.Runs.{new_runs, StandsBesideRuns, StandsButRuns, HasRuns}
use Rattle.spill.specs.Chunks.{AreListsFree, AreListsVacant, StandsBesideLists, StandsButLists, HasLists, AreNoted}
use Rattle.spill.specs.Spills.{Held, pairs_at, runs_at, next_run, AreFree, AreVacant}
use Rattle.spill.proofs.SpillLemmas.{lists_free, lists_held, lists_vacant, parts_counted, runs_alone, runs_noted, runs_written, steps_beside_runs, well_emptied}
use Rattle.spill.proofs.spill.Spill.flush.Goals as goal

-- what a vector of paths holds
abbrev names_of : Vec Names Global → List Names
names_of paths = paths.items

pub returns-in_default-clause-plain : goal.returns-in_default-clause-plain
returns-in_default-clause-plain g c =
    subst (λ (h : Held). All IsPlain h.pairs) c.self.view_is c.self.invariant.plain

pub write_chunk-written-requires-clause-few : goal.write_chunk-written-requires-clause-few
write_chunk-written-requires-clause-few g c =
    let inside = c.self.inside in
    let many = parts_counted inside.text.items inside.parts.items inside.bytes inside.reducers (length inside.runs.items) inside.folder c.self.invariant in
    let same = ap length c.deref_mut.ensures.value in
    omega (arith, many, same, c.self.invariant.few)

pub write_chunk-written-requires-clause-runs : goal.write_chunk-written-requires-clause-runs
write_chunk-written-requires-clause-runs g c =
    let inside = c.self.inside in
    c.self.invariant.each_part ∙ sym (parts_counted inside.text.items inside.parts.items inside.bytes inside.reducers (length inside.runs.items) inside.folder c.self.invariant) ∙ ap length (sym c.deref_mut.ensures.value)

pub write_chunk-written-requires-clause-lent : goal.write_chunk-written-requires-clause-lent
write_chunk-written-requires-clause-lent g c =
    let inside = c.self.inside in
    let lists = lists_held inside.text.items c.deref.result.now inside.parts.items c.deref_mut.result.now inside.bytes inside.reducers (length inside.runs.items) inside.folder c.self.invariant c.deref.ensures.value c.deref_mut.ensures.value in
    let free = subst (λ (h : Held). AreFree (g.D.Dir.lent c.args.dir.now) h) (sym c.self.view_is) c.requires.lent in
    subst (λ (ls : List (List Pair)). AreListsFree inside.folder inside.flushes ls (g.D.Dir.lent c.args.dir.now)) (sym lists) (lists_free inside.folder inside.flushes inside.reducers (pairs_in inside.text.items) (g.D.Dir.lent c.args.dir.now) free)

pub write_chunk-written-requires-clause-vacant : goal.write_chunk-written-requires-clause-vacant
write_chunk-written-requires-clause-vacant g c =
    λ tells.
    let inside = c.self.inside in
    let lists = lists_held inside.text.items c.deref.result.now inside.parts.items c.deref_mut.result.now inside.bytes inside.reducers (length inside.runs.items) inside.folder c.self.invariant c.deref.ensures.value c.deref_mut.ensures.value in
    let old : Told = g.D.Dir.told c.args.dir.now in
    let vacant = subst (λ (h : Held). AreVacant (files old) h) (sym c.self.view_is) (c.requires.vacant tells) in
    subst (λ (ls : List (List Pair)). AreListsVacant inside.folder inside.flushes ls (files old)) (sym lists) (lists_vacant inside.folder inside.flushes inside.reducers (pairs_in inside.text.items) (files old) vacant)

pub returns-in_err-written-clause-steps : goal.returns-in_err-written-clause-steps
returns-in_err-written-clause-steps g c =
    λ tells.
    let inside = c.self.inside in
    let lists = lists_held inside.text.items c.deref.result.now inside.parts.items c.deref_mut.result.now inside.bytes inside.reducers (length inside.runs.items) inside.folder c.self.invariant c.deref.ensures.value c.deref_mut.ensures.value in
    let old : Told = g.D.Dir.told c.args.dir.now in
    let new : Told = g.D.Dir.told c.write_chunk-written.new.dir in
    let steps = subst (λ (ls : List (List Pair)). Through (Both (StandsBesideLists inside.folder inside.flushes ls (files old))) old new) lists (c.write_chunk-written.ensures.steps tells) in
    subst (λ (h : Held). Through (Both (StandsBesideRuns h.folder h.flushes h.reducers h.pairs (files old))) old new) c.self.view_is (steps_beside_runs inside.folder inside.flushes inside.reducers (pairs_in inside.text.items) old new steps)

pub returns-in_err-written-clause-plain : goal.returns-in_err-written-clause-plain
returns-in_err-written-clause-plain g c =
    subst (λ (h : Held). All IsPlain h.pairs) c.self.view_is c.self.invariant.plain

pub returns-clause-steps : goal.returns-clause-steps
returns-clause-steps g c =
    λ tells.
    let inside = c.self.inside in
    let lists = lists_held inside.text.items c.deref.result.now inside.parts.items c.deref_mut.result.now inside.bytes inside.reducers (length inside.runs.items) inside.folder c.self.invariant c.deref.ensures.value c.deref_mut.ensures.value in
    let old : Told = g.D.Dir.told c.args.dir.now in
    let new : Told = g.D.Dir.told c.write_chunk-written.new.dir in
    let steps = subst (λ (ls : List (List Pair)). Through (Both (StandsBesideLists inside.folder inside.flushes ls (files old))) old new) lists (c.write_chunk-written.ensures.steps tells) in
    subst (λ (h : Held). Through (Both (StandsBesideRuns h.folder h.flushes h.reducers h.pairs (files old))) old new) c.self.view_is (steps_beside_runs inside.folder inside.flushes inside.reducers (pairs_in inside.text.items) old new steps)

pub returns-clause-written : goal.returns-clause-written
returns-clause-written g c =
    λ tells.
    let inside = c.self.inside in
    let lists = lists_held inside.text.items c.deref.result.now inside.parts.items c.deref_mut.result.now inside.bytes inside.reducers (length inside.runs.items) inside.folder c.self.invariant c.deref.ensures.value c.deref_mut.ensures.value in
    let new : Told = g.D.Dir.told c.write_chunk-written.new.dir in
    let written = subst (λ (ls : List (List Pair)). HasLists inside.folder inside.flushes ls (files new)) lists (c.in_ok-written.ensures.written tells) in
    subst (λ (h : Held). HasRuns h.folder h.flushes h.reducers h.pairs (files new)) c.self.view_is (runs_written inside.folder inside.flushes inside.reducers (pairs_in inside.text.items) (files new) written)

pub returns-clause-others : goal.returns-clause-others
returns-clause-others g c =
    λ tells.
    let inside = c.self.inside in
    let lists = lists_held inside.text.items c.deref.result.now inside.parts.items c.deref_mut.result.now inside.bytes inside.reducers (length inside.runs.items) inside.folder c.self.invariant c.deref.ensures.value c.deref_mut.ensures.value in
    let old = files (g.D.Dir.told c.args.dir.now) in
    let new = files (g.D.Dir.told c.write_chunk-written.new.dir) in
    let alone = subst (λ (ls : List (List Pair)). StandsButLists inside.folder inside.flushes ls old new) lists (c.in_ok-written.ensures.others tells) in
    subst (λ (h : Held). StandsButRuns h.folder h.flushes h.reducers h.pairs old new) c.self.view_is (runs_alone inside.folder inside.flushes inside.reducers (pairs_in inside.text.items) old new alone)

pub returns-clause-runs : goal.returns-clause-runs
returns-clause-runs g c =
    let inside = c.self.inside in
    let lists = lists_held inside.text.items c.deref.result.now inside.parts.items c.deref_mut.result.now inside.bytes inside.reducers (length inside.runs.items) inside.folder c.self.invariant c.deref.ensures.value c.deref_mut.ensures.value in
    let before : List (List Names) = map names_of inside.runs.items in
    let after : List (List Names) = map names_of c.write_chunk-written.new.runs.items in
    let noted = subst (λ (ls : List (List Pair)). AreNoted inside.folder inside.flushes ls before after) lists c.in_ok-written.ensures.noted in
    subst (λ (h : Held). (part : ℕ) → part < h.reducers → get_or after part [] ≡ runs_at h part ++ new_runs (next_run h part) (pairs_at h part)) c.self.view_is (runs_noted inside.folder inside.flushes inside.reducers (pairs_in inside.text.items) before after noted)

pub returns-clause-plain : goal.returns-clause-plain
returns-clause-plain g c =
    subst (λ (h : Held). All IsPlain h.pairs) c.self.view_is c.self.invariant.plain

pub invariant_of-self : goal.invariant_of-self
invariant_of-self g c =
    let inside = c.self.inside in
    let runs = c.write_chunk-written.new.runs.items in
    let parts = c.clear_parts.new.parts in
    let held = parts_counted inside.text.items inside.parts.items inside.bytes inside.reducers (length inside.runs.items) inside.folder c.self.invariant in
    let long : length parts ≡ inside.parts.len = omega (arith, c.clear_parts.ensures.len, c.deref_mut-2.ensures.len) in
    well_emptied c.clear.new.self.items parts _ inside.parts.len inside.reducers (length runs) inside.folder c.clear.ensures.items c.clear_parts.ensures.none long (inside.parts.ok.0 ∙ held) c.self.invariant.some c.self.invariant.few (c.write_chunk-written.ensures.len ∙ c.self.invariant.each_part) c.self.invariant.short

pub invariant_of-self-2 : goal.invariant_of-self-2
invariant_of-self-2 g c =
    let inside = c.self.inside in
    let runs = c.write_chunk-written.new.runs.items in
    let parts = c.clear_parts.new.parts in
    let held = parts_counted inside.text.items inside.parts.items inside.bytes inside.reducers (length inside.runs.items) inside.folder c.self.invariant in
    let long : length parts ≡ inside.parts.len = omega (arith, c.clear_parts.ensures.len, c.deref_mut-2.ensures.len) in
    well_emptied c.clear.new.self.items parts _ inside.parts.len inside.reducers (length runs) inside.folder c.clear.ensures.items c.clear_parts.ensures.none long (inside.parts.ok.0 ∙ held) c.self.invariant.some c.self.invariant.few (c.write_chunk-written.ensures.len ∙ c.self.invariant.each_part) c.self.invariant.short
