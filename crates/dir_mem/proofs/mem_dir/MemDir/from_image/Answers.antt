use Rattle.std.proofs.Common.{ℕ, ◌∙◌, Vec, Global, ap, arith}
use Rattle.std.proofs.lemmas.Bool.{false≢true}
use Rattle.dir_mem.specs.Images.{bytes_in, image_of, settled_files}
use Rattle.dir_mem.specs.Log.{state_of}
use Rattle.dir_mem.proofs.ImageLemmas.{no_file_left}
use Rattle.dir_mem.proofs.StartLemmas.{start_done, start_more, start_rest}
use Rattle.dir_mem.proofs.mem_dir.MemDir.from_image.Goals as goal

pub start_with-requires-clause-short : goal.start_with-requires-clause-short
start_with-requires-clause-short c =
    let path = c.in-Some.path in
    let bytes = c.in-Some.bytes.items in
    c.requires.short path bytes (c.loop-path.invariant.rest path bytes (ap bytes_in c.in-Some.ensures.value))

pub loop-path-preserved : goal.loop-path-preserved
loop-path-preserved c =
    let old = c.loop-path.image in
    let new = c.pop_last.new.self in
    let place = c.in-Some.path in
    let so_far = c.loop-path.invariant in
    let updates = c.in-Some.ensures.updates.0 in
    record {
      calls = omega (arith, c.in_ok-start_with.ensures.ok.adds.calls, so_far.calls);
      lent = c.in_ok-start_with.ensures.lent;
      fail = ap (λ (v : Vec ℕ Global). v.items) c.in_ok-start_with.ensures.fail ∙ so_far.fail;
      faults = c.in_ok-start_with.ensures.faults ∙ so_far.faults;
      rest = λ path bytes is. so_far.rest path bytes (start_rest old new place path bytes updates is);
      state = λ path. start_more old new place c.in-Some.bytes (state_of c.loop-path.dir.steps.items) (state_of c.start_with.new.self.steps.items) path (settled_files (image_of c.args.image) path) c.in-Some.ensures.value updates c.in_ok-start_with.ensures.ok.reaches (so_far.state path);
    }

pub returns-clause-files : goal.returns-clause-files
returns-clause-files c =
    start_done c.loop-path.dir.steps.items (image_of c.loop-path.image) (image_of c.args.image) (no_file_left c.loop-path.image (λ some. false≢true (c.in_default.ensures.variant.1 some))) c.loop-path.invariant.state
