use Rattle.std.proofs.Common.{◌≡◌, ◌∙◌, ◌++◌, ◌+◌, ℕ, List, length, take, drop, sym, ap, arith, rules}
use Rattle.std.proofs.lemmas.Bool.{eqb-true}
use Rattle.std.proofs.lemmas.List.{length-append}
use Rattle.peg_text.specs.Records.{HasNoLf, records_of}
use Rattle.dir_disk.specs.Moments.{files}
use Rattle.dir_disk.specs.State.{bytes_at}
use Rattle.dir_disk.proofs.Says.{fresh_call}
use Rattle.store.specs.Tallies.{HasTallied}
use Rattle.store.proofs.LookLemmas.{looks_more, read_still, read_on, read_ended}
use Rattle.store.proofs.TallyLemmas.{if_found, tallied_left}
use Rattle.store.proofs.tally.add_pieces.Goals as goal

pub returns-in_err-piece-clause-stands : goal.returns-in_err-piece-clause-stands
returns-in_err-piece-clause-stands g c =
    λ tells. looks_more c.args.path.now (g.D.Dir.told c.args.dir.now) (g.D.Dir.told c.loop-place.dir) (g.D.Dir.told c.read.new.self) c.read.result (c.loop-place.invariant.stands tells) (c.read.ensures.call tells) (λ q. g.met.D.Dir.now_allowed c.loop-place.dir q tells)

pub returns-then-is_empty-clause-added : goal.returns-then-is_empty-clause-added
returns-then-is_empty-clause-added g c =
    λ tells before so_far.
    let bytes = bytes_at (files (g.D.Dir.told c.args.dir.now)) c.args.path.now in
    let piece = c.in_ok-piece.piece.items in
    let read : piece ≡ take 65536 (drop c.loop-place.place bytes) = read_still c.args.path.now (g.D.Dir.told c.args.dir.now) (g.D.Dir.told c.loop-place.dir) piece c.loop-place.place 65536 (c.loop-place.invariant.stands tells) (c.in_ok-piece.ensures.bytes tells) in
    let none : length piece ≡ 0 = omega (arith, c.in_ok-piece.piece.ok, eqb-true _ 0 (sym c.is_empty.ensures ∙ c.if-is_empty.true)) in
    tallied_left _ _ before c.args.part (records_of bytes) _ c.loop-place.held c.loop-place.line (read_ended bytes c.loop-place.held piece c.loop-place.place 65536 read (omega arith) none) (c.loop-place.invariant.added tells before so_far)

pub returns-then-is_empty-clause-stands : goal.returns-then-is_empty-clause-stands
returns-then-is_empty-clause-stands g c =
    λ tells. looks_more c.args.path.now (g.D.Dir.told c.args.dir.now) (g.D.Dir.told c.loop-place.dir) (g.D.Dir.told c.read.new.self) c.read.result (c.loop-place.invariant.stands tells) (c.read.ensures.call tells) (λ q. g.met.D.Dir.now_allowed c.loop-place.dir q tells)

pub returns-then-is_empty-clause-fresh : goal.returns-then-is_empty-clause-fresh
returns-then-is_empty-clause-fresh g c =
    λ tells before. fresh_call (g.D.Dir.told c.loop-place.dir) (g.D.Dir.told c.read.new.self) (c.in_ok-piece.ensures.call tells).ok.0 (λ early late order below. g.met.D.Dir.clock c.loop-place.dir early late tells order below)

pub returns-in_err-feed-clause-stands : goal.returns-in_err-feed-clause-stands
returns-in_err-feed-clause-stands g c =
    λ tells. looks_more c.args.path.now (g.D.Dir.told c.args.dir.now) (g.D.Dir.told c.loop-place.dir) (g.D.Dir.told c.read.new.self) c.read.result (c.loop-place.invariant.stands tells) (c.read.ensures.call tells) (λ q. g.met.D.Dir.now_allowed c.loop-place.dir q tells)

pub returns-in_err-add_records-clause-stands : goal.returns-in_err-add_records-clause-stands
returns-in_err-add_records-clause-stands g c =
    λ tells. looks_more c.args.path.now (g.D.Dir.told c.args.dir.now) (g.D.Dir.told c.loop-place.dir) (g.D.Dir.told c.read.new.self) c.read.result (c.loop-place.invariant.stands tells) (c.read.ensures.call tells) (λ q. g.met.D.Dir.now_allowed c.loop-place.dir q tells)

pub returns-then-not-branch-clause-added : goal.returns-then-not-branch-clause-added
returns-then-not-branch-clause-added g c =
    λ tells before so_far.
    let bytes = bytes_at (files (g.D.Dir.told c.args.dir.now)) c.args.path.now in
    let piece = c.in_ok-piece.piece.items in
    let place = c.loop-place.place in
    let read : piece ≡ take 65536 (drop place bytes) = read_still c.args.path.now (g.D.Dir.told c.args.dir.now) (g.D.Dir.told c.loop-place.dir) piece place 65536 (c.loop-place.invariant.stands tells) (c.in_ok-piece.ensures.bytes tells) in
    let fed : c.feed.new.self ≡ c.loop-place.held ++ piece = c.in_ok-feed.ensures.ok ∙ ap (λ (l : List ℕ). c.loop-place.held ++ l) c.deref.ensures.value in
    let long : c.len.result ≡ length piece = c.len.ensures ∙ c.in_ok-piece.piece.ok.0 in
    let has : HasTallied g.T.Tally.is_good (g.T.Tally.tallies c.loop-place.tally) before c.args.part (records_of bytes) (c.feed.new.self ++ drop (place + c.len.result) bytes) c.loop-place.line = tallied_left _ _ before c.args.part (records_of bytes) _ _ c.loop-place.line (sym (read_on bytes c.loop-place.held piece c.feed.new.self place 65536 c.len.result read fed long)) (c.loop-place.invariant.added tells before so_far) in
    rw c.if-not-branch.true at (c.in_ok-add_records.ensures.added before (records_of bytes) (drop (place + c.len.result) bytes) has)

pub returns-then-not-branch-clause-stands : goal.returns-then-not-branch-clause-stands
returns-then-not-branch-clause-stands g c =
    λ tells. looks_more c.args.path.now (g.D.Dir.told c.args.dir.now) (g.D.Dir.told c.loop-place.dir) (g.D.Dir.told c.read.new.self) c.read.result (c.loop-place.invariant.stands tells) (c.read.ensures.call tells) (λ q. g.met.D.Dir.now_allowed c.loop-place.dir q tells)

pub returns-then-not-branch-clause-fresh : goal.returns-then-not-branch-clause-fresh
returns-then-not-branch-clause-fresh g c =
    λ tells before. fresh_call (g.D.Dir.told c.loop-place.dir) (g.D.Dir.told c.read.new.self) (c.in_ok-piece.ensures.call tells).ok.0 (λ early late order below. g.met.D.Dir.clock c.loop-place.dir early late tells order below)

pub loop-place-preserved : goal.loop-place-preserved
loop-place-preserved g c =
    let piece = c.in_ok-piece.piece.items in
    let place = c.loop-place.place in
    let fed : c.feed.new.self ≡ c.loop-place.held ++ piece = c.in_ok-feed.ensures.ok ∙ ap (λ (l : List ℕ). c.loop-place.held ++ l) c.deref.ensures.value in
    let long : c.len.result ≡ length piece = c.len.ensures ∙ c.in_ok-piece.piece.ok.0 in
    record {
      unbroken = if_found c.in_ok-add_records.field-0 (HasNoLf c.add_records.new.held) c.if-not-branch.false c.in_ok-add_records.ensures.unbroken;
      few = omega (arith, c.loop-place.invariant.few, c.in_ok-add_records.ensures.few, ap length fed, length-append c.loop-place.held piece, long);
      small = omega (arith, c.loop-place-test.true, long, c.in_ok-piece.ensures.few);
      added =
          λ tells before so_far.
          let bytes = bytes_at (files (g.D.Dir.told c.args.dir.now)) c.args.path.now in
          let read : piece ≡ take 65536 (drop place bytes) = read_still c.args.path.now (g.D.Dir.told c.args.dir.now) (g.D.Dir.told c.loop-place.dir) piece place 65536 (c.loop-place.invariant.stands tells) (c.in_ok-piece.ensures.bytes tells) in
          let has : HasTallied g.T.Tally.is_good (g.T.Tally.tallies c.loop-place.tally) before c.args.part (records_of bytes) (c.feed.new.self ++ drop (place + c.len.result) bytes) c.loop-place.line = tallied_left _ _ before c.args.part (records_of bytes) _ _ c.loop-place.line (sym (read_on bytes c.loop-place.held piece c.feed.new.self place 65536 c.len.result read fed long)) (c.loop-place.invariant.added tells before so_far) in
          rw c.if-not-branch.false at (c.in_ok-add_records.ensures.added before (records_of bytes) (drop (place + c.len.result) bytes) has);
      stands = λ tells. looks_more c.args.path.now (g.D.Dir.told c.args.dir.now) (g.D.Dir.told c.loop-place.dir) (g.D.Dir.told c.read.new.self) c.read.result (c.loop-place.invariant.stands tells) (c.read.ensures.call tells) (λ q. g.met.D.Dir.now_allowed c.loop-place.dir q tells);
      fresh = λ tells before. fresh_call (g.D.Dir.told c.loop-place.dir) (g.D.Dir.told c.read.new.self) (c.in_ok-piece.ensures.call tells).ok.0 (λ early late order below. g.met.D.Dir.clock c.loop-place.dir early late tells order below);
      lent = search rules;
      beside = search rules;
      later = search rules;
    }
