use Rattle.std.proofs.Common.{rules, refl, ◌≡◌, ◌++◌, ◌∙◌, ℕ, List, [], length, sym, ap, subst, arith}
use Rattle.std.proofs.lemmas.Grind.{common_steps}
use Rattle.std.proofs.lemmas.Bool.Decides.{nat_tests}
use Rattle.dir_disk.specs.Streams.{AddsPart, added, onto}
use Rattle.dir_disk.proofs.StreamLemmas.{onto-nil}
use Rattle.child.specs.Feeding.{Feeds, Finishes, fed_of}
use Rattle.child.proofs.FeedingLemmas.{HasFed-none}
use Rattle.child.proofs.RunLemmas.{HasRun-none, HasRun-same, HasRun-more, part_of, stream_of, stream_in_piece, part_in_write, stream_in_write, part_at_end, stream_at_end, done_at_end, all_given, refused_bad, refused_large, shown_bad, shown_last, never_ok, never_usage, never_fault, last_bad, last_never_ok, last_never_usage, last_never_fault, last_never_large}
use Rattle.child.proofs.run.run_pieces.Goals as goal

pub pieces-init : goal.pieces-init
pieces-init g c = record {
  run = HasRun-none (g.R.Role.standing c.args.role).rule _ _ _ (HasFed-none (g.R.Role.standing c.args.role).rule _ c.requires (search rules) refl refl);
  fronts = search rules;
  counted = record { lines = omega arith; few = omega arith };
  reads = refl;
  writes = refl;
}

pub returns-in-Err-clause-part : goal.returns-in-Err-clause-part
returns-in-Err-clause-part g c = part_of _ _ _ _ _ _ c.pieces.invariant.run

pub returns-in-Err-clause-stream : goal.returns-in-Err-clause-stream
returns-in-Err-clause-stream g c = stream_of _ _ _ _ _ _ (HasRun-same _ _ _ _ _ _ _ c.pieces.invariant.run c.in-Err.ensures.err)

pub returns-in-Err-take-clause-done : goal.returns-in-Err-take-clause-done
returns-in-Err-take-clause-done g c = λ e.
    let run = c.pieces.invariant.run in absurd (never_ok (g.R.Role.standing c.args.role).rule (run.bytes ++ c.deref.result.now) c.in-Err-take.status (c.in-Err-take.ensures.err _ run.bytes run.outs run.state) e)

pub returns-in-Err-take-clause-bad : goal.returns-in-Err-take-clause-bad
returns-in-Err-take-clause-bad g c = λ line e.
    let run = c.pieces.invariant.run in
    let given = subst (λ (p : List ℕ). g.I.Source.left c.pieces.source ≡ onto p (g.I.Source.left c.read.new.self)) (sym c.deref.ensures.value) c.in-Ok.ensures.next in
    refused_bad (g.R.Role.standing c.args.role).rule _ _ (run.bytes ++ c.deref.result.now) c.in-Err-take.status (all_given _ _ _ _ _ _ _ _ run given) (c.in-Err-take.ensures.err _ run.bytes run.outs run.state) line e

pub returns-in-Err-take-clause-shown : goal.returns-in-Err-take-clause-shown
returns-in-Err-take-clause-shown g c =
    let run = c.pieces.invariant.run in
    let given = subst (λ (p : List ℕ). g.I.Source.left c.pieces.source ≡ onto p (g.I.Source.left c.read.new.self)) (sym c.deref.ensures.value) c.in-Ok.ensures.next in
    shown_bad _ _ _ _ _ run.bytes run.outs _ _ c.in-Err-take.status run.state c.pieces.invariant.fronts (all_given _ _ _ _ _ _ _ _ run given) c.in-Err-take.ensures.shown

pub returns-in-Err-take-clause-too_large : goal.returns-in-Err-take-clause-too_large
returns-in-Err-take-clause-too_large g c = λ e.
    let run = c.pieces.invariant.run in
    let given = subst (λ (p : List ℕ). g.I.Source.left c.pieces.source ≡ onto p (g.I.Source.left c.read.new.self)) (sym c.deref.ensures.value) c.in-Ok.ensures.next in
    refused_large (g.R.Role.standing c.args.role).rule _ _ (run.bytes ++ c.deref.result.now) c.in-Err-take.status (all_given _ _ _ _ _ _ _ _ run given) (c.in-Err-take.ensures.err _ run.bytes run.outs run.state) e

pub returns-in-Err-take-clause-fault : goal.returns-in-Err-take-clause-fault
returns-in-Err-take-clause-fault g c = λ e.
    let run = c.pieces.invariant.run in absurd (never_fault (g.R.Role.standing c.args.role).rule (run.bytes ++ c.deref.result.now) c.in-Err-take.status (c.in-Err-take.ensures.err _ run.bytes run.outs run.state) e)

pub returns-in-Err-take-clause-known : goal.returns-in-Err-take-clause-known
returns-in-Err-take-clause-known g c = λ e.
    let run = c.pieces.invariant.run in never_usage (g.R.Role.standing c.args.role).rule (run.bytes ++ c.deref.result.now) c.in-Err-take.status (c.in-Err-take.ensures.err _ run.bytes run.outs run.state) e

pub returns-in-Err-take-clause-part : goal.returns-in-Err-take-clause-part
returns-in-Err-take-clause-part g c = part_of _ _ _ _ _ _ c.pieces.invariant.run

pub returns-in-Err-take-clause-stream : goal.returns-in-Err-take-clause-stream
returns-in-Err-take-clause-stream g c = stream_in_piece _ _ _ _ _ _ _ _ c.pieces.invariant.run c.in-Ok.ensures.next c.in-Ok.ensures.few

pub returns-in-Err-write-clause-part : goal.returns-in-Err-write-clause-part
returns-in-Err-write-clause-part g c =
    let given = subst (λ (p : List ℕ). g.I.Source.left c.pieces.source ≡ onto p (g.I.Source.left c.read.new.self)) (sym c.deref.ensures.value) c.in-Ok.ensures.next in
    let feeds = subst (λ (old : List ℕ). Feeds (fed_of g.R.Role.standing c.pieces.watched.feeding) (fed_of g.R.Role.standing c.take.new.self.feeding) c.deref.result.now old c.take.new.out.items) c.clear.ensures.items c.in_default.ensures.ok in
    let part = subst (λ (out : List ℕ). AddsPart (g.O.Sink.written c.pieces.sink) (g.O.Sink.written c.write.new.self) out) c.deref-in-pieces.ensures.value c.write.ensures.part in
    part_in_write _ _ _ _ _ _ _ _ c.pieces.invariant.run given _ _ _ feeds part

pub returns-in-Err-write-clause-stream : goal.returns-in-Err-write-clause-stream
returns-in-Err-write-clause-stream g c =
    let given = subst (λ (p : List ℕ). g.I.Source.left c.pieces.source ≡ onto p (g.I.Source.left c.read.new.self)) (sym c.deref.ensures.value) c.in-Ok.ensures.next in
    let feeds = subst (λ (old : List ℕ). Feeds (fed_of g.R.Role.standing c.pieces.watched.feeding) (fed_of g.R.Role.standing c.take.new.self.feeding) c.deref.result.now old c.take.new.out.items) c.clear.ensures.items c.in_default.ensures.ok in
    let part = subst (λ (out : List ℕ). AddsPart (g.O.Sink.written c.pieces.sink) (g.O.Sink.written c.write.new.self) out) c.deref-in-pieces.ensures.value c.write.ensures.part in
    stream_in_write _ _ _ _ _ _ _ _ c.pieces.invariant.run given _ _ _ feeds part (omega (arith, c.in-Ok.ensures.few, ap length c.deref.ensures.value))

pub pieces-preserved : goal.pieces-preserved
pieces-preserved g c =
    let given = subst (λ (p : List ℕ). g.I.Source.left c.pieces.source ≡ onto p (g.I.Source.left c.read.new.self)) (sym c.deref.ensures.value) c.in-Ok.ensures.next in
    let feeds = subst (λ (old : List ℕ). Feeds (fed_of g.R.Role.standing c.pieces.watched.feeding) (fed_of g.R.Role.standing c.take.new.self.feeding) c.deref.result.now old c.take.new.out.items) c.clear.ensures.items c.in_default.ensures.ok in
    let said = subst (λ (out : List ℕ). g.O.Sink.written c.write.new.self ≡ added (g.O.Sink.written c.pieces.sink) out) c.deref-in-pieces.ensures.value c.in_default-write.ensures.ok in
    record {
      run = HasRun-more _ _ _ _ _ _ _ _ _ _ _ c.pieces.invariant.run given feeds said;
      fronts = c.in_default.ensures.fronts c.pieces.invariant.run.bytes c.pieces.invariant.fronts;
      counted = c.in_default.ensures.counted;
      reads = c.in-Ok.ensures.steady ∙ c.pieces.invariant.reads;
      writes = c.in_default-write.ensures.steady ∙ c.pieces.invariant.writes;
    }

pub returns-in-Err-finish-clause-done : goal.returns-in-Err-finish-clause-done
returns-in-Err-finish-clause-done g c = λ e.
    let run = c.pieces.invariant.run in absurd (last_never_ok (g.R.Role.standing c.args.role).rule run.bytes c.in-Err-finish.status (c.in-Err-finish.ensures.err _ run.bytes run.outs run.state) e)

pub returns-in-Err-finish-clause-bad : goal.returns-in-Err-finish-clause-bad
returns-in-Err-finish-clause-bad g c = λ line e.
    let run = c.pieces.invariant.run in
    let none : c.in-Ok.piece.items ≡ [] = grind (arith, common_steps, nat_tests, c.is_empty.ensures, c.if-is_empty.true) in
    let given = c.in-Ok.ensures.next ∙ ap (λ (p : List ℕ). onto p (g.I.Source.left c.read.new.self)) none ∙ onto-nil (g.I.Source.left c.read.new.self) in
    let same = HasRun-same _ _ _ _ _ _ _ run (sym given) in
    last_bad (g.R.Role.standing c.args.role).rule _ _ same.bytes c.in-Err-finish.status same.given (c.in-Ok.ensures.end none) (omega (arith, same.state.taken, c.pieces.invariant.counted.few)) (c.in-Err-finish.ensures.err _ same.bytes same.outs same.state) line e

pub returns-in-Err-finish-clause-shown : goal.returns-in-Err-finish-clause-shown
returns-in-Err-finish-clause-shown g c =
    let run = c.pieces.invariant.run in
    let none : c.in-Ok.piece.items ≡ [] = grind (arith, common_steps, nat_tests, c.is_empty.ensures, c.if-is_empty.true) in
    let given = c.in-Ok.ensures.next ∙ ap (λ (p : List ℕ). onto p (g.I.Source.left c.read.new.self)) none ∙ onto-nil (g.I.Source.left c.read.new.self) in
    shown_last _ _ _ _ _ run.bytes run.outs _ c.in-Err-finish.status run.state c.pieces.invariant.fronts (run.given ∙ ap (onto run.bytes) given) (c.in-Ok.ensures.end none) c.in-Err-finish.ensures.shown

pub returns-in-Err-finish-clause-too_large : goal.returns-in-Err-finish-clause-too_large
returns-in-Err-finish-clause-too_large g c = λ e.
    let run = c.pieces.invariant.run in absurd (last_never_large (g.R.Role.standing c.args.role).rule run.bytes c.in-Err-finish.status (c.in-Err-finish.ensures.err _ run.bytes run.outs run.state) e)

pub returns-in-Err-finish-clause-fault : goal.returns-in-Err-finish-clause-fault
returns-in-Err-finish-clause-fault g c = λ e.
    let run = c.pieces.invariant.run in absurd (last_never_fault (g.R.Role.standing c.args.role).rule run.bytes c.in-Err-finish.status (c.in-Err-finish.ensures.err _ run.bytes run.outs run.state) e)

pub returns-in-Err-finish-clause-known : goal.returns-in-Err-finish-clause-known
returns-in-Err-finish-clause-known g c = λ e.
    let run = c.pieces.invariant.run in last_never_usage (g.R.Role.standing c.args.role).rule run.bytes c.in-Err-finish.status (c.in-Err-finish.ensures.err _ run.bytes run.outs run.state) e

pub returns-in-Err-finish-clause-part : goal.returns-in-Err-finish-clause-part
returns-in-Err-finish-clause-part g c = part_of _ _ _ _ _ _ c.pieces.invariant.run

pub returns-in-Err-finish-clause-stream : goal.returns-in-Err-finish-clause-stream
returns-in-Err-finish-clause-stream g c = stream_in_piece _ _ _ _ _ _ _ _ c.pieces.invariant.run c.in-Ok.ensures.next c.in-Ok.ensures.few

pub returns-in-Ok-write-clause-done : goal.returns-in-Ok-write-clause-done
returns-in-Ok-write-clause-done g c = λ e.
    let none : c.in-Ok.piece.items ≡ [] = grind (arith, common_steps, nat_tests, c.is_empty.ensures, c.if-is_empty.true) in
    let given = c.in-Ok.ensures.next ∙ ap (λ (p : List ℕ). onto p (g.I.Source.left c.read.new.self)) none ∙ onto-nil (g.I.Source.left c.read.new.self) in
    let run = HasRun-same _ _ _ _ _ _ _ c.pieces.invariant.run (sym given) in
    let last = subst (λ (old : List ℕ). Finishes (fed_of g.R.Role.standing c.pieces.watched.feeding) old c.finish.new.out.items) c.clear-2.ensures.items c.in_default-finish.ensures.ok in
    let said = subst (λ (out : List ℕ). g.O.Sink.written c.write-2.new.self ≡ added (g.O.Sink.written c.pieces.sink) out) c.deref-2.ensures.value c.in-Ok-write.ensures.ok in
    done_at_end _ _ _ _ _ _ run (c.in-Ok.ensures.end none) _ last _ c.pieces.invariant.counted.few said

pub returns-in-Ok-write-clause-part : goal.returns-in-Ok-write-clause-part
returns-in-Ok-write-clause-part g c =
    let none : c.in-Ok.piece.items ≡ [] = grind (arith, common_steps, nat_tests, c.is_empty.ensures, c.if-is_empty.true) in
    let given = c.in-Ok.ensures.next ∙ ap (λ (p : List ℕ). onto p (g.I.Source.left c.read.new.self)) none ∙ onto-nil (g.I.Source.left c.read.new.self) in
    let run = HasRun-same _ _ _ _ _ _ _ c.pieces.invariant.run (sym given) in
    let last = subst (λ (old : List ℕ). Finishes (fed_of g.R.Role.standing c.pieces.watched.feeding) old c.finish.new.out.items) c.clear-2.ensures.items c.in_default-finish.ensures.ok in
    let part = subst (λ (out : List ℕ). AddsPart (g.O.Sink.written c.pieces.sink) (g.O.Sink.written c.write-2.new.self) out) c.deref-2.ensures.value c.write-2.ensures.part in
    part_at_end _ _ _ _ _ _ run (c.in-Ok.ensures.end none) _ last _ part

pub returns-in-Ok-write-clause-stream : goal.returns-in-Ok-write-clause-stream
returns-in-Ok-write-clause-stream g c =
    let none : c.in-Ok.piece.items ≡ [] = grind (arith, common_steps, nat_tests, c.is_empty.ensures, c.if-is_empty.true) in
    let given = c.in-Ok.ensures.next ∙ ap (λ (p : List ℕ). onto p (g.I.Source.left c.read.new.self)) none ∙ onto-nil (g.I.Source.left c.read.new.self) in
    let run = HasRun-same _ _ _ _ _ _ _ c.pieces.invariant.run (sym given) in
    let last = subst (λ (old : List ℕ). Finishes (fed_of g.R.Role.standing c.pieces.watched.feeding) old c.finish.new.out.items) c.clear-2.ensures.items c.in_default-finish.ensures.ok in
    let part = subst (λ (out : List ℕ). AddsPart (g.O.Sink.written c.pieces.sink) (g.O.Sink.written c.write-2.new.self) out) c.deref-2.ensures.value c.write-2.ensures.part in
    stream_at_end _ _ _ _ _ _ run (c.in-Ok.ensures.end none) _ last _ part

pub returns-clause-part : goal.returns-clause-part
returns-clause-part g c =
    let none : c.in-Ok.piece.items ≡ [] = grind (arith, common_steps, nat_tests, c.is_empty.ensures, c.if-is_empty.true) in
    let given = c.in-Ok.ensures.next ∙ ap (λ (p : List ℕ). onto p (g.I.Source.left c.read.new.self)) none ∙ onto-nil (g.I.Source.left c.read.new.self) in
    let run = HasRun-same _ _ _ _ _ _ _ c.pieces.invariant.run (sym given) in
    let last = subst (λ (old : List ℕ). Finishes (fed_of g.R.Role.standing c.pieces.watched.feeding) old c.finish.new.out.items) c.clear-2.ensures.items c.in_default-finish.ensures.ok in
    let part = subst (λ (out : List ℕ). AddsPart (g.O.Sink.written c.pieces.sink) (g.O.Sink.written c.write-2.new.self) out) c.deref-2.ensures.value c.write-2.ensures.part in
    part_at_end _ _ _ _ _ _ run (c.in-Ok.ensures.end none) _ last _ part

pub returns-clause-stream : goal.returns-clause-stream
returns-clause-stream g c =
    let none : c.in-Ok.piece.items ≡ [] = grind (arith, common_steps, nat_tests, c.is_empty.ensures, c.if-is_empty.true) in
    let given = c.in-Ok.ensures.next ∙ ap (λ (p : List ℕ). onto p (g.I.Source.left c.read.new.self)) none ∙ onto-nil (g.I.Source.left c.read.new.self) in
    let run = HasRun-same _ _ _ _ _ _ _ c.pieces.invariant.run (sym given) in
    let last = subst (λ (old : List ℕ). Finishes (fed_of g.R.Role.standing c.pieces.watched.feeding) old c.finish.new.out.items) c.clear-2.ensures.items c.in_default-finish.ensures.ok in
    let part = subst (λ (out : List ℕ). AddsPart (g.O.Sink.written c.pieces.sink) (g.O.Sink.written c.write-2.new.self) out) c.deref-2.ensures.value c.write-2.ensures.part in
    stream_at_end _ _ _ _ _ _ run (c.in-Ok.ensures.end none) _ last _ part
