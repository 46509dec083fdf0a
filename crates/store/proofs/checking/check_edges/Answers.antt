use Rattle.std.proofs.Common.{◌∙◌, ◌++◌, ℕ, List, [], None, Some, IfSome, refl, sym, subst, rules}
use Rattle.dir_disk.specs.Moments.{files}
use Rattle.dir_disk.specs.State.{State, bytes_at}
use Rattle.dir_disk.specs.Calls.{HasFile}
use Rattle.edge_text.specs.Edges.{edges_of}
use Rattle.store.specs.Comparing.{IsParted, IsSame}
use Rattle.store.specs.Ingesting.{HasFed, HasRead, IsJudged, IsNext}
use Rattle.store.specs.declared.edges.Next.TheVariants as Next
use Rattle.store.proofs.LookLemmas.{looked, looks_then}
use Rattle.store.proofs.ComparingLemmas.{begun_same}
use Rattle.store.proofs.IngestLemmas.{fed_none}
use Rattle.store.proofs.JudgeLemmas.{next_extends, judged_outside, judged_parted, judged_refused}
use Rattle.store.proofs.checking.check_edges.Goals as goal

pub pieces-init : goal.pieces-init
pieces-init g c =
    record {
      text = [];
      fed = fed_none c.args.nodes (g.E.Source.left c.args.source.now) c.new-reader.result c.new-reader.ensures;
      same = λ tells. begun_same (bytes_at (files (g.D.Dir.told c.args.dir.now)) c.args.path.now) c.new-compared.result c.new-compared.ensures.place c.new-compared.ensures.line;
      counted = search rules;
      stands = search rules;
      lent = refl;
      beside = refl;
      later = search rules;
      steady = refl;
    }

pub returns-in-Err-clause-judged : goal.returns-in-Err-clause-judged
returns-in-Err-clause-judged g c =
    λ tells. judged_outside c.args.nodes (g.E.Source.left c.args.source.now) (bytes_at (files (g.D.Dir.told c.args.dir.now)) c.args.path.now) c.in-Err.fault c.in-Err.ensures.err

pub go_on-requires-clause-there : goal.go_on-requires-clause-there
go_on-requires-clause-there g c =
    λ tells. subst (λ (s : State). HasFile s c.args.path.now) (sym (looked (g.D.Dir.told c.args.dir.now) (g.D.Dir.told c.pieces.dir) (c.pieces.invariant.stands tells))) (c.requires.there tells)

pub returns-in_err-go_on-clause-stands : goal.returns-in_err-go_on-clause-stands
returns-in_err-go_on-clause-stands g c =
    λ tells. looks_then (g.D.Dir.told c.args.dir.now) (g.D.Dir.told c.pieces.dir) (g.D.Dir.told c.go_on.new.dir) (c.pieces.invariant.stands tells) (c.go_on.ensures.stands tells)

pub returns-then-not-branch-clause-judged : goal.returns-then-not-branch-clause-judged
returns-then-not-branch-clause-judged g c =
    λ tells.
    let path = c.args.path.now in
    let file = bytes_at (files (g.D.Dir.told c.args.dir.now)) path in
    let text : List ℕ = c.pieces.invariant.text in
    let all : List ℕ = text ++ c.deref.result.now in
    let here = looked (g.D.Dir.told c.args.dir.now) (g.D.Dir.told c.pieces.dir) (c.pieces.invariant.stands tells) in
    let next = c.in-Ok.ensures.next c.args.nodes (g.E.Source.left c.args.source.now) text c.pieces.invariant.fed in
    let extends = next_extends c.args.nodes (g.E.Source.left c.args.source.now) (g.E.Source.left c.next_text.new.source) c.next_text.new.reader all c.in-Ok.next (subst (λ (l : List ℕ). IsNext c.args.nodes (g.E.Source.left c.args.source.now) (g.E.Source.left c.next_text.new.source) c.next_text.new.reader (text ++ l) c.in-Ok.next) (sym c.deref.ensures.value) next) in
    let same : IsSame (bytes_at (files (g.D.Dir.told c.pieces.dir)) path) text c.pieces.compared = subst (λ (s : State). IsSame (bytes_at s path) text c.pieces.compared) (sym here) (c.pieces.invariant.same tells) in
    let parted : IsParted (bytes_at (files (g.D.Dir.told c.pieces.dir)) path) all c.go_on.new.self = rw c.if-not-branch.true at (c.in_ok-go_on.ensures.found tells text same) in
    judged_parted c.args.nodes (g.E.Source.left c.args.source.now) file all c.go_on.new.self extends (subst (λ (s : State). IsParted (bytes_at s path) all c.go_on.new.self) here parted)

pub returns-then-not-branch-clause-stands : goal.returns-then-not-branch-clause-stands
returns-then-not-branch-clause-stands g c =
    λ tells. looks_then (g.D.Dir.told c.args.dir.now) (g.D.Dir.told c.pieces.dir) (g.D.Dir.told c.go_on.new.dir) (c.pieces.invariant.stands tells) (c.in_ok-go_on.ensures.stands tells)

pub pieces-preserved : goal.pieces-preserved
pieces-preserved g c =
    let path = c.args.path.now in
    let text : List ℕ = c.pieces.invariant.text in
    let all : List ℕ = text ++ c.deref.result.now in
    record {
      text = all;
      fed =
          let next : IsNext c.args.nodes (g.E.Source.left c.args.source.now) (g.E.Source.left c.next_text.new.source) c.next_text.new.reader (text ++ c.next_text.new.text.items) Next.More = rw c.in-More.is at (c.in-Ok.ensures.next c.args.nodes (g.E.Source.left c.args.source.now) text c.pieces.invariant.fed) in
          subst (λ (l : List ℕ). HasFed c.args.nodes (g.E.Source.left c.args.source.now) (g.E.Source.left c.next_text.new.source) c.next_text.new.reader (text ++ l)) (sym c.deref.ensures.value) next;
      same =
          λ tells.
          let here = looked (g.D.Dir.told c.args.dir.now) (g.D.Dir.told c.pieces.dir) (c.pieces.invariant.stands tells) in
          let same : IsSame (bytes_at (files (g.D.Dir.told c.pieces.dir)) path) text c.pieces.compared = subst (λ (s : State). IsSame (bytes_at s path) text c.pieces.compared) (sym here) (c.pieces.invariant.same tells) in
          let now : IsSame (bytes_at (files (g.D.Dir.told c.pieces.dir)) path) all c.go_on.new.self = rw c.if-not-branch.false at (c.in_ok-go_on.ensures.found tells text same) in
          subst (λ (s : State). IsSame (bytes_at s path) all c.go_on.new.self) here now;
      counted = c.in_ok-go_on.ensures.counted;
      stands = λ tells. looks_then (g.D.Dir.told c.args.dir.now) (g.D.Dir.told c.pieces.dir) (g.D.Dir.told c.go_on.new.dir) (c.pieces.invariant.stands tells) (c.in_ok-go_on.ensures.stands tells);
      lent = search rules;
      beside = search rules;
      later = search rules;
      steady = search rules;
    }

pub check_end-requires-clause-there : goal.check_end-requires-clause-there
check_end-requires-clause-there g c =
    λ tells. subst (λ (s : State). HasFile s c.args.path.now) (sym (looked (g.D.Dir.told c.args.dir.now) (g.D.Dir.told c.go_on.new.dir) (looks_then (g.D.Dir.told c.args.dir.now) (g.D.Dir.told c.pieces.dir) (g.D.Dir.told c.go_on.new.dir) (c.pieces.invariant.stands tells) (c.in_ok-go_on.ensures.stands tells)))) (c.requires.there tells)

pub returns-in-End-clause-judged : goal.returns-in-End-clause-judged
returns-in-End-clause-judged g c =
    λ tells.
    let path = c.args.path.now in
    let text : List ℕ = c.pieces.invariant.text in
    let all : List ℕ = text ++ c.deref.result.now in
    let here = looked (g.D.Dir.told c.args.dir.now) (g.D.Dir.told c.pieces.dir) (c.pieces.invariant.stands tells) in
    let later = looked (g.D.Dir.told c.pieces.dir) (g.D.Dir.told c.go_on.new.dir) (c.in_ok-go_on.ensures.stands tells) in
    let same : IsSame (bytes_at (files (g.D.Dir.told c.pieces.dir)) path) text c.pieces.compared = subst (λ (s : State). IsSame (bytes_at s path) text c.pieces.compared) (sym here) (c.pieces.invariant.same tells) in
    let now : IsSame (bytes_at (files (g.D.Dir.told c.pieces.dir)) path) all c.go_on.new.self = rw c.if-not-branch.false at (c.in_ok-go_on.ensures.found tells text same) in
    let next : IsNext c.args.nodes (g.E.Source.left c.args.source.now) (g.E.Source.left c.next_text.new.source) c.next_text.new.reader (text ++ c.next_text.new.text.items) Next.End = rw c.in-End.is at (c.in-Ok.ensures.next c.args.nodes (g.E.Source.left c.args.source.now) text c.pieces.invariant.fed) in
    let read : HasRead c.args.nodes (g.E.Source.left c.args.source.now) all None = subst (λ (l : List ℕ). HasRead c.args.nodes (g.E.Source.left c.args.source.now) (text ++ l) None) (sym c.deref.ensures.value) next in
    subst (λ (s : State). IfSome (g.E.Source.left c.args.source.now) (λ bytes. IsJudged (bytes_at s path) (edges_of c.args.nodes bytes) c.check_end.result)) (later ∙ here) (c.check_end.ensures.judged tells c.args.nodes (g.E.Source.left c.args.source.now) all read (subst (λ (s : State). IsSame (bytes_at s path) all c.go_on.new.self) (sym later) now))

pub returns-in-End-clause-stands : goal.returns-in-End-clause-stands
returns-in-End-clause-stands g c =
    λ tells. looks_then (g.D.Dir.told c.args.dir.now) (g.D.Dir.told c.go_on.new.dir) (g.D.Dir.told c.check_end.new.dir) (looks_then (g.D.Dir.told c.args.dir.now) (g.D.Dir.told c.pieces.dir) (g.D.Dir.told c.go_on.new.dir) (c.pieces.invariant.stands tells) (c.in_ok-go_on.ensures.stands tells)) (c.check_end.ensures.stands tells)

pub returns-in-Refused-clause-judged : goal.returns-in-Refused-clause-judged
returns-in-Refused-clause-judged g c =
    λ tells.
    let path = c.args.path.now in
    let file = bytes_at (files (g.D.Dir.told c.args.dir.now)) path in
    let text : List ℕ = c.pieces.invariant.text in
    let all : List ℕ = text ++ c.deref.result.now in
    let fault = c.in-Refused.fault in
    let here = looked (g.D.Dir.told c.args.dir.now) (g.D.Dir.told c.pieces.dir) (c.pieces.invariant.stands tells) in
    let same : IsSame (bytes_at (files (g.D.Dir.told c.pieces.dir)) path) text c.pieces.compared = subst (λ (s : State). IsSame (bytes_at s path) text c.pieces.compared) (sym here) (c.pieces.invariant.same tells) in
    let now : IsSame (bytes_at (files (g.D.Dir.told c.pieces.dir)) path) all c.go_on.new.self = rw c.if-not-branch.false at (c.in_ok-go_on.ensures.found tells text same) in
    let next : IsNext c.args.nodes (g.E.Source.left c.args.source.now) (g.E.Source.left c.next_text.new.source) c.next_text.new.reader (text ++ c.next_text.new.text.items) (Next.Refused fault) = rw c.in-Refused.is at (c.in-Ok.ensures.next c.args.nodes (g.E.Source.left c.args.source.now) text c.pieces.invariant.fed) in
    let read : HasRead c.args.nodes (g.E.Source.left c.args.source.now) all (Some fault) = subst (λ (l : List ℕ). HasRead c.args.nodes (g.E.Source.left c.args.source.now) (text ++ l) (Some fault)) (sym c.deref.ensures.value) next in
    judged_refused c.args.nodes (g.E.Source.left c.args.source.now) file all c.go_on.new.self fault c.into.result read (subst (λ (s : State). IsSame (bytes_at s path) all c.go_on.new.self) here now) c.into.ensures

pub returns-in-Refused-clause-stands : goal.returns-in-Refused-clause-stands
returns-in-Refused-clause-stands g c =
    λ tells. looks_then (g.D.Dir.told c.args.dir.now) (g.D.Dir.told c.pieces.dir) (g.D.Dir.told c.go_on.new.dir) (c.pieces.invariant.stands tells) (c.in_ok-go_on.ensures.stands tells)
