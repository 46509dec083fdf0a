use Rattle.std.proofs.Common.{◌∙◌, ◌++◌, ℕ, List, [], None, refl, sym, subst, rules}
use Rattle.peg_base.specs.Names.{Names}
use Rattle.dir_disk.specs.Moments.{Through, files}
use Rattle.committer.specs.Folders.{IsBegun, Writes}
use Rattle.store.specs.Ingesting.{HasFed, HasRead, IsNext}
use Rattle.store.specs.Sealed.{IsWriting}
use Rattle.store.specs.declared.edges.Next.TheVariants as Next
use Rattle.store.proofs.IngestLemmas.{fed_none}
use Rattle.store.proofs.JudgeLemmas.{if_some_more, refused_reason}
use Rattle.store.proofs.writing.write_all.Goals as goal

pub pieces-init : goal.pieces-init
pieces-init g c =
    record {
      text = [];
      fed = fed_none c.args.nodes (g.E.Source.left c.args.source.now) c.new-reader.result c.new-reader.ensures;
      folder = refl;
      begun = c.requires.begun;
      writing = λ tells entry writing. writing;
      lent = refl;
      beside = refl;
      later = search rules;
      steady = refl;
    }

pub pieces-preserved : goal.pieces-preserved
pieces-preserved g c =
    let text : List ℕ = c.pieces.invariant.text in
    let all : List ℕ = text ++ c.deref.result.now in
    record {
      text = all;
      fed =
          let next : IsNext c.args.nodes (g.E.Source.left c.args.source.now) (g.E.Source.left c.next_text.new.source) c.next_text.new.reader (text ++ c.next_text.new.text.items) Next.More = rw c.in-More.is at (c.in-Ok.ensures.next c.args.nodes (g.E.Source.left c.args.source.now) text c.pieces.invariant.fed) in
          subst (λ (l : List ℕ). HasFed c.args.nodes (g.E.Source.left c.args.source.now) (g.E.Source.left c.next_text.new.source) c.next_text.new.reader (text ++ l)) (sym c.deref.ensures.value) next;
      folder = c.in_default.ensures.folder ∙ c.pieces.invariant.folder;
      begun = λ tells. subst (λ (f : Names). IsBegun f (files (g.D.Dir.told c.send.new.dir))) c.pieces.invariant.folder (c.in_default.ensures.begun tells);
      writing =
          λ tells entry writing.
          let before = c.pieces.invariant.writing tells entry writing in
          let same = c.pieces.invariant.folder in
          subst (λ (f : Names). IsWriting f all entry (g.D.Dir.told c.send.new.dir)) same (c.in_default.ensures.writing tells entry text (subst (λ (f : Names). IsWriting f text entry (g.D.Dir.told c.pieces.dir)) (sym same) before));
      lent = search rules;
      beside = search rules;
      later = search rules;
      steady = search rules;
    }

pub returns-in-Err-clause-steps : goal.returns-in-Err-clause-steps
returns-in-Err-clause-steps g c = λ tells entry writing. (c.pieces.invariant.writing tells entry writing).steps

pub returns-in-Err-send-clause-steps : goal.returns-in-Err-send-clause-steps
returns-in-Err-send-clause-steps g c =
    λ tells entry writing.
    let text : List ℕ = c.pieces.invariant.text in
    let same = c.pieces.invariant.folder in
    subst (λ (f : Names). Through (Writes f (files entry)) entry (g.D.Dir.told c.send.new.dir)) same (c.send.ensures.steps tells entry text (subst (λ (f : Names). IsWriting f text entry (g.D.Dir.told c.pieces.dir)) (sym same) (c.pieces.invariant.writing tells entry writing)))

pub returns-in-End-clause-written : goal.returns-in-End-clause-written
returns-in-End-clause-written g c =
    λ tells entry writing.
    let text : List ℕ = c.pieces.invariant.text in
    let all : List ℕ = text ++ c.deref.result.now in
    let same = c.pieces.invariant.folder in
    let left = g.E.Source.left c.args.source.now in
    let next : IsNext c.args.nodes left (g.E.Source.left c.next_text.new.source) c.next_text.new.reader (text ++ c.next_text.new.text.items) Next.End = rw c.in-End.is at (c.in-Ok.ensures.next c.args.nodes left text c.pieces.invariant.fed) in
    let read : HasRead c.args.nodes left all None = subst (λ (l : List ℕ). HasRead c.args.nodes left (text ++ l) None) (sym c.deref.ensures.value) next in
    let now : IsWriting c.args.sealing.now all entry (g.D.Dir.told c.send.new.dir) = subst (λ (f : Names). IsWriting f all entry (g.D.Dir.told c.send.new.dir)) same (c.in_default.ensures.writing tells entry text (subst (λ (f : Names). IsWriting f text entry (g.D.Dir.told c.pieces.dir)) (sym same) (c.pieces.invariant.writing tells entry writing))) in
    if_some_more left _ _ read (λ bytes is. subst (λ (l : List ℕ). IsWriting c.args.sealing.now l entry (g.D.Dir.told c.send.new.dir)) (sym is.0) now)

pub returns-in-End-clause-fine : goal.returns-in-End-clause-fine
returns-in-End-clause-fine g c =
    let left = g.E.Source.left c.args.source.now in
    let text : List ℕ = c.pieces.invariant.text in
    let next : IsNext c.args.nodes left (g.E.Source.left c.next_text.new.source) c.next_text.new.reader (text ++ c.next_text.new.text.items) Next.End = rw c.in-End.is at (c.in-Ok.ensures.next c.args.nodes left text c.pieces.invariant.fed) in
    if_some_more left _ _ next (λ bytes is. is.1)

pub returns-in-End-clause-steps : goal.returns-in-End-clause-steps
returns-in-End-clause-steps g c =
    λ tells entry writing.
    let text : List ℕ = c.pieces.invariant.text in
    let same = c.pieces.invariant.folder in
    subst (λ (f : Names). Through (Writes f (files entry)) entry (g.D.Dir.told c.send.new.dir)) same (c.in_default.ensures.steps tells entry text (subst (λ (f : Names). IsWriting f text entry (g.D.Dir.told c.pieces.dir)) (sym same) (c.pieces.invariant.writing tells entry writing)))

pub returns-in-Refused-clause-reason : goal.returns-in-Refused-clause-reason
returns-in-Refused-clause-reason g c =
    let left = g.E.Source.left c.args.source.now in
    let text : List ℕ = c.pieces.invariant.text in
    let fault = c.in-Refused.fault in
    let next : IsNext c.args.nodes left (g.E.Source.left c.next_text.new.source) c.next_text.new.reader (text ++ c.next_text.new.text.items) (Next.Refused fault) = rw c.in-Refused.is at (c.in-Ok.ensures.next c.args.nodes left text c.pieces.invariant.fed) in
    refused_reason c.args.nodes left (text ++ c.next_text.new.text.items) fault c.into-in-Refused.result next c.into-in-Refused.ensures

pub returns-in-Refused-clause-steps : goal.returns-in-Refused-clause-steps
returns-in-Refused-clause-steps g c =
    λ tells entry writing.
    let text : List ℕ = c.pieces.invariant.text in
    let same = c.pieces.invariant.folder in
    subst (λ (f : Names). Through (Writes f (files entry)) entry (g.D.Dir.told c.send.new.dir)) same (c.in_default.ensures.steps tells entry text (subst (λ (f : Names). IsWriting f text entry (g.D.Dir.told c.pieces.dir)) (sym same) (c.pieces.invariant.writing tells entry writing)))
