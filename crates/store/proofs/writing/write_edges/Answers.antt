use Rattle.std.proofs.Common.{◌≡◌, ◌∙◌, [], Some, OnOk, sym, subst}
use Rattle.peg_base.specs.Names.{Names}
use Rattle.dir_disk.specs.Moments.{Both, Through, files}
use Rattle.dir_disk.specs.State.{StandsOutside}
use Rattle.edge_text.specs.Edges.{edges_of, text_of}
use Rattle.committer.specs.Folders.{Writes, fixed}
use Rattle.committer.specs.Paths.{success_of}
use Rattle.store.specs.Sealed.{IsMade, IsWriting, Makes}
use Rattle.store.proofs.JudgeLemmas.{if_some_each, if_some_more, none_refused}
use Rattle.store.proofs.SealedLemmas.{made_success, makes_stand, steps_of_writing, writes_stand, writing_begun, writing_some}
use Rattle.store.proofs.writing.write_edges.Goals as goal

pub returns-in-Err-clause-steps : goal.returns-in-Err-clause-steps
returns-in-Err-clause-steps g c =
    λ tells. if_some_each (g.E.Source.left c.args.source.now) _ (λ bytes. steps_of_writing c.args.folder.now (text_of (edges_of c.args.nodes bytes).edges) (g.D.Dir.told c.args.dir.now) (g.D.Dir.told c.begin_sealed.new.dir) (c.in-Err.ensures.steps tells))

pub returns-in-Err-write_all-clause-steps : goal.returns-in-Err-write_all-clause-steps
returns-in-Err-write_all-clause-steps g c =
    λ tells.
    let a = g.D.Dir.told c.args.dir.now in
    let b = g.D.Dir.told c.begin_sealed.new.dir in
    let d = g.D.Dir.told c.write_all.new.dir in
    let same = c.in-Ok.ensures.folder in
    let begun = writing_begun c.args.folder.now a b (c.in-Ok.ensures.steps tells) (c.in-Ok.ensures.begun tells) (c.in-Ok.ensures.empty tells) in
    let steps = c.write_all.ensures.steps tells a (subst (λ (f : Names). IsWriting f [] a b) (sym same) begun) in
    if_some_each (g.E.Source.left c.args.source.now) _ (λ bytes. steps_of_writing c.args.folder.now (text_of (edges_of c.args.nodes bytes).edges) a d (subst (λ (f : Names). Through (Writes f (files a)) a d) same steps))

pub returns-clause-made : goal.returns-clause-made
returns-clause-made g c =
    λ tells.
    let a = g.D.Dir.told c.args.dir.now in
    let b = g.D.Dir.told c.begin_sealed.new.dir in
    let d = g.D.Dir.told c.write_all.new.dir in
    let e = g.D.Dir.told c.write_end.new.dir in
    let same = c.in-Ok.ensures.folder in
    let after = c.in_default.ensures.folder in
    let begun = writing_begun c.args.folder.now a b (c.in-Ok.ensures.steps tells) (c.in-Ok.ensures.begun tells) (c.in-Ok.ensures.empty tells) in
    let written = c.in_default.ensures.written tells a (subst (λ (f : Names). IsWriting f [] a b) (sym same) begun) in
    if_some_more (g.E.Source.left c.args.source.now) _ _ written (λ bytes is. subst (λ (f : Names). OnOk c.write_end.result (IsMade f (text_of (edges_of c.args.nodes bytes).edges) (files e))) (after ∙ same) (c.write_end.ensures.made tells a (text_of (edges_of c.args.nodes bytes).edges) (subst (λ (f : Names). IsWriting f (text_of (edges_of c.args.nodes bytes).edges) a d) (sym after) is)))

pub returns-clause-steps : goal.returns-clause-steps
returns-clause-steps g c =
    λ tells.
    let a = g.D.Dir.told c.args.dir.now in
    let b = g.D.Dir.told c.begin_sealed.new.dir in
    let d = g.D.Dir.told c.write_all.new.dir in
    let e = g.D.Dir.told c.write_end.new.dir in
    let same = c.in-Ok.ensures.folder in
    let after = c.in_default.ensures.folder in
    let begun = writing_begun c.args.folder.now a b (c.in-Ok.ensures.steps tells) (c.in-Ok.ensures.begun tells) (c.in-Ok.ensures.empty tells) in
    let written = c.in_default.ensures.written tells a (subst (λ (f : Names). IsWriting f [] a b) (sym same) begun) in
    if_some_more (g.E.Source.left c.args.source.now) _ _ written (λ bytes is. subst (λ (f : Names). Through (Makes f (text_of (edges_of c.args.nodes bytes).edges) (files a)) a e) (after ∙ same) (c.write_end.ensures.steps tells a (text_of (edges_of c.args.nodes bytes).edges) (subst (λ (f : Names). IsWriting f (text_of (edges_of c.args.nodes bytes).edges) a d) (sym after) is)))

pub returns-in-Err-clause-outside : goal.returns-in-Err-clause-outside
returns-in-Err-clause-outside g c =
    λ tells. writes_stand c.args.folder.now (g.D.Dir.told c.args.dir.now) (g.D.Dir.told c.begin_sealed.new.dir) (c.in-Err.ensures.steps tells)

pub returns-in-Err-write_all-clause-outside : goal.returns-in-Err-write_all-clause-outside
returns-in-Err-write_all-clause-outside g c =
    λ tells.
    let a = g.D.Dir.told c.args.dir.now in
    let b = g.D.Dir.told c.begin_sealed.new.dir in
    let d = g.D.Dir.told c.write_all.new.dir in
    let same = c.in-Ok.ensures.folder in
    let begun = writing_begun c.args.folder.now a b (c.in-Ok.ensures.steps tells) (c.in-Ok.ensures.begun tells) (c.in-Ok.ensures.empty tells) in
    let steps = c.write_all.ensures.steps tells a (subst (λ (f : Names). IsWriting f [] a b) (sym same) begun) in
    subst (λ (f : Names). Through (Both (StandsOutside f (files a))) a d) same (writes_stand _ a d steps)

pub returns-clause-whole : goal.returns-clause-whole
returns-clause-whole g c =
    λ tells.
    let a = g.D.Dir.told c.args.dir.now in
    let b = g.D.Dir.told c.begin_sealed.new.dir in
    let d = g.D.Dir.told c.write_all.new.dir in
    let e = g.D.Dir.told c.write_end.new.dir in
    let same = c.in-Ok.ensures.folder in
    let after = c.in_default.ensures.folder in
    let begun = writing_begun c.args.folder.now a b (c.in-Ok.ensures.steps tells) (c.in-Ok.ensures.begun tells) (c.in-Ok.ensures.empty tells) in
    let steps = c.in_default.ensures.steps tells a (subst (λ (f : Names). IsWriting f [] a b) (sym same) begun) in
    let begun = c.in_default.ensures.begun tells in
    let some = writing_some _ a d steps begun in
    let made = c.write_end.ensures.made tells a begun.part.0 (subst (λ (f : Names). IsWriting f begun.part.0 a d) (sym after) some) in
    subst (λ (f : Names). OnOk c.write_end.result (files e (success_of f) ≡ fixed (Some []))) (after ∙ same) (made_success _ _ (files e) c.write_end.result made)

pub returns-clause-outside : goal.returns-clause-outside
returns-clause-outside g c =
    λ tells.
    let a = g.D.Dir.told c.args.dir.now in
    let b = g.D.Dir.told c.begin_sealed.new.dir in
    let d = g.D.Dir.told c.write_all.new.dir in
    let e = g.D.Dir.told c.write_end.new.dir in
    let same = c.in-Ok.ensures.folder in
    let after = c.in_default.ensures.folder in
    let begun = writing_begun c.args.folder.now a b (c.in-Ok.ensures.steps tells) (c.in-Ok.ensures.begun tells) (c.in-Ok.ensures.empty tells) in
    let steps = c.in_default.ensures.steps tells a (subst (λ (f : Names). IsWriting f [] a b) (sym same) begun) in
    let begun = c.in_default.ensures.begun tells in
    let some = writing_some _ a d steps begun in
    subst (λ (f : Names). Through (Both (StandsOutside f (files a))) a e) (after ∙ same) (makes_stand _ _ a e (c.write_end.ensures.steps tells a begun.part.0 (subst (λ (f : Names). IsWriting f begun.part.0 a d) (sym after) some)))

pub returns-in-Err-clause-refused : goal.returns-in-Err-clause-refused
returns-in-Err-clause-refused g c =
    λ tells other. c.in-Err.ensures.steps tells

pub returns-in-Err-write_all-clause-refused : goal.returns-in-Err-write_all-clause-refused
returns-in-Err-write_all-clause-refused g c =
    λ tells other.
    let a = g.D.Dir.told c.args.dir.now in
    let b = g.D.Dir.told c.begin_sealed.new.dir in
    let d = g.D.Dir.told c.write_all.new.dir in
    let same = c.in-Ok.ensures.folder in
    let begun = writing_begun c.args.folder.now a b (c.in-Ok.ensures.steps tells) (c.in-Ok.ensures.begun tells) (c.in-Ok.ensures.empty tells) in
    subst (λ (f : Names). Through (Writes f (files a)) a d) same (c.write_all.ensures.steps tells a (subst (λ (f : Names). IsWriting f [] a b) (sym same) begun))

pub returns-clause-refused : goal.returns-clause-refused
returns-clause-refused g c = λ tells. none_refused _ c.write_end.result c.write_end.ensures.err
