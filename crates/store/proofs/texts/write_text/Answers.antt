use Rattle.std.proofs.Common.{◌∙◌, [], OnOk, sym, subst}
use Rattle.peg_base.specs.Names.{Names}
use Rattle.dir_disk.specs.Moments.{Through, files}
use Rattle.committer.specs.Folders.{Writes}
use Rattle.store.specs.Sealed.{IsMade, IsWriting, Makes}
use Rattle.store.proofs.SealedLemmas.{steps_of_writing, writing_begun}
use Rattle.store.proofs.texts.write_text.Goals as goal

pub returns-in_err-sealing-clause-steps : goal.returns-in_err-sealing-clause-steps
returns-in_err-sealing-clause-steps g c =
    λ tells. steps_of_writing c.args.folder.now c.args.text.now (g.D.Dir.told c.args.dir.now) (g.D.Dir.told c.begin_sealed.new.dir) (c.begin_sealed.ensures.steps tells)

pub returns-in_err-send-clause-steps : goal.returns-in_err-send-clause-steps
returns-in_err-send-clause-steps g c =
    λ tells.
    let a = g.D.Dir.told c.args.dir.now in
    let b = g.D.Dir.told c.begin_sealed.new.dir in
    let d = g.D.Dir.told c.send.new.dir in
    let same = c.in_ok-sealing.ensures.folder in
    let begun = writing_begun c.args.folder.now a b (c.in_ok-sealing.ensures.steps tells) (c.in_ok-sealing.ensures.begun tells) (c.in_ok-sealing.ensures.empty tells) in
    let steps = c.send.ensures.steps tells a [] (subst (λ (f : Names). IsWriting f [] a b) (sym same) begun) in
    steps_of_writing c.args.folder.now c.args.text.now a d (subst (λ (f : Names). Through (Writes f (files a)) a d) same steps)

pub returns-clause-made : goal.returns-clause-made
returns-clause-made g c =
    λ tells.
    let a = g.D.Dir.told c.args.dir.now in
    let b = g.D.Dir.told c.begin_sealed.new.dir in
    let d = g.D.Dir.told c.send.new.dir in
    let e = g.D.Dir.told c.seal.new.dir in
    let same = c.in_ok-sealing.ensures.folder in
    let after = c.in_ok-send.ensures.folder in
    let begun = writing_begun c.args.folder.now a b (c.in_ok-sealing.ensures.steps tells) (c.in_ok-sealing.ensures.begun tells) (c.in_ok-sealing.ensures.empty tells) in
    let sent = c.in_ok-send.ensures.writing tells a [] (subst (λ (f : Names). IsWriting f [] a b) (sym same) begun) in
    subst (λ (f : Names). OnOk c.seal.result (IsMade f c.args.text.now (files e))) (after ∙ same) (c.seal.ensures.made tells a c.args.text.now (subst (λ (f : Names). IsWriting f c.args.text.now a d) (sym after) sent))

pub returns-clause-steps : goal.returns-clause-steps
returns-clause-steps g c =
    λ tells.
    let a = g.D.Dir.told c.args.dir.now in
    let b = g.D.Dir.told c.begin_sealed.new.dir in
    let d = g.D.Dir.told c.send.new.dir in
    let e = g.D.Dir.told c.seal.new.dir in
    let same = c.in_ok-sealing.ensures.folder in
    let after = c.in_ok-send.ensures.folder in
    let begun = writing_begun c.args.folder.now a b (c.in_ok-sealing.ensures.steps tells) (c.in_ok-sealing.ensures.begun tells) (c.in_ok-sealing.ensures.empty tells) in
    let sent = c.in_ok-send.ensures.writing tells a [] (subst (λ (f : Names). IsWriting f [] a b) (sym same) begun) in
    subst (λ (f : Names). Through (Makes f c.args.text.now (files a)) a e) (after ∙ same) (c.seal.ensures.steps tells a c.args.text.now (subst (λ (f : Names). IsWriting f c.args.text.now a d) (sym after) sent))
