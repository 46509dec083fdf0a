use Rattle.std.proofs.Common.{[], ◌∷◌, Some, ◌∙◌, ap, sym}
use Rattle.peg_base.proofs.Under.{under-refl}
use Rattle.dir_disk.specs.Moments.{files}
use Rattle.dir_disk.specs.State.{bytes_of, bytes_at}
use Rattle.dir_disk.proofs.Keeping.{append_stands, appended_now}
use Rattle.splits.proofs.CutLemmas.{records_text-ended, records_text-unended}
use Rattle.splits.proofs.copying.end_last.Goals as goal

pub returns-then-progress-clause-text : goal.returns-then-progress-clause-text
returns-then-progress-clause-text g c =
    λ tells.
    let out = c.args.out.now in
    let before = files (g.D.Dir.told c.args.dir.now) in
    ap (λ state. (state out).now) (c.in_ok-append.ensures.call tells).ok.1 ∙ appended_now out (10 ∷ []) before ∙ ap Some (records_text-unended (bytes_at before out) (sym (c.requires.unended tells) ∙ c.if-progress.true)).0

pub returns-then-progress-clause-stands : goal.returns-then-progress-clause-stands
returns-then-progress-clause-stands g c =
    λ tells.
    let out = c.args.out.now in
    append_stands out out (10 ∷ []) (g.D.Dir.told c.args.dir.now) (g.D.Dir.told c.append.new.self) c.append.result (under-refl out) (c.append.ensures.call tells) (λ q. g.met.D.Dir.now_allowed c.args.dir.now q tells)

pub returns-clause-text : goal.returns-clause-text
returns-clause-text g c =
    λ tells.
    let out = c.args.out.now in
    let before = files (g.D.Dir.told c.args.dir.now) in
    let made = c.requires.made tells in
    made.1 ∙ ap Some (sym (ap bytes_of made.1) ∙ (records_text-ended (bytes_at before out) (sym (c.requires.unended tells) ∙ c.if-progress.false)).0)
