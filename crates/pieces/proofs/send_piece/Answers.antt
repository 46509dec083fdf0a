use Rattle.std.proofs.Common.{◌∙◌, ◌++◌, ℕ, List, ap}
use Rattle.std.proofs.lemmas.List.{append-nil}
use Rattle.peg_base.proofs.Under.{under-refl}
use Rattle.dir_disk.specs.State.{bytes_of}
use Rattle.dir_disk.specs.Moments.{files}
use Rattle.dir_disk.proofs.Keeping.{append_stands}
use Rattle.pieces.proofs.PieceLemmas.{appended_others, can_still, gathered_after}
use Rattle.pieces.proofs.send_piece.Goals as goal

pub returns-clause-can : goal.returns-clause-can
returns-clause-can g c =
    λ tells.
    let path = c.args.path.now in
    let s = files (g.D.Dir.told c.args.dir.now) in
    let t = files (g.D.Dir.told c.append.new.self) in
    can_still path s t (c.requires.can tells) (appended_others path c.deref.result.now s t (c.in_ok-append.ensures.call tells).ok.1)

pub returns-clause-sent : goal.returns-clause-sent
returns-clause-sent g c =
    λ tells.
    let path = c.args.path.now in
    let s = files (g.D.Dir.told c.args.dir.now) in
    let t = files (g.D.Dir.told c.append.new.self) in
    ap (λ (l : List ℕ). bytes_of (t path).now ++ l) c.clear.ensures.items ∙ append-nil (bytes_of (t path).now) ∙ ap bytes_of (gathered_after path c.deref.result.now s t (c.in_ok-append.ensures.call tells).ok.1) ∙ ap (λ (l : List ℕ). bytes_of (s path).now ++ l) c.deref.ensures.value

pub returns-clause-stands : goal.returns-clause-stands
returns-clause-stands g c =
    λ tells.
    let path = c.args.path.now in
    append_stands path path c.deref.result.now (g.D.Dir.told c.args.dir.now) (g.D.Dir.told c.append.new.self) c.append.result (under-refl path) (c.append.ensures.call tells) (λ q. g.met.D.Dir.now_allowed c.args.dir.now q tells)
