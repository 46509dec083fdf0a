use Rattle.std.proofs.Common.{◌≡◌, ◌∙◌, [], ◌∷◌, ap, sym, subst}
use Rattle.peg_base.specs.Names.{Names}
use Rattle.peg_base.proofs.Under.{under-append}
use Rattle.dir_disk.specs.State.{after_append}
use Rattle.dir_disk.specs.Calls.{Append, CanAppend, Does}
use Rattle.dir_disk.specs.Lent.{IsFree}
use Rattle.dir_disk.specs.Moments.{Told, files}
use Rattle.dir_disk.proofs.Lendings.{free_below}
use Rattle.dir_disk.proofs.Through.{started}
use Rattle.committer.specs.Paths.{part_name, part_of}
use Rattle.committer.specs.Folders.{Writes}
use Rattle.committer.proofs.SealingLemmas.{ready_begun, can_append, begun_append, writes_on}
use Rattle.committer.proofs.sealing.Sealing.piece.Goals as goal

pub append-requires-clause-lent : goal.append-requires-clause-lent
append-requires-clause-lent g c =
    let folder = c.args.self.now in
    let part_is : c.self.inside.part ≡ part_of folder 0 = c.self.invariant.0 ∙ ap (λ (f : Names). part_of f 0) c.self.view_is in
    subst (λ (path : Names). IsFree (g.D.Dir.lent c.args.dir.now) path) (sym part_is) (free_below (g.D.Dir.lent c.args.dir.now) folder (part_of folder 0) (under-append folder (part_name 0 ∷ [])) c.requires.lent)

pub append-requires-clause-can : goal.append-requires-clause-can
append-requires-clause-can g c =
    λ tells.
    let folder = c.args.self.now in
    let old : Told = g.D.Dir.told c.args.dir.now in
    let part_is : c.self.inside.part ≡ part_of folder 0 = c.self.invariant.0 ∙ ap (λ (f : Names). part_of f 0) c.self.view_is in
    subst (λ (path : Names). CanAppend (files old) path) (sym part_is) (can_append folder (files old) (ready_begun folder (files old) (c.requires.begun tells)))

pub returns-in_err-append-clause-steps : goal.returns-in_err-append-clause-steps
returns-in_err-append-clause-steps g c =
    λ tells.
    let folder = c.args.self.now in
    let bytes = c.args.bytes.now in
    let old : Told = g.D.Dir.told c.args.dir.now in
    let new : Told = g.D.Dir.told c.append.new.self in
    let part_is : c.self.inside.part ≡ part_of folder 0 = c.self.invariant.0 ∙ ap (λ (f : Names). part_of f 0) c.self.view_is in
    let does : Does (Append (part_of folder 0) bytes) old new c.append.result = subst (λ (path : Names). Does (Append path bytes) old new c.append.result) part_is (c.append.ensures.call tells) in
    writes_on folder bytes old old new c.append.result (started (Writes folder (files old)) old) (ready_begun folder (files old) (c.requires.begun tells)) (λ q. g.met.D.Dir.now_allowed c.args.dir.now q tells) does

pub returns-clause-steps : goal.returns-clause-steps
returns-clause-steps g c =
    λ tells.
    let folder = c.args.self.now in
    let bytes = c.args.bytes.now in
    let old : Told = g.D.Dir.told c.args.dir.now in
    let new : Told = g.D.Dir.told c.append.new.self in
    let part_is : c.self.inside.part ≡ part_of folder 0 = c.self.invariant.0 ∙ ap (λ (f : Names). part_of f 0) c.self.view_is in
    let does : Does (Append (part_of folder 0) bytes) old new c.append.result = subst (λ (path : Names). Does (Append path bytes) old new c.append.result) part_is (c.append.ensures.call tells) in
    writes_on folder bytes old old new c.append.result (started (Writes folder (files old)) old) (ready_begun folder (files old) (c.requires.begun tells)) (λ q. g.met.D.Dir.now_allowed c.args.dir.now q tells) does

pub returns-clause-begun : goal.returns-clause-begun
returns-clause-begun g c =
    λ tells.
    let folder = c.args.self.now in
    let bytes = c.args.bytes.now in
    let old : Told = g.D.Dir.told c.args.dir.now in
    let new : Told = g.D.Dir.told c.append.new.self in
    let part_is : c.self.inside.part ≡ part_of folder 0 = c.self.invariant.0 ∙ ap (λ (f : Names). part_of f 0) c.self.view_is in
    let left : files new ≡ after_append (part_of folder 0) bytes (files old) = subst (λ (path : Names). files new ≡ after_append path bytes (files old)) part_is (c.in_ok-append.ensures.call tells).ok.1 in
    begun_append folder bytes (files old) (files new) (ready_begun folder (files old) (c.requires.begun tells)) left
