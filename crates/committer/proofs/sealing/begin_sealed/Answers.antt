use Rattle.std.proofs.Common.{◌≡◌, ◌∙◌, [], ◌∷◌, ap, sym, subst}
use Rattle.peg_base.specs.Names.{Names}
use Rattle.peg_base.proofs.Under.{under-append}
use Rattle.dir_disk.specs.State.{after_append}
use Rattle.dir_disk.specs.Calls.{Append, CanAppend, Does}
use Rattle.dir_disk.specs.Lent.{IsFree}
use Rattle.dir_disk.specs.Moments.{Told, files}
use Rattle.dir_disk.proofs.Lendings.{free_below}
use Rattle.dir_disk.proofs.Through.{weaker}
use Rattle.committer.specs.Paths.{part_name, part_of}
use Rattle.committer.specs.Folders.{Opens, Writes}
use Rattle.committer.proofs.SealingLemmas.{Ready, ready_opened, can_append, begun_append, begun_is_empty, writes_on, writes_open, opened_writes}
use Rattle.committer.proofs.sealing.begin_sealed.Goals as goal

pub returns-in_err-open_folder-clause-steps : goal.returns-in_err-open_folder-clause-steps
returns-in_err-open_folder-clause-steps g c =
    λ tells.
    let folder = c.args.folder.now in
    let old : Told = g.D.Dir.told c.args.dir.now in
    weaker (Opens folder (files old)) (Writes folder (files old)) old (g.D.Dir.told c.open_folder.new.dir) (writes_open folder (files old)) (c.open_folder.ensures.steps tells)

pub append-requires-clause-lent : goal.append-requires-clause-lent
append-requires-clause-lent g c =
    let folder = c.args.folder.now in
    let part_is : c.sealing.inside.part ≡ part_of folder 0 = c.sealing.invariant.0 ∙ ap (λ (f : Names). part_of f 0) (c.sealing.view_is ∙ c.in_ok-sealing.ensures) in
    subst (λ (path : Names). IsFree (g.D.Dir.lent c.open_folder.new.dir) path) (sym part_is) (subst (λ lent. IsFree lent (part_of folder 0)) (sym c.open_folder.ensures.lent) (free_below (g.D.Dir.lent c.args.dir.now) folder (part_of folder 0) (under-append folder (part_name 0 ∷ [])) c.requires.lent))

pub append-requires-clause-can : goal.append-requires-clause-can
append-requires-clause-can g c =
    λ tells.
    let folder = c.args.folder.now in
    let old : Told = g.D.Dir.told c.args.dir.now in
    let mid : Told = g.D.Dir.told c.open_folder.new.dir in
    let part_is : c.sealing.inside.part ≡ part_of folder 0 = c.sealing.invariant.0 ∙ ap (λ (f : Names). part_of f 0) (c.sealing.view_is ∙ c.in_ok-sealing.ensures) in
    let ready : Ready folder (files mid) = ready_opened folder old mid (c.requires.is_open tells) (c.open_folder.ensures.steps tells) (c.in_ok-open_folder.ensures.empty tells) in
    subst (λ (path : Names). CanAppend (files mid) path) (sym part_is) (can_append folder (files mid) ready)

pub returns-in_err-append-clause-steps : goal.returns-in_err-append-clause-steps
returns-in_err-append-clause-steps g c =
    λ tells.
    let folder = c.args.folder.now in
    let old : Told = g.D.Dir.told c.args.dir.now in
    let mid : Told = g.D.Dir.told c.open_folder.new.dir in
    let new : Told = g.D.Dir.told c.append.new.self in
    let part_is : c.sealing.inside.part ≡ part_of folder 0 = c.sealing.invariant.0 ∙ ap (λ (f : Names). part_of f 0) (c.sealing.view_is ∙ c.in_ok-sealing.ensures) in
    let ready : Ready folder (files mid) = ready_opened folder old mid (c.requires.is_open tells) (c.open_folder.ensures.steps tells) (c.in_ok-open_folder.ensures.empty tells) in
    let does : Does (Append (part_of folder 0) []) mid new c.append.result = subst (λ (path : Names). Does (Append path []) mid new c.append.result) part_is (c.append.ensures.call tells) in
    writes_on folder [] old mid new c.append.result (opened_writes folder old mid (c.open_folder.ensures.steps tells)) ready (λ q. g.met.D.Dir.now_allowed c.open_folder.new.dir q tells) does

pub returns-clause-steps : goal.returns-clause-steps
returns-clause-steps g c =
    λ tells.
    let folder = c.args.folder.now in
    let old : Told = g.D.Dir.told c.args.dir.now in
    let mid : Told = g.D.Dir.told c.open_folder.new.dir in
    let new : Told = g.D.Dir.told c.append.new.self in
    let part_is : c.sealing.inside.part ≡ part_of folder 0 = c.sealing.invariant.0 ∙ ap (λ (f : Names). part_of f 0) (c.sealing.view_is ∙ c.in_ok-sealing.ensures) in
    let ready : Ready folder (files mid) = ready_opened folder old mid (c.requires.is_open tells) (c.open_folder.ensures.steps tells) (c.in_ok-open_folder.ensures.empty tells) in
    let does : Does (Append (part_of folder 0) []) mid new c.append.result = subst (λ (path : Names). Does (Append path []) mid new c.append.result) part_is (c.append.ensures.call tells) in
    writes_on folder [] old mid new c.append.result (opened_writes folder old mid (c.open_folder.ensures.steps tells)) ready (λ q. g.met.D.Dir.now_allowed c.open_folder.new.dir q tells) does

pub returns-clause-begun : goal.returns-clause-begun
returns-clause-begun g c =
    λ tells.
    let folder = c.args.folder.now in
    let old : Told = g.D.Dir.told c.args.dir.now in
    let mid : Told = g.D.Dir.told c.open_folder.new.dir in
    let new : Told = g.D.Dir.told c.append.new.self in
    let part_is : c.sealing.inside.part ≡ part_of folder 0 = c.sealing.invariant.0 ∙ ap (λ (f : Names). part_of f 0) (c.sealing.view_is ∙ c.in_ok-sealing.ensures) in
    let ready : Ready folder (files mid) = ready_opened folder old mid (c.requires.is_open tells) (c.open_folder.ensures.steps tells) (c.in_ok-open_folder.ensures.empty tells) in
    let left : files new ≡ after_append (part_of folder 0) [] (files mid) = subst (λ (path : Names). files new ≡ after_append path [] (files mid)) part_is (c.in_ok-append.ensures.call tells).ok.1 in
    begun_append folder [] (files mid) (files new) ready left

pub returns-clause-empty : goal.returns-clause-empty
returns-clause-empty g c =
    λ tells.
    let folder = c.args.folder.now in
    let mid : Told = g.D.Dir.told c.open_folder.new.dir in
    let new : Told = g.D.Dir.told c.append.new.self in
    let part_is : c.sealing.inside.part ≡ part_of folder 0 = c.sealing.invariant.0 ∙ ap (λ (f : Names). part_of f 0) (c.sealing.view_is ∙ c.in_ok-sealing.ensures) in
    let left : files new ≡ after_append (part_of folder 0) [] (files mid) = subst (λ (path : Names). files new ≡ after_append path [] (files mid)) part_is (c.in_ok-append.ensures.call tells).ok.1 in
    begun_is_empty folder (files mid) (files new) (c.in_ok-open_folder.ensures.empty tells) left
