use Rattle.std.proofs.Common.{◌≡◌, [], Some, IfOk, sym, ◌∙◌, subst}
use Rattle.dir_disk.specs.Moments.{files}
use Rattle.dir_disk.specs.State.{State, bytes_at}
use Rattle.dir_disk.specs.Calls.{HasFile}
use Rattle.store.specs.Comparing.{IsParted, IsSame}
use Rattle.store.specs.Differing.{IsDifferingLine}
use Rattle.store.proofs.LookLemmas.{looked, looks, looks_then}
use Rattle.store.proofs.ComparingLemmas.{sized_there, differs_from, differs_if_ok, parted_differs, begun_same}
use Rattle.store.proofs.texts.compare_text.Goals as goal

pub returns-then-not-branch-clause-found : goal.returns-then-not-branch-clause-found
returns-then-not-branch-clause-found g c =
    λ tells.
    let path = c.args.path.now in
    let entry = files (g.D.Dir.told c.args.dir.now) in
    let text = c.args.text.now in
    let there = sized_there (entry path).now c.in_ok-size.field-0 (c.in_ok-size.ensures.length tells) c.if-is_none.ensures in
    let here : files (g.D.Dir.told c.size.new.self) ≡ entry = (c.in_ok-size.ensures.call tells).ok.1 in
    let parted : IsParted (bytes_at (files (g.D.Dir.told c.size.new.self)) path) text c.go_on.new.self = rw c.if-not-branch.true at (c.in_ok-go_on.ensures.found tells [] (begun_same _ c.new-compared.result c.new-compared.ensures.place c.new-compared.ensures.line)) in
    differs_from (entry path).now text (Some c.go_on.new.self.line) there (parted_differs (bytes_at entry path) text c.go_on.new.self (subst (λ (s : State). IsParted (bytes_at s path) text c.go_on.new.self) here parted))

pub end-requires-clause-there : goal.end-requires-clause-there
end-requires-clause-there g c =
    λ tells.
    let path = c.args.path.now in
    let entry = files (g.D.Dir.told c.args.dir.now) in
    let there = sized_there (entry path).now c.in_ok-size.field-0 (c.in_ok-size.ensures.length tells) c.if-is_none.ensures in
    let here : files (g.D.Dir.told c.size.new.self) ≡ entry = (c.in_ok-size.ensures.call tells).ok.1 in
    let later : files (g.D.Dir.told c.go_on.new.dir) ≡ entry = looked (g.D.Dir.told c.size.new.self) (g.D.Dir.told c.go_on.new.dir) (c.in_ok-go_on.ensures.stands tells) ∙ here in
    subst (λ (s : State). HasFile s path) (sym later) there

pub returns-clause-found : goal.returns-clause-found
returns-clause-found g c =
    λ tells.
    let path = c.args.path.now in
    let entry = files (g.D.Dir.told c.args.dir.now) in
    let text = c.args.text.now in
    let there = sized_there (entry path).now c.in_ok-size.field-0 (c.in_ok-size.ensures.length tells) c.if-is_none.ensures in
    let here : files (g.D.Dir.told c.size.new.self) ≡ entry = (c.in_ok-size.ensures.call tells).ok.1 in
    let later : files (g.D.Dir.told c.go_on.new.dir) ≡ entry = looked (g.D.Dir.told c.size.new.self) (g.D.Dir.told c.go_on.new.dir) (c.in_ok-go_on.ensures.stands tells) ∙ here in
    let same : IsSame (bytes_at (files (g.D.Dir.told c.size.new.self)) path) text c.go_on.new.self = rw c.if-not-branch.false at (c.in_ok-go_on.ensures.found tells [] (begun_same _ c.new-compared.result c.new-compared.ensures.place c.new-compared.ensures.line)) in
    let now : IsSame (bytes_at (files (g.D.Dir.told c.go_on.new.dir)) path) text c.go_on.new.self = subst (λ (s : State). IsSame (bytes_at s path) text c.go_on.new.self) (here ∙ sym later) same in
    differs_if_ok (entry path).now text c.end.result there (subst (λ (s : State). IfOk c.end.result (IsDifferingLine (bytes_at s path) text)) later (c.end.ensures.found tells text now))

pub returns-clause-stands : goal.returns-clause-stands
returns-clause-stands g c =
    λ tells.
    let a = g.D.Dir.told c.args.dir.now in
    let b = g.D.Dir.told c.size.new.self in
    let d = g.D.Dir.told c.go_on.new.dir in
    looks_then a d (g.D.Dir.told c.end.new.dir) (looks_then a b d (looks c.args.path.now a b c.size.result (c.size.ensures.call tells) (λ q. g.met.D.Dir.now_allowed c.args.dir.now q tells)) (c.in_ok-go_on.ensures.stands tells)) (c.end.ensures.stands tells)
