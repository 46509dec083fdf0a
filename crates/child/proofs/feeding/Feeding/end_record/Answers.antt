use Rattle.std.proofs.Common.{◌≡◌, ◌++◌, List, ℕ, [], subst, sym, arith, refl}
use Rattle.std.proofs.lemmas.Grind.{common_steps}
use Rattle.std.proofs.lemmas.Bool.Decides.{nat_tests}
use Rattle.child.specs.Feeding.{fed_of}
use Rattle.child.specs.Handing.{Hands, IsRefused}
use Rattle.child.proofs.FeedingLemmas.{Feeds-record, RefusesBytes-record}
use Rattle.child.proofs.feeding.Feeding.end_record.Goals as goal

pub returns-in-Ok-clause-ok : goal.returns-in-Ok-clause-ok
returns-in-Ok-clause-ok g c =
    let none : c.args.self.now.held.items ≡ [] = grind (arith, common_steps, nat_tests, c.is_empty.ensures, c.if-not-is_empty.false) in
    let hands = subst (λ (held : List ℕ). Hands (g.R.Role.standing c.args.self.now.role) (g.R.Role.standing c.hand.new.role) (held ++ c.args.text.now) c.args.out.now.items c.hand.new.out.items) (sym none) c.in-Ok.ensures.ok in
    Feeds-record _ _ c.args.text.now c.requires.unbroken _ _ hands none refl refl

pub returns-in-Err-clause-err : goal.returns-in-Err-clause-err
returns-in-Err-clause-err g c =
    let none : c.args.self.now.held.items ≡ [] = grind (arith, common_steps, nat_tests, c.is_empty.ensures, c.if-not-is_empty.false) in
    let refused = subst (λ (held : List ℕ). IsRefused (g.R.Role.standing c.args.self.now.role) c.args.self.now.line (held ++ c.args.text.now) c.in-Err.status) (sym none) c.in-Err.ensures.err in
    RefusesBytes-record (fed_of g.R.Role.standing c.args.self.now) c.args.text.now c.requires.unbroken c.requires.room c.in-Err.status refused
