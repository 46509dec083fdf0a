use Rattle.std.proofs.Common.{◌≡◌, ◌++◌, List, ℕ, subst, arith, refl}
use Rattle.std.proofs.lemmas.Grind.{common_steps}
use Rattle.child.specs.Feeding.{fed_of}
use Rattle.child.specs.Handing.{Hands, IsRefused}
use Rattle.child.proofs.FeedingLemmas.{Feeds-record, RefusesBytes-record}
use Rattle.child.proofs.feeding.Feeding.end_held.Goals as goal

pub returns-in-Ok-clause-ok : goal.returns-in-Ok-clause-ok
returns-in-Ok-clause-ok g c =
    let record_is : c.deref.result.now ≡ c.args.self.now.held.items ++ c.args.text.now = grind (arith, common_steps) in
    let hands = subst (λ (r : List ℕ). Hands (g.R.Role.standing c.args.self.now.role) (g.R.Role.standing c.hand.new.role) r c.args.out.now.items c.hand.new.out.items) record_is c.in-Ok.ensures.ok in
    Feeds-record _ _ c.args.text.now c.requires.unbroken _ _ hands c.clear.ensures.items refl refl

pub returns-in-Err-clause-err : goal.returns-in-Err-clause-err
returns-in-Err-clause-err g c =
    let record_is : c.deref.result.now ≡ c.args.self.now.held.items ++ c.args.text.now = grind (arith, common_steps) in
    let refused = subst (λ (r : List ℕ). IsRefused (g.R.Role.standing c.args.self.now.role) c.args.self.now.line r c.in-Err.status) record_is c.in-Err.ensures.err in
    RefusesBytes-record (fed_of g.R.Role.standing c.args.self.now) c.args.text.now c.requires.unbroken c.requires.room c.in-Err.status refused
