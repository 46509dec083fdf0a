use Rattle.std.proofs.Common.{◌≡◌, ◌<◌, List, ℕ, [], length, subst, arith}
use Rattle.std.proofs.lemmas.Grind.{common_steps}
use Rattle.std.proofs.lemmas.Bool.Decides.{nat_tests}
use Rattle.child.specs.Feeding.{fed_of}
use Rattle.child.specs.Handing.{Hands, IsRefused}
use Rattle.child.proofs.FeedingLemmas.{finishes_whole, refuses_whole, finishes_last, refuses_last, RefusesToFinish-last}
use Rattle.child.proofs.feeding.Feeding.finish.Goals as goal

pub returns-then-is_empty-clause-ok : goal.returns-then-is_empty-clause-ok
returns-then-is_empty-clause-ok g c =
    let none : c.args.self.now.held.items ≡ [] = grind (arith, common_steps, nat_tests, c.is_empty.ensures, c.if-is_empty.true) in
    finishes_whole (fed_of g.R.Role.standing c.args.self.now) c.args.out.now.items c.end_role.new.out.items c.end_role.result none c.end_role.ensures.ok

pub returns-then-is_empty-clause-err : goal.returns-then-is_empty-clause-err
returns-then-is_empty-clause-err g c =
    let none : c.args.self.now.held.items ≡ [] = grind (arith, common_steps, nat_tests, c.is_empty.ensures, c.if-is_empty.true) in
    refuses_whole (fed_of g.R.Role.standing c.args.self.now) c.end_role.result none c.end_role.ensures.err

pub returns-in-Ok-clause-ok : goal.returns-in-Ok-clause-ok
returns-in-Ok-clause-ok g c =
    let some : 0 < length c.args.self.now.held.items = grind (arith, nat_tests, common_steps, c.is_empty.ensures, c.if-is_empty.false) in
    let hands = subst (λ (r : List ℕ). Hands (g.R.Role.standing c.args.self.now.role) (g.R.Role.standing c.hand.new.role) r c.args.out.now.items c.hand.new.out.items) c.deref.ensures.value c.in-Ok.ensures.ok in
    finishes_last (fed_of g.R.Role.standing c.args.self.now) _ _ _ _ c.end_role-in-Ok.result some hands c.end_role-in-Ok.ensures.ok

pub returns-in-Ok-clause-err : goal.returns-in-Ok-clause-err
returns-in-Ok-clause-err g c =
    let some : 0 < length c.args.self.now.held.items = grind (arith, nat_tests, common_steps, c.is_empty.ensures, c.if-is_empty.false) in
    let hands = subst (λ (r : List ℕ). Hands (g.R.Role.standing c.args.self.now.role) (g.R.Role.standing c.hand.new.role) r c.args.out.now.items c.hand.new.out.items) c.deref.ensures.value c.in-Ok.ensures.ok in
    refuses_last (fed_of g.R.Role.standing c.args.self.now) _ _ _ c.end_role-in-Ok.result some hands c.end_role-in-Ok.ensures.err

pub returns-in-Err-clause-err : goal.returns-in-Err-clause-err
returns-in-Err-clause-err g c =
    let some : 0 < length c.args.self.now.held.items = grind (arith, nat_tests, common_steps, c.is_empty.ensures, c.if-is_empty.false) in
    let refused = subst (λ (r : List ℕ). IsRefused (g.R.Role.standing c.args.self.now.role) c.args.self.now.line r c.in-Err.status) c.deref.ensures.value c.in-Err.ensures.err in
    RefusesToFinish-last (fed_of g.R.Role.standing c.args.self.now) some c.in-Err.status refused
