use Rattle.std.proofs.Common.{rules, ◌≡◌, List, [], ◌∷◌, ◌++◌, ◌∙◌, ap, sym, subst}
use Rattle.dir_disk.specs.Lent.{IsFree, Loan}
use Rattle.dir_disk.specs.Children.{Child, loan_of, loans_of}
use Rattle.dir_disk.proofs.Lendings.{loans_end}
use Rattle.dir_mem.specs.Memory.{lent_of}
use Rattle.site_mem.specs.Ends.{WriteApart}
use Rattle.site_mem.proofs.Leaving.{apart_more}
use Rattle.site_mem.proofs.roster.Roster.start.Goals as goal

pub invariant_of-self-2 : goal.invariant_of-self-2
invariant_of-self-2 g c =
    let old : List Child = c.self.inside.running.items in
    let child : Child = record { attempt = c.in-Ok.copies.attempt; words = c.in-Ok.copies.words; input = c.in-Ok-lend.loan.input; output = c.in-Ok-lend.loan.output; given = c.in-Ok.copies.given.items } in
    let kept : c.reserve.new.self.items ≡ old = search rules in
    let items : c.add_child.new.running.items ≡ old ++ child ∷ [] = c.add_child.ensures.items ∙ ap (λ (cs : List Child). cs ++ child ∷ []) kept in
    let free : IsFree (loans_of old) child.output = search rules in
    (search rules, subst (λ (cs : List Child). WriteApart (loans_of cs)) (sym items) (apart_more old child c.self.invariant.1 free))

pub returns-clause-lent : goal.returns-clause-lent
returns-clause-lent g c =
    let old : List Child = c.self.inside.running.items in
    let child : Child = record { attempt = c.in-Ok.copies.attempt; words = c.in-Ok.copies.words; input = c.in-Ok-lend.loan.input; output = c.in-Ok-lend.loan.output; given = c.in-Ok.copies.given.items } in
    let kept : c.reserve.new.self.items ≡ old = search rules in
    let items : c.add_child.new.running.items ≡ old ++ child ∷ [] = c.add_child.ensures.items ∙ ap (λ (cs : List Child). cs ++ child ∷ []) kept in
    let was : lent_of c.args.dir.now ≡ loans_of old = search rules in
    c.in-Ok-lend.ensures.lent ∙ ap (λ (ls : List Loan). ls ++ loan_of child ∷ []) was ∙ sym (loans_end old child) ∙ ap loans_of (sym items)
