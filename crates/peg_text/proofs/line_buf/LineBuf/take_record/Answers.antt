use Rattle.std.proofs.Common.{◌≡◌, ℕ, length, drop, ap, ◌∙◌, subst, arith}
use Rattle.std.proofs.lemmas.List.{take_rest}
use Rattle.peg_text.specs.Cursor.{IsSearched}
use Rattle.peg_text.proofs.CursorLemmas.{all_searched, rest_unbroken, record_found}
use Rattle.peg_text.proofs.line_buf.LineBuf.take_record.Goals as goal
use Rattle.peg_text.proofs.line_buf.LineBuf.take_record.Goals.{In-None}

-- after a search that found nothing all is searched
searched_all : (c : In-None) → IsSearched c.self.inside.bytes.items c.self.inside.start (length c.self.inside.bytes.items)
searched_all c =
    let bytes = c.self.inside.bytes.items in
    all_searched bytes _ c.self.inside.start c.self.inside.searched c.self.invariant (take_rest c.deref.result.now c.self.inside.searched ∙ ap (drop c.self.inside.searched) c.deref.ensures.value) c.in-None.ensures

pub invariant_of-self : goal.invariant_of-self
invariant_of-self c =
    let len : length c.self.inside.bytes.items ≡ c.len-self-inside.result = omega (arith, c.self.inside.bytes.ok.0) in
    let P : ℕ → Type 0 = λ n. IsSearched c.self.inside.bytes.items c.self.inside.start n in
    subst P len (searched_all (goal.at.invariant_of-self c).In-None)

pub returns-in-None-clause-none : goal.returns-in-None-clause-none
returns-in-None-clause-none c =
    rest_unbroken c.self.inside.bytes.items c.self.inside.start (searched_all (goal.at.returns-in-None-clause-none c).In-None)

pub returns-in_ok-replace-in-Some-clause-found : goal.returns-in_ok-replace-in-Some-clause-found
returns-in_ok-replace-in-Some-clause-found c =
    let bytes = c.self.inside.bytes.items in
    record_found bytes _ c.self.inside.start c.self.inside.searched c.in-Some.length c.args.self.now c.replace.new.line.items c.self.invariant (take_rest c.deref.result.now c.self.inside.searched ∙ ap (drop c.self.inside.searched) c.deref.ensures.value) c.self.view_is (rw (← c.deref-in-Some.ensures.value) c.in_ok-replace-in-Some.ensures.ok) c.in-Some.ensures
