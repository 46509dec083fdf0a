use Rattle.std.proofs.Common.{◌≡◌, ℕ, List, [], ◌∷◌, ◌++◌, ◌∙◌, length, IfOk, ap, sym, subst, arith}
use Rattle.std.specs.Bool.{IsTrue}
use Rattle.digit_names.specs.Digits.{digits, begins_name}
use Rattle.committer.specs.Paths.{attempt_front, attempt_name}
use Rattle.committer.proofs.NamesApart.{attempt_text, attempt_text_begins_name, length-attempt_text}
use Rattle.committer.proofs.paths.attempt_name.Goals as goal

pub numbered-requires-clause-front : goal.numbered-requires-clause-front
numbered-requires-clause-front c =
    let task = c.args.attempt.now.task in
    let text : c.deref.result.now ≡ attempt_text task.phase task.task = c.deref.ensures.value ∙ c.in_ok-push.ensures.items ∙ ap (λ (t : List ℕ). t ++ 45 ∷ []) (c.in_ok-push_digits.ensures ∙ ap (λ (t : List ℕ). t ++ digits 6 c.from.result) (c.in_ok-text.ensures.items ∙ c.attempt_front.ensures) ∙ ap (λ (n : ℕ). attempt_front task.phase ++ digits 6 n) c.from.ensures) in
    subst (λ (t : List ℕ). IsTrue (begins_name t)) (sym text) (attempt_text_begins_name task.phase task.task)

pub numbered-requires-clause-short : goal.numbered-requires-clause-short
numbered-requires-clause-short c =
    let task = c.args.attempt.now.task in
    let text : c.deref.result.now ≡ attempt_text task.phase task.task = c.deref.ensures.value ∙ c.in_ok-push.ensures.items ∙ ap (λ (t : List ℕ). t ++ 45 ∷ []) (c.in_ok-push_digits.ensures ∙ ap (λ (t : List ℕ). t ++ digits 6 c.from.result) (c.in_ok-text.ensures.items ∙ c.attempt_front.ensures) ∙ ap (λ (n : ℕ). attempt_front task.phase ++ digits 6 n) c.from.ensures) in
    let long : length c.deref.result.now ≡ 17 = ap length text ∙ length-attempt_text task.phase task.task in
    omega arith

pub returns : goal.returns
unfolding attempt_name
returns c =
    let task = c.args.attempt.now.task in
    let text : c.deref.result.now ≡ attempt_text task.phase task.task = c.deref.ensures.value ∙ c.in_ok-push.ensures.items ∙ ap (λ (t : List ℕ). t ++ 45 ∷ []) (c.in_ok-push_digits.ensures ∙ ap (λ (t : List ℕ). t ++ digits 6 c.from.result) (c.in_ok-text.ensures.items ∙ c.attempt_front.ensures) ∙ ap (λ (n : ℕ). attempt_front task.phase ++ digits 6 n) c.from.ensures) in
    let whole : c.deref.result.now ++ digits 1 c.from-2.result ≡ attempt_text task.phase task.task ++ digits 1 c.args.attempt.now.number = ap (λ (t : List ℕ). t ++ digits 1 c.from-2.result) text ∙ ap (λ (n : ℕ). attempt_text task.phase task.task ++ digits 1 n) c.from-2.ensures in
    subst (λ (t : List ℕ). IfOk c.numbered.result (λ name. name ≡ t)) whole c.numbered.ensures
