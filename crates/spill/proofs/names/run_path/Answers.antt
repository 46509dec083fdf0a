use Rattle.std.proofs.Common.{◌≡◌, ◌++◌, ◌∷◌, [], ◌∙◌, length, codes, IfOk, ℕ, List, ap, sym, subst, arith}
use Rattle.std.specs.Bool.{IsTrue}
use Rattle.digit_names.specs.Digits.{digits, begins_name}
use Rattle.spill.specs.Runs.{run_name}
use Rattle.spill.proofs.RunNames.{run_front, run_front_begins_name, length-run_front}
use Rattle.spill.proofs.names.run_path.Goals as goal

pub numbered-requires-clause-front : goal.numbered-requires-clause-front
numbered-requires-clause-front c =
    let part_digits : c.push_digits.new.text.items ≡ codes "run-" ++ digits 5 c.args.part = c.in_ok-push_digits.ensures ∙ ap (λ (t : List ℕ). t ++ digits 5 c.from.result) c.in_ok-front.ensures.items ∙ ap (λ (n : ℕ). codes "run-" ++ digits 5 n) c.from.ensures in
    let front : c.deref.result.now ≡ run_front c.args.part = c.deref.ensures.value ∙ c.in_ok-push.ensures.items ∙ ap (λ (t : List ℕ). t ++ 45 ∷ []) part_digits in
    subst (λ (t : List ℕ). IsTrue (begins_name t)) (sym front) (run_front_begins_name c.args.part)

pub numbered-requires-clause-short : goal.numbered-requires-clause-short
numbered-requires-clause-short c =
    let part_digits : c.push_digits.new.text.items ≡ codes "run-" ++ digits 5 c.args.part = c.in_ok-push_digits.ensures ∙ ap (λ (t : List ℕ). t ++ digits 5 c.from.result) c.in_ok-front.ensures.items ∙ ap (λ (n : ℕ). codes "run-" ++ digits 5 n) c.from.ensures in
    let front : c.deref.result.now ≡ run_front c.args.part = c.deref.ensures.value ∙ c.in_ok-push.ensures.items ∙ ap (λ (t : List ℕ). t ++ 45 ∷ []) part_digits in
    let long : length c.deref.result.now ≡ 10 = ap length front ∙ length-run_front c.args.part in
    omega arith

pub returns : goal.returns
unfolding run_name
returns c =
    let part_digits : c.push_digits.new.text.items ≡ codes "run-" ++ digits 5 c.args.part = c.in_ok-push_digits.ensures ∙ ap (λ (t : List ℕ). t ++ digits 5 c.from.result) c.in_ok-front.ensures.items ∙ ap (λ (n : ℕ). codes "run-" ++ digits 5 n) c.from.ensures in
    let front : c.deref.result.now ≡ run_front c.args.part = c.deref.ensures.value ∙ c.in_ok-push.ensures.items ∙ ap (λ (t : List ℕ). t ++ 45 ∷ []) part_digits in
    let name : c.in_ok-numbered.field-0 ≡ run_front c.args.part ++ digits 20 c.args.flush = c.in_ok-numbered.ensures ∙ ap (λ (t : List ℕ). t ++ digits 20 c.args.flush) front in
    subst (λ (n : List ℕ). IfOk c.child-2.result (λ path. path ≡ c.args.folder.now ++ n ∷ [])) name c.child-2.ensures
