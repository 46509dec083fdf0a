use Rattle.std.proofs.Common.{◌≡◌, ℕ, List, ◌++◌, ◌∙◌, codes, IfOk, ap, sym, subst}
use Rattle.peg_base.specs.NameText.{IsName}
use Rattle.digit_names.specs.Digits.{digits}
use Rattle.committer.specs.Paths.{input_front, input_name}
use Rattle.committer.proofs.NamesApart.{input_is_name}
use Rattle.committer.proofs.paths.input_name.Goals as goal

pub new_name-requires : goal.new_name-requires
new_name-requires c =
    let front : c.push_digits.new.text.items ≡ input_front c.args.phase ++ digits 6 c.args.task = c.in_ok-push_digits.ensures ∙ ap (λ (t : List ℕ). t ++ digits 6 c.from.result) (c.in_ok-text.ensures.items ∙ c.input_front.ensures) ∙ ap (λ (n : ℕ). input_front c.args.phase ++ digits 6 n) c.from.ensures in
    let text : c.deref.result.now ≡ input_front c.args.phase ++ digits 6 c.args.task ++ codes ".in" = c.deref.ensures.value ∙ c.in_ok-extend_from_slice.ensures.items ∙ ap (λ (t : List ℕ). t ++ codes ".in") front in
    subst IsName (sym text) (input_is_name c.args.phase c.args.task)

pub returns : goal.returns
unfolding input_name
returns c =
    let front : c.push_digits.new.text.items ≡ input_front c.args.phase ++ digits 6 c.args.task = c.in_ok-push_digits.ensures ∙ ap (λ (t : List ℕ). t ++ digits 6 c.from.result) (c.in_ok-text.ensures.items ∙ c.input_front.ensures) ∙ ap (λ (n : ℕ). input_front c.args.phase ++ digits 6 n) c.from.ensures in
    let text : c.deref.result.now ≡ input_front c.args.phase ++ digits 6 c.args.task ++ codes ".in" = c.deref.ensures.value ∙ c.in_ok-extend_from_slice.ensures.items ∙ ap (λ (t : List ℕ). t ++ codes ".in") front in
    subst (λ (t : List ℕ). IfOk c.new_name.result (λ name. name ≡ t)) text c.new_name.ensures
