-- Which words `plain` by itself refuses.
use Rattle.std.proofs.Common.{◌≡◌, ℕ, ◌<◌, Bool, true, false, inl, inr, ⊎_elim, List, [], ◌∷◌, Some, refl, sym, ◌∙◌, ap, subst, arith}
use Rattle.std.specs.Prelude.{not, ◌||◌, ◌&&◌, ◌==◌, Option, codes, is_some, unwrap_or}
use Rattle.std.specs.List.{find}
use Rattle.std.proofs.lemmas.Bool.{false≢true, cases_Bool, cases_lt, cond-false, cond-true, ne_eqb}
use Rattle.words.specs.Words.{is_word, word_at}
use Rattle.conf.specs.declared.commands.Command.{Command}
use Rattle.conf.specs.declared.commands.Command.TheVariants.{Plain}
use Rattle.conf.specs.declared.reading.Conf.{Conf as Settings}
use Rattle.conf.specs.Commands.{command_named, commands, name_of}
use Rattle.conf.specs.Meaning.{Mean}
use Rattle.driver.specs.Words.{IsLeastRefused, is_refused_by_plain}

pub one_least : (words : List (List ℕ)) (j k : ℕ) → IsLeastRefused words j → IsLeastRefused words k → j ≡ k
one_least words j k first second =
    ⊎_elim (λ less. absurd (false≢true (sym (second.before j less) ∙ first.refused))) (λ over. ⊎_elim (λ less. absurd (false≢true (sym (first.before k less) ∙ second.refused))) (λ under. omega (arith, over, under)) (cases_lt k j)) (cases_lt j k)

abbrev says_plain : List (List ℕ) → Bool
says_plain words = is_word (word_at words 2) (codes "plain")

some_command : (one two : Command) → Some one ≡ Some two → one ≡ two
some_command one two same = ap (λ (o : Option Command). unwrap_or o one) same

-- what is found passes the test
found_passes : (test : Command → Bool) (commands : List Command) (found : Command) → find test commands ≡ Some found → test found ≡ true
found_passes test [] found is = absurd (false≢true (ap is_some is))
found_passes test (one ∷ others) found is =
    elim (cases_Bool (test one)) [
      | inl passes ↦ subst (λ (command : Command). test command ≡ true) (some_command one found (sym (cond-true _ _ _ passes) ∙ is)) passes
      | inr fails ↦ found_passes test others found (sym (cond-false _ _ _ fails) ∙ is)
    ]

named_plain : (words : List (List ℕ)) → command_named (word_at words 2) ≡ Some Plain → says_plain words ≡ true
named_plain words is = found_passes (λ (command : Command). is_word (word_at words 2) (name_of command)) commands Plain is

plain_named : (words : List (List ℕ)) → says_plain words ≡ true → command_named (word_at words 2) ≡ Some Plain
plain_named words is = cond-true _ _ _ is

-- another command is refused at word 2, where nothing else is
pub other_refused : (words : List (List ℕ)) (conf : Settings) → Mean words conf → (conf.command ≡ Plain → ⊥) → IsLeastRefused words 2
other_refused words conf mean other = record { refused = refused; before = before }
  where
    none : says_plain words ≡ false
    none = elim (cases_Bool (says_plain words)) [
      | inl is ↦ absurd (other (some_command conf.command Plain (sym mean.command_named ∙ plain_named words is)))
      | inr isnt ↦ isnt
    ]

    refused : is_refused_by_plain words 2 ≡ true
    refused = ap (λ (any : Bool). any || not (says_plain words)) (mean.accepted 2) ∙ ap not none

    before : (j : ℕ) → j < 2 → is_refused_by_plain words j ≡ false
    before j less =
        let apart : (j == 2) ≡ false = ne_eqb j 2 (λ is. omega (arith, less, is)) in
        ap (λ (any : Bool). any || (j == 2 && not (says_plain words))) (mean.accepted j) ∙ ap (λ (same : Bool). same && not (says_plain words)) apart

-- nothing of the words of `plain` is refused
pub plain_accepted : (words : List (List ℕ)) (conf : Settings) → Mean words conf → conf.command ≡ Plain → (word : ℕ) → IsLeastRefused words word → ⊥
plain_accepted words conf mean plain word least =
    let says : says_plain words ≡ true = named_plain words (mean.command_named ∙ ap Some plain) in
    false≢true (sym (ap (λ (any : Bool). any || (word == 2 && not (says_plain words))) (mean.accepted word) ∙ ap (λ (b : Bool). word == 2 && not b) says ∙ and_false (word == 2)) ∙ least.refused)
  where
    and_false : (b : Bool) → (b && false) ≡ false
    and_false true = refl
    and_false false = refl
