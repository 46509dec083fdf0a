-- A word that begins with a prefix.
use Rattle.std.proofs.Common.{◌≡◌, ℕ, true, List, ◌++◌, Some, None, length, take, drop, refl, sym, ap, ◌∙◌, inl, inr}
use Rattle.std.proofs.lemmas.Bool.{cases_Bool}
use Rattle.std.proofs.lemmas.List.{take-append-drop}
use Rattle.std.proofs.Math.Seq.{take-append_seam, drop-append_seam}
use Rattle.std.specs.Cmp.Lexicographic.{same_text, other_text}
use Rattle.words.specs.Words.{after_prefix, is_word}

is_same : (word : List ℕ) → is_word word word ≡ true
is_same word =
    elim (cases_Bool (is_word word word)) [
      | inl is ↦ is
      | inr isnt ↦ absurd (other_text word word (sym isnt) refl)
    ]

pub split_of : (prefix word rest : List ℕ) → after_prefix prefix word ≡ Some rest → word ≡ prefix ++ rest
split_of prefix word rest e =
    let front : List ℕ = take (length prefix) word in
    elim (cases_Bool (is_word front prefix)) [
      | inl is ↦
          let same = same_text front prefix (sym is) in
          let behind : drop (length prefix) word ≡ rest = some_same (rw is at e) in
          sym (take-append-drop (length prefix) word) ∙ ap (λ (f : List ℕ). f ++ drop (length prefix) word) same ∙ ap (λ (b : List ℕ). prefix ++ b) behind
      | inr isnt ↦ none_some (rw isnt at e)
    ]
  where
    some_same : {a b : List ℕ} → Some a ≡ Some b → a ≡ b
    some_same h = cc

    none_some : {A : Type 0} {b : List ℕ} → None ≡ Some b → A
    none_some h = cc

pub behind : (prefix word rest : List ℕ) → word ≡ prefix ++ rest → after_prefix prefix word ≡ Some rest
behind prefix word rest e =
    rw (e, take-append_seam prefix rest, drop-append_seam prefix rest, is_same prefix) refl
