-- The sums of a text, part by part.
use Rattle.std.proofs.Common.{◌≡◌, ℕ, ◌+◌, ◌<◌, ◌≤◌, eqb, leb, List, [], ◌∷◌, ◌++◌, length, get_or, drop, map, Some, None, option_and_then, sym, ap, ◌∙◌}
use Rattle.std.specs.List.{slice_split}
use Rattle.std.proofs.lemmas.Bool.{cond-true, cond-false, le-leb, lt-leb}
use Rattle.std.proofs.lemmas.List.{at_drop_more, drop_all}
use Rattle.bitstrings.specs.Options.{all_some}
use Rattle.bitstrings.specs.Texts.{few, sum_of, sums_of}
use Rattle.bitstrings.proofs.Lists.{prefixed, prefixed_more, prefixed_none, prefixed_all}

abbrev pub parts : List ℕ → List (List ℕ)
parts text = slice_split (λ b. eqb b 58) text

pub sums_more : (text sums part : List ℕ) (n m s : ℕ) → n < length (parts text) → part ≡ get_or (parts text) n part → m ≡ n + 1 → Some s ≡ sum_of part
    → prefixed sums (all_some (map sum_of (drop n (parts text)))) ≡ all_some (map sum_of (parts text))
    → prefixed (sums ++ s ∷ []) (all_some (map sum_of (drop m (parts text)))) ≡ all_some (map sum_of (parts text))
sums_more text sums part n m s lt here next is so_far =
    ap (λ k. prefixed (sums ++ s ∷ []) (all_some (map sum_of (drop k (parts text))))) next
    ∙ prefixed_more sums s (sum_of (get_or (parts text) n part)) (map sum_of (drop (n + 1) (parts text))) (ap sum_of (sym here) ∙ sym is)
    ∙ sym (at_drop_more (λ ps. prefixed sums (all_some (map sum_of ps))) (parts text) n part lt) ∙ so_far

pub sums_none : (text sums part : List ℕ) (n : ℕ) → n < length (parts text) → part ≡ get_or (parts text) n part → None ≡ sum_of part
    → prefixed sums (all_some (map sum_of (drop n (parts text)))) ≡ all_some (map sum_of (parts text)) → None ≡ sums_of text
unfolding sums_of
sums_none text sums part n lt here is so_far =
    sym (ap (option_and_then few)
    (sym so_far ∙ at_drop_more (λ ps. prefixed sums (all_some (map sum_of ps))) (parts text) n part lt
    ∙ prefixed_none sums (sum_of (get_or (parts text) n part)) (map sum_of (drop (n + 1) (parts text))) (ap sum_of (sym here) ∙ sym is)))

all_read : (text sums : List ℕ) (n : ℕ) → length (parts text) ≤ n → prefixed sums (all_some (map sum_of (drop n (parts text)))) ≡ all_some (map sum_of (parts text))
    → all_some (map sum_of (parts text)) ≡ Some sums
all_read text sums n past so_far =
    sym so_far ∙ ap (λ ps. prefixed sums (all_some (map sum_of ps))) (drop_all n (parts text) past) ∙ prefixed_all sums

pub sums_done : (text sums : List ℕ) (n : ℕ) → length (parts text) ≤ n → prefixed sums (all_some (map sum_of (drop n (parts text)))) ≡ all_some (map sum_of (parts text))
    → length sums ≤ 257 → Some sums ≡ sums_of text
unfolding sums_of
sums_done text sums n past so_far small =
    sym (ap (option_and_then few) (all_read text sums n past so_far) ∙ cond-true (leb (length sums) 257) (Some sums) None (le-leb (length sums) 257 small))

pub sums_too_many : (text sums : List ℕ) (n : ℕ) → length (parts text) ≤ n → prefixed sums (all_some (map sum_of (drop n (parts text)))) ≡ all_some (map sum_of (parts text))
    → 257 < length sums → None ≡ sums_of text
unfolding sums_of
sums_too_many text sums n past so_far many =
    sym (ap (option_and_then few) (all_read text sums n past so_far) ∙ cond-false (leb (length sums) 257) (Some sums) None (lt-leb (length sums) 257 many))
