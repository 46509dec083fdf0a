-- Parts that follow one another.
use Rattle.std.proofs.Common.{◌≡◌, ℕ, suc, ◌+◌, List, [], ◌++◌, Option, Some, None, option_map, refl, sym, ap, ◌∙◌, arith, append_assoc}
use Rattle.std.proofs.lemmas.List.{append-nil}
use Rattle.gimv_base.specs.Parts.{Part, nothing, written, after, unless_stopped, joined}
use Rattle.gimv_base.specs.Answers.{GoesOnWith}

-- a part by its two fields
abbrev made : List ℕ → Option ℕ → Part
made out bad = record { out = out; bad = bad }

pub after_twice : (m n : ℕ) (bad : Option ℕ) → option_map (λ k. m + k) (option_map (λ k. n + k) bad) ≡ option_map (λ k. (m + n) + k) bad
after_twice m n None = refl
after_twice m n (Some k) = ap Some (omega arith)

pub after-after : (a b : List ℕ) (m n : ℕ) (part : Part) → after a m (after b n part) ≡ after (a ++ b) (m + n) part
after-after a b m n part =
    ap (λ out. made out (option_map (λ k. m + k) (option_map (λ k. n + k) part.bad))) (sym (append_assoc a b part.out)) ∙ ap (made ((a ++ b) ++ part.out)) (after_twice m n part.bad)

one_more : (n : ℕ) (bad : Option ℕ) → option_map (λ k. suc n + k) bad ≡ option_map (λ k. (1 + n) + k) bad
one_more n None = refl
one_more n (Some k) = ap Some (omega arith)

joined_by : (a out : List ℕ) (bad : Option ℕ) (n : ℕ) (later : Part) → joined (after a 1 (made out bad)) (suc n) later ≡ after a 1 (joined (made out bad) n later)
joined_by a out None n later = ap (made ((a ++ out) ++ later.out)) (one_more n later.bad) ∙ sym (after-after a out 1 n later)
joined_by a out (Some k) n later = refl

-- what comes first of a first part comes first of the whole
pub joined-after : (a : List ℕ) (part : Part) (n : ℕ) (later : Part) → joined (after a 1 part) (suc n) later ≡ after a 1 (joined part n later)
joined-after a part n later = joined_by a part.out part.bad n later

-- a good part, and what follows it
pub joined_good : (part : Part) (n : ℕ) (later : Part) → part.bad ≡ None → joined part n later ≡ after part.out n later
joined_good part n later good = ap (λ bad. unless_stopped bad part n later) good

-- what is bad of the first part is bad of the whole
pub joined_bad : (part : Part) (n : ℕ) (later : Part) (k : ℕ) → part.bad ≡ Some k → (joined part n later).bad ≡ Some k
joined_bad part n later k bad = ap (λ found. (unless_stopped found part n later).bad) bad ∙ bad

-- nothing follows
pub after_all : (out : List ℕ) (n : ℕ) → after out n nothing ≡ written out
after_all out n = ap (λ l. made l None) (append-nil out)

-- where nothing had to be written at once
pub goes_on_with_none : (old new more : List ℕ) → new ≡ old ++ more → GoesOnWith [] old new
goes_on_with_none old new more is = record { more = more; is = is ∙ ap (λ l. l ++ more) (sym (append-nil old)) }
