-- Words of which none is refused are few: the options among them are different ones.
use Rattle.std.proofs.Common.{nat_lt, ◌-◌, ◌≡◌, ℕ, zero, suc, ◌+◌, ◌<◌, ◌≤◌, Bool, true, false, not, ◌||◌, ◌&&◌, List, [], ◌∷◌, Option, Some, None, length, get_or, eqb, refl, sym, ap, ◌∙◌, subst, arith, inl, inr, if◌then◌else◌, ◌==◌, ◌⊎◌, ◌≢◌, is_some}
use Rattle.std.specs.Option.{option_map_or}
use Rattle.std.specs.List.{list_any, IsDistinct, AllByRecursion}
use Rattle.std.proofs.lemmas.Bool.{cases_Bool, or_parts, eqb-true, true≢false}
use Rattle.std.proofs.lemmas.Bool.Decides.{eqb_tells, nat_tests}
use Rattle.std.proofs.lemmas.Map.Steps.{length-le_from_distinct_below}
use Rattle.conf.specs.declared.commands.Command.{Command}
use Rattle.conf.specs.declared.settings.Setting.{Setting}
use Rattle.conf.specs.declared.settings.Setting.TheVariants.{Gen}
use Rattle.conf.specs.Settings.{settings}
use Rattle.conf.specs.Options.{is_first, place_of}
use Rattle.conf.specs.Rules.{AreAccepted, command_of, gives, is_bad_option, clashes, is_refused, refuses_option, refuses_word}

-- the place of the first element that passes
abbrev pub rank : {X : Type 0} → (X → Bool) → List X → ℕ
rank p [] = 0
rank p (x ∷ xs) = if p x then 0 else suc (rank p xs)

abbrev pub IsFound : {X : Type 0} → (X → Bool) → List X → X → Type 0
IsFound p xs d = (rank p xs < length xs) × (p (get_or xs (rank p xs) d) ≡ true)

found : {X : Type 0} (p : X → Bool) (xs : List X) (d : X) → list_any p xs ≡ true → IsFound p xs d
found p [] d any = absurd (true≢false (sym any))
found {X} p (x ∷ xs) d any =
    elim (cases_Bool (p x)) [
      | inl is ↦ rw is (omega arith, is)
      | inr isnt ↦ let later = found p xs d (rw isnt at any) in rw isnt (omega arith, later.1)
    ]

-- the word of this number gives some option of the command
abbrev GivesSome : List (List ℕ) → Command → ℕ → Type 0
GivesSome words command k = list_any (gives words command k) settings ≡ true

-- which option it gives
abbrev option_at : List (List ℕ) → Command → ℕ → ℕ
option_at words command k = rank (gives words command k) settings

same_place : (place : Option ℕ) (j k : ℕ) → option_map_or (λ p. p == j) place false ≡ true → option_map_or (λ p. p == k) place false ≡ true → j ≡ k
same_place None j k first second = absurd (true≢false (sym first))
same_place (Some p) j k first second = sym (eqb-true p j first) ∙ eqb-true p k second

and_parts : (a b c : Bool) → (a && b && c) ≡ true → b ≡ true
and_parts true true c h = refl
and_parts true false c h = absurd (true≢false (sym h))
and_parts false b c h = absurd (true≢false (sym h))

first_given : (words : List (List ℕ)) (command : Command) (k : ℕ) (setting : Setting) → gives words command k setting ≡ true → is_first words setting k ≡ true
unfolding gives
first_given words command k setting h = and_parts _ _ _ h

-- two words don't give the same option
different : (words : List (List ℕ)) (command : Command) (j k : ℕ) → GivesSome words command j → GivesSome words command k → option_at words command j ≡ option_at words command k → j ≡ k
different words command j k first second same =
    let of_j = (found (gives words command j) settings Gen first).1 in
    let of_k = (found (gives words command k) settings Gen second).1 in
    let P : ℕ → Type 0 = λ r. gives words command k (get_or settings r Gen) ≡ true in
    same_place (place_of words (get_or settings (option_at words command j) Gen)) j k (first_given words command j _ of_j) (first_given words command k _ (subst P (sym same) of_k))

-- the options that the first m words after the third give
abbrev options_of : List (List ℕ) → Command → ℕ → List ℕ
options_of words command zero = []
options_of words command (suc m) = option_at words command (3 + m) ∷ options_of words command m

AllGive : List (List ℕ) → Command → ℕ → Type 0
AllGive words command m = (i : ℕ) → i < m → GivesSome words command (3 + i)

length-options_of : (words : List (List ℕ)) (command : Command) (m : ℕ) → length (options_of words command m) ≡ m
length-options_of words command zero = refl
length-options_of words command (suc m) = ap suc (length-options_of words command m)

apart : (words : List (List ℕ)) (command : Command) (n m : ℕ) → AllGive words command (suc n) → m ≤ n → AllByRecursion (λ y. eqb (option_at words command (3 + n)) y ≡ false) (options_of words command m)
unfolding AllGive
apart words command n zero all h = tt
apart words command n (suc m) all h = (other (eqb_tells _ _), apart words command n m all (omega arith))
  where
    other : ((eqb (option_at words command (3 + n)) (option_at words command (3 + m)) ≡ true) × (option_at words command (3 + n) ≡ option_at words command (3 + m))) ⊎ ((eqb (option_at words command (3 + n)) (option_at words command (3 + m)) ≡ false) × (option_at words command (3 + n) ≢ option_at words command (3 + m))) → eqb (option_at words command (3 + n)) (option_at words command (3 + m)) ≡ false
    other (inl (is, same)) = absurd (n≢m (different words command (3 + n) (3 + m) (all n (omega arith)) (all m (omega arith)) same))
      where
        n≢m : 3 + n ≡ 3 + m → ⊥
        n≢m e = omega arith
    other (inr (isnt, differ)) = isnt

distinct : (words : List (List ℕ)) (command : Command) (m : ℕ) → AllGive words command m → IsDistinct eqb (options_of words command m)
unfolding AllGive IsDistinct
distinct words command zero all = tt
distinct words command (suc m) all =
    (apart words command m m all (omega arith), distinct words command m (λ i h. all i (omega arith)))

below : (words : List (List ℕ)) (command : Command) (m : ℕ) → AllGive words command m → (q : ℕ) → list_any (eqb q) (options_of words command m) ≡ true → q < 13
unfolding AllGive
below words command zero all q h = absurd (true≢false (sym h))
below words command (suc m) all q h =
    elim (cases_Bool (eqb q (option_at words command (3 + m)))) [
      | inl is ↦
          let inside = (found (gives words command (3 + m)) settings Gen (all m (omega arith))).0 in
          let same = eqb-true q _ is in omega arith
      | inr isnt ↦ below words command m (λ i b. all i (omega arith)) q (rw isnt at h)
    ]

few : (words : List (List ℕ)) (command : Command) (m : ℕ) → AllGive words command m → m ≤ 13
few words command m all =
    let n = length-le_from_distinct_below (options_of words command m) 13 (distinct words command m all) (below words command m all) in
    let e = length-options_of words command m in omega arith

-- ---- from the rules

option_rules : (words : List (List ℕ)) (i : ℕ) → refuses_word words (3 + i) ≡ refuses_option words (3 + i)
option_rules words i =
    let a : eqb (3 + i) 0 ≡ false = grind (arith, nat_tests) in
    let b : eqb (3 + i) 1 ≡ false = grind (arith, nat_tests) in
    let d : eqb (3 + i) 2 ≡ false = grind (arith, nat_tests) in
    rw (a, b, d) refl

not_false : (b : Bool) → not b ≡ false → b ≡ true
not_false true h = refl
not_false false h = absurd (true≢false h)

gives_some : (words : List (List ℕ)) (command : Command) (k : ℕ) (named : Option Command) → named ≡ Some command → option_map_or (λ c. is_bad_option words c k || clashes words c k) named true ≡ false → GivesSome words command k
gives_some words command k None is h = absurd (true≢false h)
gives_some words command k (Some c) is h =
    let P : Command → Type 0 = λ x. GivesSome words x k in
    subst P (some_same is) (not_false _ (or_parts _ (clashes words c k) h).0)
  where
    some_same : {c command : Command} → Some c ≡ Some command → c ≡ command
    some_same e = cc

-- at most thirteen options, after three words
few_options : (words : List (List ℕ)) (m : ℕ) (named : Option Command) → command_of words ≡ named → not (is_some named) ≡ false → ((i : ℕ) → i < m → refuses_word words (3 + i) ≡ false) → m ≤ 13
unfolding AllGive
few_options words m None is some all = absurd (true≢false some)
few_options words m (Some command) is some all =
    few words command m (λ i h. gives_some words command (3 + i) (command_of words) is (sym (option_rules words i) ∙ all i h))

pub few_words : (words : List (List ℕ)) (k : ℕ) → ((j : ℕ) → j < k → refuses_word words j ≡ false) → k ≤ 16
few_words words k all =
    elim (cases_Bool (nat_lt k 4)) [
      | inl small ↦ grind (arith, nat_tests)
      | inr large ↦
          let more : 4 ≤ k = grind (arith, nat_tests) in
          let few_more = few_options words (k - 3) (command_of words) refl (all 2 (omega arith)) (λ i h. all (3 + i) (omega arith)) in
          omega arith
    ]

-- words that are accepted name a command
pub names_command : (words : List (List ℕ)) → AreAccepted words → command_of words ≡ None → ⊥
names_command words accepted none =
    elim (cases_Bool (nat_lt 2 (length words))) [
      | inl more ↦
          let is : is_refused words 2 ≡ true = rw (more, none) refl in absurd (true≢false (sym is ∙ accepted 2))
      | inr fewer ↦
          let n : ℕ = length words in
          let a : nat_lt n n ≡ false = grind (arith, nat_tests) in
          let b : eqb n n ≡ true = grind (arith, nat_tests) in
          let d : nat_lt n 3 ≡ true = grind (arith, nat_tests) in
          let is : is_refused words n ≡ true = rw (a, b, d) refl in absurd (true≢false (sym is ∙ accepted n))
    ]
