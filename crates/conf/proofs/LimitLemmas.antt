-- What accepted words mean is within the limits of each setting.
use Rattle.std.proofs.Common.{◌≡◌, ◌≢◌, ℕ, ◌+◌, ◌<◌, ◌≤◌, Bool, true, false, not, ◌||◌, ◌&&◌, List, [], ◌∷◌, Option, Some, None, IfSome, length, take, drop, eqb, nat_lt, refl, sym, ap, ◌∙◌, subst, arith, inl, inr, is_some, unwrap_or, option_map, option_and_then, length-drop}
use Rattle.std.specs.Option.{option_map_or}
use Rattle.std.specs.List.{find}
use Rattle.std.proofs.lemmas.Bool.{cases_Bool, true≢false}
use Rattle.std.proofs.lemmas.Bool.Decides.{nat_tests}
use Rattle.peg_text.specs.Decimal.{decimal_of}
use Rattle.words.specs.Words.{is_word, number_between}
use Rattle.words.specs.Laws.{NumbersAreWithin}
use Rattle.conf.specs.declared.commands.Command.{Command}
use Rattle.conf.specs.declared.commands.Form.{Form}
use Rattle.conf.specs.declared.commands.Form.TheVariants.{Base, Clustered}
use Rattle.conf.specs.declared.settings.Number.{Number}
use Rattle.conf.specs.declared.settings.Number.TheVariants.{Nodes, Reducers, Split, Slots, Spill, BlockLength, Iters, Hops, Seed}
use Rattle.conf.specs.declared.settings.Setting.{Setting}
use Rattle.conf.specs.declared.settings.Setting.TheVariants.{Numeric, Gen, FormName}
use Rattle.conf.specs.Commands.{forms, form_name, form_named, has_form, is_mining}
use Rattle.conf.specs.Settings.{colon_of, default_of, generator_at, generator_in, least_of, most_edges, most_of, number_for}
use Rattle.conf.specs.Options.{is_first, place_from, place_of, value_in, value_of}
use Rattle.conf.specs.Rules.{AreAccepted, clashes, command_of, form_of, has_many_nodes, has_small_limit, is_bad_option, is_clustered, is_refused, most_nodes_at_once, refuses_option, refuses_word}
use Rattle.conf.specs.Meaning.{conf_of, number_of}
use Rattle.conf.specs.Limits.{IsInLimits, IsWithinLimits}
use Rattle.conf.specs.Laws.{MeaningsAreWithinLimits}

some_same : {A : Type 0} {a b : A} → Some a ≡ Some b → a ≡ b
some_same h = cc

none_some : {A B : Type 0} {b : B} → None ≡ Some b → A
none_some h = cc

-- ---- numbers

default_in : (number : Number) → IsInLimits number (default_of number)
default_in Nodes = (omega arith, omega arith)
default_in Reducers = (omega arith, omega arith)
default_in Split = (omega arith, omega arith)
default_in Slots = (omega arith, omega arith)
default_in Spill = (omega arith, omega arith)
default_in BlockLength = (omega arith, omega arith)
default_in Iters = (omega arith, omega arith)
default_in Hops = (omega arith, omega arith)
default_in Seed = (omega arith, omega arith)

read_in : NumbersAreWithin → (number : Number) (text : List ℕ) (read : Option ℕ) → number_for number text ≡ read → IsInLimits number (unwrap_or read (default_of number))
read_in law number text None e = default_in number
read_in law number text (Some n) e =
    let h = (law (least_of number) (most_of number) n text).0 e in (h.1, h.2)

given_in : NumbersAreWithin → (number : Number) (given : Option (List ℕ)) → IsInLimits number (unwrap_or (option_and_then (number_for number) given) (default_of number))
given_in law number None = default_in number
given_in law number (Some text) = read_in law number text (number_for number text) refl

number_in : NumbersAreWithin → (words : List (List ℕ)) (number : Number) → IsInLimits number (number_of words number)
number_in law words number = given_in law number (value_of words (Numeric number))

-- ---- the generator

edges_in : NumbersAreWithin → (text : List ℕ) (seed read : Option ℕ) → number_between 0 most_edges text ≡ read → IfSome {T = ℕ × ℕ} (option_and_then (λ (edges : ℕ). option_map (λ (s : ℕ). (edges, s)) seed) read) (λ g. g.0 ≤ most_edges)
edges_in law text seed None e = tt
edges_in law text None (Some n) e = tt
edges_in law text (Some s) (Some n) e = ((law 0 most_edges n text).0 e).2

colon_in : NumbersAreWithin → (text : List ℕ) (colon : Option ℕ) → IfSome (option_and_then (generator_at text) colon) (λ g. g.0 ≤ most_edges)
colon_in law text None = tt
colon_in law text (Some colon) =
    edges_in law (take colon text) (decimal_of (drop (colon + 1) text)) (number_between 0 most_edges (take colon text)) refl

generator_in_limits : NumbersAreWithin → (given : Option (List ℕ)) → IfSome (option_and_then generator_in given) (λ g. g.0 ≤ most_edges)
generator_in_limits law None = tt
generator_in_limits law (Some text) = colon_in law text (colon_of text)

-- ---- the form

passes : {X : Type 0} (p : X → Bool) (xs : List X) (x : X) → find p xs ≡ Some x → p x ≡ true
passes p [] x e = none_some e
passes p (y ∷ ys) x e =
    elim (cases_Bool (p y)) [
      | inl is ↦ subst (λ z. p z ≡ true) (some_same (rw is at e)) is
      | inr isnt ↦ passes p ys x (rw isnt at e)
    ]

and_right : (a b : Bool) → (a && b) ≡ true → b ≡ true
and_right true b h = h
and_right false b h = absurd (true≢false (sym h))

or_right : (a b : Bool) → b ≡ true → (a || b) ≡ true
or_right true b h = refl
or_right false b h = h

found_in : (command : Command) (text : List ℕ) (found : Option Form) → form_named command text ≡ found → unwrap_or found Base ≢ Base → has_form command (unwrap_or found Base) ≡ true
found_in command text None e differs = absurd (differs refl)
found_in command text (Some form) e differs = and_right (is_word text (form_name form)) _ (passes (λ f. is_word text (form_name f) && has_form command f) forms form e)

form_in : (words : List (List ℕ)) (command : Command) (given : Option (List ℕ)) → value_of words FormName ≡ given → unwrap_or (form_of words command) Base ≢ Base → has_form command (unwrap_or (form_of words command) Base) ≡ true
form_in words command None e = rw e (λ differs. absurd (differs refl))
form_in words command (Some text) e = rw e (found_in command text (form_named command text) refl)

-- ---- the nodes that are held at once

placed : (setting : Setting) (k p : ℕ) (words : List (List ℕ)) → place_from setting k words ≡ Some p → (k ≤ p) × (p < k + length words)
placed setting k p [] e = none_some e
placed setting k p (word ∷ words) e =
    elim (cases_Bool (is_some (value_in setting word))) [
      | inl is ↦ let same : k ≡ p = some_same (rw is at e) in (omega arith, omega arith)
      | inr isnt ↦ let later = placed setting (k + 1) p words (rw isnt at e) in (omega arith, omega arith)
    ]

option_rules : (words : List (List ℕ)) (k : ℕ) → 3 ≤ k → refuses_word words k ≡ refuses_option words k
option_rules words k behind =
    let a : eqb k 0 ≡ false = grind (arith, nat_tests) in
    let b : eqb k 1 ≡ false = grind (arith, nat_tests) in
    let d : eqb k 2 ≡ false = grind (arith, nat_tests) in
    rw (a, b, d) refl

word_rules : (words : List (List ℕ)) (k : ℕ) → k < length words → is_refused words k ≡ refuses_word words k
word_rules words k inside =
    let a : nat_lt k (length words) ≡ true = grind (arith, nat_tests) in rw a refl

middle : (a f s m d : Bool) → f ≡ true → s ≡ true → m ≡ true → (a || (f && s && m) || d) ≡ true
middle true f s m d hf hs hm = refl
middle false f s m d hf hs hm = rw (hf, hs, hm) refl

refused_for : (words : List (List ℕ)) (k : ℕ) (command : Command) (named : Option Command) → named ≡ Some command → clashes words command k ≡ true → option_map_or (λ c. is_bad_option words c k || clashes words c k) named true ≡ true
refused_for words k command None e clash = refl
refused_for words k command (Some c) e clash =
    subst (λ x. (is_bad_option words x k || clashes words x k) ≡ true) (sym (some_same e)) (or_right _ _ clash)

never_many : (words : List (List ℕ)) (command : Command) → AreAccepted words → command_of words ≡ Some command → has_small_limit words command ≡ true → (place : Option ℕ) → place_of words (Numeric Nodes) ≡ place → has_many_nodes words ≡ true → ⊥
never_many words command accepted named small None e many = true≢false (sym (rw e at many))
never_many words command accepted named small (Some k) e many =
    let range = placed (Numeric Nodes) 3 k (drop 3 words) e in
    let inside : k < length words = omega (arith, length-drop 3 words) in
    let self : eqb k k ≡ true = grind (arith, nat_tests) in
    let first : is_first words (Numeric Nodes) k ≡ true = ap (λ (place : Option ℕ). option_map_or (λ p. eqb p k) place false) e ∙ self in
    let clash : clashes words command k ≡ true = middle _ _ _ _ _ first small many in
    true≢false (sym (refused_for words k command (command_of words) named clash) ∙ sym (option_rules words k range.0) ∙ sym (word_rules words k inside) ∙ accepted k)

few_read : (read : Option ℕ) → option_map_or (nat_lt most_nodes_at_once) read false ≡ false → unwrap_or read (default_of Nodes) ≤ most_nodes_at_once
few_read None e = omega arith
few_read (Some n) e = grind (arith, nat_tests)

few_nodes : (words : List (List ℕ)) (command : Command) → AreAccepted words → command_of words ≡ Some command → has_small_limit words command ≡ true → number_of words Nodes ≤ most_nodes_at_once
few_nodes words command accepted named small =
    elim (cases_Bool (has_many_nodes words)) [
      | inl many ↦ absurd (never_many words command accepted named small (place_of words (Numeric Nodes)) refl many)
      | inr few ↦ few_read (option_and_then (number_for Nodes) (value_of words (Numeric Nodes))) few
    ]

small_if_clustered : (command : Command) (form : Option Form) → unwrap_or form Base ≡ Clustered → (not (is_mining command) || option_map_or is_clustered form false) ≡ true
small_if_clustered command None e = cc
small_if_clustered command (Some form) e = or_right _ _ (ap is_clustered e)

-- ---- all settings

within_limits : NumbersAreWithin → (words : List (List ℕ)) (command : Command) → AreAccepted words → command_of words ≡ Some command → IsWithinLimits (conf_of words command)
within_limits law words command accepted named = record {
  nodes = number_in law words Nodes;
  reducers = number_in law words Reducers;
  split = number_in law words Split;
  slots = number_in law words Slots;
  spill = number_in law words Spill;
  block = number_in law words BlockLength;
  iters = number_in law words Iters;
  hops = number_in law words Hops;
  seed = number_in law words Seed;
  generated = generator_in_limits law (value_of words Gen);
  form = form_in words command (value_of words FormName) refl;
  plain = λ is. few_nodes words command accepted named (subst (λ c. has_small_limit words c ≡ true) (sym is) refl);
  clustered = λ is. few_nodes words command accepted named (small_if_clustered command (form_of words command) is);
}

pub meanings_are_within_limits : NumbersAreWithin → MeaningsAreWithinLimits
meanings_are_within_limits law = λ words conf mean. subst IsWithinLimits (sym mean.is) (within_limits law words conf.command mean.accepted mean.command_named)
