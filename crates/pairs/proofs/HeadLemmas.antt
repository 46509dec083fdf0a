-- Pairs that are told apart by the prefixes of their keys.
use Rattle.std.proofs.Common.{◌≡◌, ◌∙◌, ◌<◌, ◌≤◌, ℕ, List, Less, Equal, Greater, true, false, length, take, ap, sym}
use Rattle.std.specs.declared.cmp.Ordering.{Ordering}
use Rattle.std.specs.Ordering.{nat_cmp, is_le}
use Rattle.std.proofs.lemmas.List.Elements.{All-take}
use Rattle.peg_text.specs.Pairs.{key_of}
use Rattle.pairs.specs.Pairs.{Pair, pair_of, pair_cmp, pair_before}
use Rattle.pairs.specs.Prefixes.{AreBytes, prefix_of}
use Rattle.pairs.proofs.PrefixLemmas.{decided, key_length}
use Rattle.pairs.specs.Taking.{HasKey, pair_at}

module _ (one other : List ℕ) (key also a b : ℕ) (p q : Pair) (order : Ordering) (has : HasKey one key a) (too : HasKey other also b) (is_p : pair_at one key ≡ p) (is_q : pair_at other also ≡ q) (is : order ≡ nat_cmp a b) where
  answer : (order ≡ Equal → ⊥) → order ≡ pair_cmp p q
  answer differ =
      decided (pair_at one key) (pair_at other also) order has.bytes too.bytes (is ∙ ap (λ (n : ℕ). nat_cmp n b) has.prefix_is ∙ ap (nat_cmp (prefix_of (pair_at one key).0)) too.prefix_is) differ ∙ ap (λ (r : Pair). pair_cmp r (pair_at other also)) is_p ∙ ap (pair_cmp p) is_q

  pub lesser_before : order ≡ Less → true ≡ pair_before p q
  lesser_before less = ap is_le (sym less) ∙ ap is_le (answer (λ same. let clash : Less ≡ Equal = sym less ∙ same in absurd cc))

  pub greater_not_before : order ≡ Greater → false ≡ pair_before p q
  greater_not_before greater = ap is_le (sym greater) ∙ ap is_le (answer (λ same. let clash : Greater ≡ Equal = sym greater ∙ same in absurd cc))

-- a line is cut where its key ends
pub cut_at_key : (line : List ℕ) (key : ℕ) → key ≡ length (key_of line) → pair_at line key ≡ pair_of line
cut_at_key line key is = ap (pair_at line) (is ∙ key_length line)

pub has_key : (line : List ℕ) (key prefix : ℕ) → take key line ≡ key_of line → key ≤ length line → prefix ≡ prefix_of (key_of line) → AreBytes line → HasKey line key prefix
has_key line key prefix is_key inside is_prefix bytes = record {
  inside = inside;
  prefix_is = is_prefix ∙ ap prefix_of (sym is_key);
  bytes = All-take (λ b. b < 256) key line bytes;
}
