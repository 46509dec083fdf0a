-- Pairs as the records of a text.
use Rattle.std.proofs.Common.{◌≡◌, refl, sym, ap, ◌∙◌, ℕ, List, [], ◌∷◌, ◌++◌, map, arith}
use Rattle.std.specs.List.{All, flat_map}
use Rattle.std.proofs.lemmas.List.{map-append}
use Rattle.std.proofs.lemmas.List.Elements.{All-cons, All-weaker, All-map, All-append}
use Rattle.peg_text.specs.Pairs.{pair_line}
use Rattle.peg_text.specs.Records.{records_of, HasNoLf}
use Rattle.peg_text.proofs.RecordLemmas.{lines_read_back}
use Rattle.pairs.specs.Pairs.{Pair, IsPlain, pairs_text}
use Rattle.flow_core.specs.Holding.{record_of}
use Rattle.list_laws.proofs.Alls.{all_left, all_right}
use Rattle.list_laws.proofs.Images.{flat_map-flat_map}
use Rattle.std.proofs.lemmas.List.Folds.{flat_map-map}

pub record_unbroken : (p : Pair) → IsPlain p → HasNoLf (record_of p)
record_unbroken p plain = All-append (λ b. b ≡ 10 → ⊥) p.0 (9 ∷ p.1) plain.key_lf (All-cons (λ b. b ≡ 10 → ⊥) 9 p.1 (λ is. absurd (omega (arith, is))) plain.value_lf)

pub records_back : (ps : List Pair) → All IsPlain ps → records_of (pairs_text ps) ≡ map record_of ps
records_back ps plain =
    ap records_of (sym (flat_map-map (λ (line : List ℕ). line ++ (10 ∷ [])) record_of ps)) ∙ lines_read_back (map record_of ps) (All-map HasNoLf record_of ps (All-weaker IsPlain (λ p. HasNoLf (record_of p)) record_unbroken ps plain))

pub all_records : (lists : List (List Pair)) → All IsPlain (flat_map (λ l. l) lists) → flat_map records_of (map pairs_text lists) ≡ map record_of (flat_map (λ l. l) lists)
all_records [] plain = refl
all_records (l ∷ ls) plain =
    ap (λ (rs : List (List ℕ)). rs ++ flat_map records_of (map pairs_text ls)) (records_back l (all_left IsPlain l (flat_map (λ k. k) ls) plain))
    ∙ ap (λ (rs : List (List ℕ)). map record_of l ++ rs) (all_records ls (all_right IsPlain l (flat_map (λ k. k) ls) plain))
    ∙ sym (map-append record_of l (flat_map (λ k. k) ls))

-- texts of pairs, one item after another
pub pairs_text-flat : {I : Type 0} (f : I → List Pair) (is : List I) → flat_map (λ i. pairs_text (f i)) is ≡ pairs_text (flat_map f is)
pairs_text-flat f is = sym (flat_map-flat_map (λ (p : Pair). pair_line p.0 p.1) f is)

pub pairs_text-map : {I : Type 0} (f : I → Pair) (is : List I) → flat_map (λ i. pair_line (f i).0 (f i).1) is ≡ pairs_text (map f is)
pairs_text-map f is = sym (flat_map-map (λ (p : Pair). pair_line p.0 p.1) f is)
