-- An edge's entries from the texts of its nodes.
use Rattle.std.proofs.Common.{◌≡◌, ℕ, ◌+◌, ◌*◌, Bool, List, [], ◌∷◌, ◌++◌, length, take, Option, Some, None, option_map, cond, decimal, sym, ap, ◌∙◌, arith}
use Rattle.std.proofs.Math.Seq.{take-append-add}
use Rattle.std.proofs.lemmas.List.{length-append, take_at}
use Rattle.std.proofs.lemmas.Fmt.{decimal_digit}
use Rattle.graph.specs.declared.edges.Edge.{Edge}
use Rattle.gimv_base.specs.BaseRules.{edge_entries}
use Rattle.gimv_base.specs.Lines.{entry_line, entry_text_of, with_lf}
use Rattle.gimv_base.specs.EdgeTexts.{edge_texts, unit_entry, unit_entries}

entry_is : (column row : ℕ) → entry_line column row 1 ≡ unit_entry (decimal column) (decimal row)
entry_is column row = ap (λ (one : List ℕ). with_lf (entry_text_of (decimal column) (decimal row) one)) (decimal_digit 1 (omega arith))

entries_are : (both : Bool) (e : Edge) → edge_entries both e ≡ unit_entries both (decimal e.source) (decimal e.target)
entries_are both e =
    ap (λ (l : List ℕ). l ++ cond both (entry_line e.source e.target 1) []) (entry_is e.target e.source)
    ∙ ap (λ (l : List ℕ). unit_entry (decimal e.target) (decimal e.source) ++ cond both l []) (entry_is e.source e.target)

pub entries_by_texts : (both : Bool) (found : Option Edge) (s t : List ℕ) → Some (s, t) ≡ option_map edge_texts found → option_map (edge_entries both) found ≡ Some (unit_entries both s t)
entries_by_texts both None s t is = cc
entries_by_texts both (Some e) s t is =
    let texts : edge_texts e ≡ (s, t) = cc in
    ap Some (entries_are both e ∙ ap (λ (pair : List ℕ × List ℕ). unit_entries both pair.0 pair.1) texts)

pub length_of_unit_entry : (column row : List ℕ) → length (unit_entry column row) ≡ length column + length row + 6
length_of_unit_entry column row =
    let value = 87 ∷ 32 ∷ (row ++ (32 ∷ 49 ∷ [])) in
    omega (arith, length-append (column ++ (9 ∷ value)) (10 ∷ []), length-append column (9 ∷ value), length-append row (32 ∷ 49 ∷ []))

-- what is written behind some bytes and in front of others
pub written_behind : (front written past : List ℕ) (before size : ℕ) → length front ≡ before → length written ≡ size → take (before + size) (front ++ (written ++ past)) ≡ front ++ written
written_behind front written past before size behind long =
    ap (λ k. take (k + size) (front ++ (written ++ past))) (sym behind)
    ∙ take-append-add front (written ++ past) size
    ∙ ap (λ l. front ++ l) (take_at written past size long)

pub length_of_unit_entries : (source target : List ℕ) → length (unit_entry target source ++ unit_entry source target) ≡ 2 * (length source + length target + 6)
length_of_unit_entries source target =
    omega (arith, length-append (unit_entry target source) (unit_entry source target), length_of_unit_entry target source, length_of_unit_entry source target)
