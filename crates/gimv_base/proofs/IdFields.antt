-- The two fields of an edge: digits up to a TAB, and the rest.
use Rattle.std.proofs.Common.{◌≡◌, ◌≢◌, ℕ, ◌+◌, ◌<◌, ◌≤◌, ◌^◌, ◌==◌, inl, inr, Bool, nat_lt, true, false, not, List, [], ◌∷◌, Option, Some, None, length, get_or, take, option_map, option_and_then, refl, sym, ap, ◌∙◌, arith, length-take-le}
use Rattle.std.specs.Char.{is_ascii_digit}
use Rattle.std.specs.List.{list_all, prefix_len, position_or_len}
use Rattle.std.specs.Option.{is_some}
use Rattle.std.specs.Str.Parse.{digits_value}
use Rattle.std.proofs.lemmas.Bool.{cases_Bool, cond-true, true≢false, eqb-true, ne_eqb, lt-ltb, ltb-true, ltb-false}
use Rattle.std.proofs.lemmas.List.{get_or-take, take_all, drop_all}
use Rattle.std.proofs.lemmas.List.Folds.{list_all_at}
use Rattle.std.proofs.lemmas.List.Sums.{prefix_len_passes, prefix_len_stops, prefix_len-le-length, passes_at_first, list_all-from_AllPass}
use Rattle.std.proofs.lemmas.Str.Parse.{digits_value_short}
use Rattle.graph.specs.declared.edges.Edge.{Edge}
use Rattle.peg_text.specs.Decimal.{decimal_of}
use Rattle.peg_text.specs.Pairs.{is_tab, key_of, value_of}
use Rattle.peg_text.proofs.DecimalLemmas.{none_empty, none_not_digits, some_value}
use Rattle.peg_text.proofs.PairLemmas.{HasFirstTab}
use Rattle.gimv_base.specs.Fields.{below, number_below}
use Rattle.gimv_base.specs.Records.{id_of, edge_record_of}
use Rattle.gimv_base.proofs.LeadingZeros.{digit_numerals}

no_id : (text : List ℕ) → decimal_of text ≡ None → id_of text ≡ None
no_id text none = ap (option_and_then (below (2 ^ 32))) none

abbrev edge_to : ℕ → ℕ → Edge
edge_to s t = record { source = s; target = t }

never : {A B : Type 0} (found : Option A) → option_and_then {T = A} {U = B} (λ x. None) found ≡ None
never None = refl
never (Some x) = refl

-- a text of up to nine digits writes an id, if it has any
pub short_digits_write_an_id : (digits : List ℕ) → list_all is_ascii_digit digits ≡ true → length digits ≤ 9 → not (length digits == 0) ≡ is_some (id_of digits)
short_digits_write_an_id [] all few = refl
short_digits_write_an_id (d ∷ ds) all few =
    let small : digits_value 10 (d ∷ ds) < 10 ^ 9 = digits_value_short digit_numerals (d ∷ ds) 9 all few in
    let some = some_value (d ∷ ds) (omega arith) (omega arith) all (omega arith) in
    let is : id_of (d ∷ ds) ≡ Some (digits_value 10 (d ∷ ds)) =
    ap (option_and_then (below (2 ^ 32))) some ∙ cond-true (nat_lt (digits_value 10 (d ∷ ds)) (2 ^ 32)) _ _ (lt-ltb _ _ (omega arith)) in
    ap not (ne_eqb (length (d ∷ ds)) 0 (λ none. absurd (omega arith))) ∙ sym (ap is_some is)

-- the digits that a text begins with
pub first_digits : (text : List ℕ) (end : ℕ) → end ≡ prefix_len is_ascii_digit text → list_all is_ascii_digit (take end text) ≡ true
first_digits text end is =
    let inside = prefix_len-le-length is_ascii_digit text in
    list_all-from_AllPass is_ascii_digit (take end text)
    (λ k d under.
    let within : k < end = omega (arith, length-take-le end text (omega arith)) in
    ap is_ascii_digit (get_or-take end text k d within) ∙ prefix_len_passes is_ascii_digit text k d (omega arith))

-- where they are all of it, it may write an id; where they aren't, it writes none
pub all_digits : (text : List ℕ) → length text ≡ prefix_len is_ascii_digit text → list_all is_ascii_digit text ≡ true
all_digits text is = sym (ap (list_all is_ascii_digit) (take_all (length text) text (omega arith))) ∙ first_digits text (length text) is

pub no_id_with_others : (text : List ℕ) → length text ≢ prefix_len is_ascii_digit text → is_some (id_of text) ≡ false
no_id_with_others text isnt =
    let inside = prefix_len-le-length is_ascii_digit text in
    let apart : prefix_len is_ascii_digit text < length text = omega arith in
    let other = list_all_at is_ascii_digit text (prefix_len is_ascii_digit text) 0 apart (prefix_len_stops is_ascii_digit text 0 apart) in
    ap is_some (no_id text (none_not_digits text other))

module _ (line : List ℕ) where
  abbrev digits_end : ℕ
  digits_end = prefix_len is_ascii_digit line

  -- no digit is a TAB
  pub tab_after_digits : (end : ℕ) → end ≡ prefix_len is_ascii_digit line → end < length line → get_or line end 0 ≡ 9 → HasFirstTab line end
  tab_after_digits end is inside tab = record {
    inside = omega arith;
    before = λ k under there. true≢false (sym (prefix_len_passes is_ascii_digit line k 0 (omega arith)) ∙ ap is_ascii_digit there);
    tab = λ _. tab;
  }

  -- where the first TAB stands further on, the key has something else than digits
  key_has_others : (tab : ℕ) → digits_end < tab → tab ≤ length line → decimal_of (take tab line) ≡ None
  key_has_others tab further inside =
      let other : is_ascii_digit (get_or (take tab line) digits_end 0) ≡ false =
      ap is_ascii_digit (get_or-take tab line digits_end 0 further) ∙ prefix_len_stops is_ascii_digit line 0 (omega arith) in
      none_not_digits (take tab line) (list_all_at is_ascii_digit (take tab line) digits_end 0 (omega (arith, length-take-le tab line inside)) other)

  no_tab_up_to_there : (tab : ℕ) → tab ≤ digits_end → tab < length line → get_or line tab 0 ≡ 9 → (digits_end < length line → get_or line digits_end 0 ≢ 9) → ⊥
  no_tab_up_to_there tab near inside nine other =
      elim (cases_Bool (nat_lt tab digits_end)) [
        | inl before ↦ true≢false (sym (prefix_len_passes is_ascii_digit line tab 0 (ltb-true tab digits_end before)) ∙ ap is_ascii_digit nine)
        | inr not_before ↦
            let least = ltb-false tab digits_end not_before in
            let same : digits_end ≡ tab = omega arith in
            other (omega arith) (ap (λ k. get_or line k 0) same ∙ nine)
      ]

  no_edge_by_key : decimal_of (key_of line) ≡ None → edge_record_of line ≡ None
  no_edge_by_key none = ap (option_and_then (λ s. option_map (edge_to s) (id_of (value_of line)))) (no_id (key_of line) none)

  no_edge_by_value : value_of line ≡ [] → edge_record_of line ≡ None
  no_edge_by_value nothing = rw nothing (never (id_of (key_of line)))

  -- an edge has its first TAB right behind its first digits
  pub no_edge_without_tab : (end : ℕ) → end ≡ prefix_len is_ascii_digit line → (end < length line → get_or line end 0 ≢ 9) → edge_record_of line ≡ None
  no_edge_without_tab end is wants =
      let other : digits_end < length line → get_or line digits_end 0 ≢ 9 = λ inside there. wants (omega arith) (ap (λ k. get_or line k 0) is ∙ there) in
      let tab = position_or_len is_tab line in
      let within : tab ≤ length line = prefix_len-le-length (λ b. not (is_tab b)) line in
      elim (cases_Bool (nat_lt digits_end tab)) [
        | inl further ↦ no_edge_by_key (key_has_others tab (ltb-true digits_end tab further) within)
        | inr near ↦
            elim (cases_Bool (nat_lt tab (length line))) [
              | inl inside ↦
                  let nine : get_or line tab 0 ≡ 9 = eqb-true _ 9 (passes_at_first is_tab line 0 (ltb-true _ _ inside)) in
                  absurd (no_tab_up_to_there tab (ltb-false digits_end tab near) (ltb-true _ _ inside) nine other)
              | inr outside ↦ no_edge_by_value (drop_all (tab + 1) line (let past = ltb-false tab (length line) outside in omega arith))
            ]
      ]
