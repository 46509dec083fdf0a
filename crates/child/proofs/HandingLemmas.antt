-- A role, record by record: what is known of it goes on.
use Rattle.std.proofs.Common.{◌≡◌, ◌≢◌, ℕ, ◌+◌, ◌≤◌, false, List, [], ◌∷◌, ◌++◌, Option, Some, None, option_map, length, refl, sym, ap, ◌∙◌, subst, inl, inr, arith, append_assoc, length-append}
use Rattle.std.proofs.lemmas.Bool.{cases_Bool, cases_lt}
use Rattle.std.proofs.lemmas.List.{append-nil, take-append-le, take_all, append_cancel_left}
use Rattle.peg_text.specs.Lists.{GoesOnFrom}
use Rattle.peg_text.specs.Pairs.{key_of}
use Rattle.peg_text.proofs.ListLemmas.{GoesOnFrom-same, GoesOnFrom-by, GoesOnFrom-then}
use Rattle.gimv_base.specs.Parts.{Part, nothing, after}
use Rattle.gimv_base.specs.Rules.{Rule, ByRecord, ByGroup, has_key, role_out, complete}
use Rattle.gimv_base.specs.Standings.{Begun, Standing, fresh, resumed, yet, open_key, goes_on, key_after}
use Rattle.gimv_base.specs.Answers.{Takes, IsBadAt, IsNotBad, Ends, GoesOnWith}
use Rattle.gimv_base.proofs.PartLemmas.{after-after}
use Rattle.child.specs.Judging.{IsBadAmong, AreGood}
use Rattle.child.specs.Handing.{HasHanded, Hands, HandsNoMore, last_key, key_left, complete_out}
use Rattle.child.proofs.GroupLemmas.{last_key-more, complete_groups-same, complete_groups-other}

abbrev Records : Type 0
Records = List (List ℕ)

-- a record behind others
abbrev snoc : Records → List ℕ → Records
snoc rs r = rs ++ (r ∷ [])

snoc_length : (rs : Records) (r : List ℕ) → length (snoc rs r) ≡ length rs + 1
snoc_length rs r = length-append rs (r ∷ [])

some_same : (m n : ℕ) → Some m ≡ Some n → m ≡ n
some_same m n e = cc

none_is : (n : ℕ) → None ≡ Some n → ⊥
none_is n e = cc

-- a role of which no group is open has nothing more to write
nothing_open : (rule : Rule) (begun : Option Begun) → option_map (λ (b : Begun). b.key) begun ≡ None → resumed rule begun [] ≡ nothing
nothing_open (ByRecord text) None none = refl
nothing_open (ByGroup part) None none = refl
nothing_open rule (Some b) none = cc

role_out-none : (rule : Rule) → role_out rule [] ≡ nothing
role_out-none (ByRecord text) = refl
role_out-none (ByGroup part) = refl

complete-none : (rule : Rule) → complete rule [] ≡ []
complete-none (ByRecord text) = refl
complete-none (ByGroup part) = refl

nothing_out : (rule : Rule) → complete_out rule [] ≡ []
nothing_out rule = ap (λ (rs : Records). (role_out rule rs).out) (complete-none rule) ∙ ap (λ (p : Part). p.out) (role_out-none rule)

-- the first bad record is past those before
later_bad : (n line : ℕ) (bad : Option ℕ) → line ≤ n + 1 → option_map (λ k. 1 + k) bad ≢ Some 1 → option_map (λ k. (n + 1) + k) bad ≢ Some line
later_bad n line None low apart = λ e. none_is line e
later_bad n line (Some k) low apart = λ e.
    let at : (n + 1) + k ≡ line = some_same ((n + 1) + k) line e in
    let zero' : k ≡ 0 = omega arith in
    apart (ap (λ (j : ℕ). Some (1 + j)) zero')

module _ (rule : Rule) (records : Records) (before now : Standing) (outs : List ℕ) (r : List ℕ) (h : HasHanded rule records before outs) where
  -- what comes with this record
  next_is : (later : Records) → role_out rule (snoc records r ++ later) ≡ after outs (length records) (yet before (r ∷ later))
  next_is later = ap (role_out rule) (append_assoc records (r ∷ []) later) ∙ h.on (r ∷ later)

  pub refused_here : IsBadAt 1 (yet before) r → IsBadAmong rule (snoc records r) (length records + 1)
  refused_here bad = record {
    inside = omega (arith, snoc_length records r);
    bad = λ later. ap (λ (p : Part). p.bad) (next_is later) ∙ ap (option_map (λ k. length records + k)) (bad later);
  }

  zero_more : Some (length records + 0) ≡ Some (length records)
  zero_more = ap Some (omega arith)

  pub refused_before : IsBadAt 0 (yet before) r → IsBadAmong rule (snoc records r) (length records)
  refused_before bad = record {
    inside = omega (arith, snoc_length records r);
    bad = λ later. ap (λ (p : Part). p.bad) (next_is later) ∙ ap (option_map (λ k. length records + k)) (bad later) ∙ zero_more;
  }

  module _ (old new : List ℕ) (takes : Takes (yet before) (yet now) r old new) where
    abbrev outs' : List ℕ
    outs' = outs ++ takes.added

    on_more : (later : Records) → role_out rule (snoc records r ++ later) ≡ after outs' (length (snoc records r)) (yet now later)
    on_more later =
        next_is later ∙ ap (after outs (length records)) (takes.on later) ∙ after-after outs takes.added (length records) 1 (yet now later)
        ∙ ap (λ n. after outs' n (yet now later)) (sym (snoc_length records r))

    good_more : IsNotBad (yet before) r → AreGood rule (snoc records r)
    good_more good = record {
      later = good.later;
      good = λ line low.
          let few : line ≤ length records + 1 = omega (arith, snoc_length records r) in
          let apart : option_map (λ k. 1 + k) (yet now good.later).bad ≢ Some 1 = λ e. good.good (ap (λ (p : Part). p.bad) (takes.on good.later) ∙ e) in
          let here = next_is good.later ∙ ap (after outs (length records)) (takes.on good.later) ∙ after-after outs takes.added (length records) 1 (yet now good.later) in
          λ e. later_bad (length records) line (yet now good.later).bad few apart (sym (ap (λ (p : Part). p.bad) here) ∙ e);
    }

    -- what is written for the records alone
    alone : (role_out rule records).out ≡ outs ++ (yet before []).out
    alone = ap (λ (rs : Records). (role_out rule rs).out) (sym (append-nil records)) ∙ ap (λ (p : Part). p.out) (h.on [])

    alone_more : (role_out rule (snoc records r)).out ≡ outs' ++ (yet now []).out
    alone_more = ap (λ (rs : Records). (role_out rule rs).out) (sym (append-nil (snoc records r))) ∙ ap (λ (p : Part). p.out) (on_more [])

    by_record_all : (yet now []) ≡ nothing → GoesOnFrom (role_out rule (snoc records r)).out outs'
    by_record_all none = GoesOnFrom-same _ outs' (sym (alone_more ∙ ap (λ (p : Part). outs' ++ p.out) none ∙ append-nil outs'))

    before_written : GoesOnWith (yet before []).out old new → GoesOnFrom (role_out rule records).out outs'
    before_written goes =
        let added_is : takes.added ≡ (yet before []).out ++ goes.more = append_cancel_left old takes.added ((yet before []).out ++ goes.more) (sym takes.grown ∙ goes.is ∙ append_assoc old (yet before []).out goes.more) in
        record {
          more = goes.more;
          is = ap (λ l. outs ++ l) added_is ∙ sym (append_assoc outs (yet before []).out goes.more) ∙ ap (λ l. l ++ goes.more) (sym alone);
        }

    so_far_written : GoesOnFrom (complete_out rule records) outs'
    so_far_written =
        GoesOnFrom-then _ outs outs' (subst (λ (rs : Records). GoesOnFrom (complete_out rule rs) outs) (take_all (length records) records (omega arith)) (h.prompt (length records))) (GoesOnFrom-by outs outs' takes.added refl)

    none_written : (rs : Records) → complete rule rs ≡ [] → GoesOnFrom (complete_out rule rs) outs'
    none_written rs none =
        subst (λ (l : List ℕ). GoesOnFrom l outs') (sym (ap (λ (cs : Records). (role_out rule cs).out) none ∙ ap (λ (p : Part). p.out) (role_out-none rule))) (record { more = outs'; is = refl })

last_some : (s : List ℕ) (rs : Records) → (key : List ℕ) × (last_key (s ∷ rs) ≡ Some key)
last_some s [] = (key_of s, refl)
last_some s (t ∷ rs) = last_some t rs

-- what is complete with this record was written
complete_written : (rule : Rule) (records : Records) (before now : Standing) (outs r : List ℕ) (h : HasHanded rule records before outs) (old new : List ℕ) (takes : Takes (yet before) (yet now) r old new)
    → (goes_on (open_key before) r ≡ false → GoesOnWith (yet before []).out old new) → open_key now ≡ key_after rule r
    → GoesOnFrom (complete_out rule (snoc records r)) (outs ++ takes.added)
complete_written (ByRecord text) records before now outs r h old new takes prompt key =
    by_record_all (ByRecord text) records before now outs r h old new takes (nothing_open now.rule now.begun key)
complete_written (ByGroup part) [] before now outs r h old new takes prompt key =
    none_written (ByGroup part) [] before now outs r h old new takes (r ∷ []) refl
complete_written (ByGroup part) (s ∷ rs) before now outs r h old new takes prompt key =
    let rule : Rule = ByGroup part in
    let last = last_some s rs in
    elim (cases_Bool (has_key last.0 r)) [
      | inl same ↦
          subst (λ (cs : Records). GoesOnFrom (role_out rule cs).out (outs ++ takes.added)) (sym (complete_groups-same (s ∷ rs) r last.0 last.1 same)) (so_far_written rule (s ∷ rs) before now outs r h old new takes)
      | inr other ↦
          let ended : goes_on (open_key before) r ≡ false = ap (λ (k : Option (List ℕ)). goes_on k r) (h.key ∙ last.1) ∙ other in
          subst (λ (cs : Records). GoesOnFrom (role_out rule cs).out (outs ++ takes.added)) (sym (complete_groups-other (s ∷ rs) r last.0 last.1 other)) (before_written rule (s ∷ rs) before now outs r h old new takes (prompt ended))
    ]

key_more : (rule : Rule) (records : Records) (r : List ℕ) → key_after rule r ≡ key_left rule (snoc records r)
key_more (ByRecord text) records r = refl
key_more (ByGroup part) records r = sym (last_key-more records r)

-- a record more
pub HasHanded-more : (rule : Rule) (records : Records) (before now : Standing) (outs r : List ℕ) → HasHanded rule records before outs
    → (old new : List ℕ) (takes : Takes (yet before) (yet now) r old new) → IsNotBad (yet before) r
    → (goes_on (open_key before) r ≡ false → GoesOnWith (yet before []).out old new) → open_key now ≡ key_after before.rule r → now.rule ≡ before.rule
    → HasHanded rule (snoc records r) now (outs ++ takes.added)
HasHanded-more rule records before now outs r h old new takes good prompt key same =
    let key_is : open_key now ≡ key_after rule r = key ∙ ap (λ (u : Rule). key_after u r) h.rule_stays in record {
      on = on_more rule records before now outs r h old new takes;
      prompt = λ k.
          elim (cases_lt (length records) k) [
            | inl past ↦
                subst (λ (rs : Records). GoesOnFrom (complete_out rule rs) (outs ++ takes.added)) (sym (take_all k (snoc records r) (omega (arith, snoc_length records r)))) (complete_written rule records before now outs r h old new takes prompt key_is)
            | inr within ↦
                subst (λ (rs : Records). GoesOnFrom (complete_out rule rs) (outs ++ takes.added)) (sym (take-append-le k records (r ∷ []) within)) (GoesOnFrom-then _ outs _ (h.prompt k) (GoesOnFrom-by outs (outs ++ takes.added) takes.added refl))
          ];
      good = good_more rule records before now outs r h old new takes good;
      key = key_is ∙ key_more rule records r;
      rule_stays = same ∙ h.rule_stays;
    }

-- what the answers of a role say
pub Hands-by : (before now : Standing) (r old new : List ℕ) → Takes (yet before) (yet now) r old new → IsNotBad (yet before) r
    → (goes_on (open_key before) r ≡ false → GoesOnWith (yet before []).out old new) → open_key now ≡ key_after before.rule r → now.rule ≡ before.rule → Hands before now r old new
Hands-by before now r old new takes good prompt key same = record {
  added = takes.added;
  grown = takes.grown;
  on = λ rule records outs h. HasHanded-more rule records before now outs r h old new takes good prompt key same;
}

pub HandsNoMore-by : (before : Standing) (old new : List ℕ) → Ends (yet before []) old new → HandsNoMore before old new
HandsNoMore-by before old new ends = record {
  added = (yet before []).out;
  grown = ends.grown;
  on = λ rule records outs h.
      ap (role_out rule) (sym (append-nil records)) ∙ h.on [] ∙ ap (λ (bad : Option ℕ). record { out = outs ++ (yet before []).out; bad = option_map (λ k. length records + k) bad }) ends.good;
}

pub refused_at_end : (before : Standing) (rule : Rule) (records : Records) (outs : List ℕ) → HasHanded rule records before outs → (yet before []).bad ≡ Some 0 → (role_out rule records).bad ≡ Some (length records)
refused_at_end before rule records outs h bad =
    ap (λ (rs : Records). (role_out rule rs).bad) (sym (append-nil records)) ∙ ap (λ (p : Part). p.bad) (h.on []) ∙ ap (option_map (λ k. length records + k)) bad ∙ ap Some (omega arith)

none_more : (bad : Option ℕ) → bad ≡ option_map (λ k. 0 + k) bad
none_more None = refl
none_more (Some k) = ap Some (omega arith)

none_before : (p : Part) → p ≡ after [] 0 p
none_before p = ap (λ (bad : Option ℕ). record { out = p.out; bad = bad }) (none_more p.bad)

key_none : (rule : Rule) → None ≡ key_left rule []
key_none (ByRecord text) = refl
key_none (ByGroup part) = refl

-- before the first record
pub HasHanded-none : (rule : Rule) → HasHanded rule [] (fresh rule) []
HasHanded-none rule = record {
  on = λ later. none_before (role_out rule later);
  prompt = λ k. subst (λ (rs : Records). GoesOnFrom (complete_out rule rs) []) (sym (take_all k [] (omega arith))) (GoesOnFrom-same (complete_out rule []) [] (sym (nothing_out rule)));
  good = record { later = []; good = λ line low e. none_is line (sym (ap (λ (p : Part). p.bad) (role_out-none rule)) ∙ e) };
  key = key_none rule;
  rule_stays = refl;
}

-- a bad record is bad whatever follows
pub IsBadAmong-more : (rule : Rule) (records more : Records) (line : ℕ) → IsBadAmong rule records line → IsBadAmong rule (records ++ more) line
IsBadAmong-more rule records more line b = record {
  inside = omega (arith, b.inside, length-append records more);
  bad = λ later. ap (λ (rs : Records). (role_out rule rs).bad) (append_assoc records more later) ∙ b.bad (more ++ later);
}
