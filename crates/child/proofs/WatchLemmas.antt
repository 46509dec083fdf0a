-- The record for which bytes aren't taken is one that came with them, or the last one before them.
use Rattle.std.proofs.Common.{◌≡◌, ℕ, zero, suc, ◌+◌, ◌-◌, ◌≤◌, ◌<◌, ◌⊎◌, List, [], ◌∷◌, ◌++◌, Option, Some, None, option_map, length, get_or, take, drop, refl, sym, ap, ◌∙◌, subst, inl, inr, arith, append_assoc, length-append}
use Rattle.std.proofs.lemmas.Bool.{cases_lt}
use Rattle.std.proofs.lemmas.List.{append-nil, take_all, take-append-drop, get_or-append-add, get_or_past}
use Rattle.peg_text.specs.Records.{Cut, cut_of, unended, records_of}
use Rattle.peg_text.proofs.RecordLemmas.{cut_of-append, records_of-append}
use Rattle.gimv_base.specs.Parts.{Part}
use Rattle.gimv_base.specs.Rules.{Rule, role_out}
use Rattle.gimv_base.specs.Standings.{Standing, yet}
use Rattle.child.specs.declared.front.Front.{Front}
use Rattle.child.specs.declared.fronts.Fronts.{Fronts}
use Rattle.child.specs.declared.status.ChildStatus.{ChildStatus}
use Rattle.child.specs.declared.status.ChildStatus.TheVariants as Status
use Rattle.child.specs.Judging.{most_bytes, judged_records}
use Rattle.child.specs.Handing.{HasHanded}
use Rattle.child.specs.Feeding.{Fed, IsCounted, IsRefusal, IsLastRefusal, RefusesBytes, RefusesToFinish}
use Rattle.child.specs.Shown.{AreFronts, IsFrontOf, record_numbered}
use Rattle.child.specs.Watching.{ShowsRefused, ShowsLast}
use Rattle.child.proofs.CutLemmas.{cut_of-record}
use Rattle.child.proofs.FrontLemmas.{record_numbered-within}
use Rattle.child.proofs.FeedingLemmas.{judged_more}

abbrev Records : Type 0
Records = List (List ℕ)

none_is : (n : ℕ) → None ≡ Some n → ⊥
none_is n e = cc

some_same : (m n : ℕ) → Some m ≡ Some n → m ≡ n
some_same m n e = cc

at_least : (n line : ℕ) (bad : Option ℕ) → option_map (λ k. n + k) bad ≡ Some line → n ≤ line
at_least n line None e = absurd (none_is line e)
at_least n line (Some k) e = let at : n + k ≡ line = some_same (n + k) line e in omega arith

-- the first bad record is none of those that were handed in, but for the last
not_before : (rule : Rule) (records later : Records) (standing : Standing) (outs : List ℕ) (line : ℕ) → HasHanded rule records standing outs → (role_out rule (records ++ later)).bad ≡ Some line → length records ≤ line
not_before rule records later standing outs line h bad = at_least (length records) line (yet standing later).bad (sym (ap (λ (p : Part). p.bad) (h.on later)) ∙ bad)

-- the records that are judged come first
judged_first : (bytes : List ℕ) → (rs : Records) × ((cut_of bytes).whole ≡ judged_records bytes ++ rs)
judged_first bytes =
    let front : List ℕ = take most_bytes bytes in (
      (cut_of ((cut_of front).rest ++ drop most_bytes bytes)).whole,
      ap (λ (bs : List ℕ). (cut_of bs).whole) (sym (take-append-drop most_bytes bytes)) ∙ ap (λ (c : Cut). c.whole) (cut_of-append front (drop most_bytes bytes)),
    )

-- what is told of a refusal: the same, or that there was no memory to show it
abbrev pub IsTold : ChildStatus → ChildStatus → Type 0
IsTold status told = (told ≡ status) ⊎ (told ≡ Status.NoMemory)

pub refuses_told : (before : Fed) (piece : List ℕ) (status told : ChildStatus) → IsTold status told → RefusesBytes before piece status → RefusesBytes before piece told
refuses_told before piece status told is refuses =
    elim is [
      | inl same ↦ subst (λ (s : ChildStatus). RefusesBytes before piece s) (sym same) refuses
      | inr none ↦ subst (λ (s : ChildStatus). RefusesBytes before piece s) (sym none) (λ rule bytes outs h. tt)
    ]

pub refuses_last_told : (before : Fed) (status told : ChildStatus) → IsTold status told → RefusesToFinish before status → RefusesToFinish before told
refuses_last_told before status told is refuses =
    elim is [
      | inl same ↦ subst (λ (s : ChildStatus). RefusesToFinish before s) (sym same) refuses
      | inr none ↦ subst (λ (s : ChildStatus). RefusesToFinish before s) (sym none) (λ rule bytes outs h. tt)
    ]

-- what was shown is the front of the record by the cut of all these bytes
abbrev pub ShowsIn : Fronts → ℕ → List ℕ → Front → ChildStatus → Type 0
ShowsIn fronts ended piece front told =
    (line : ℕ) → told ≡ Status.BadLine line → (bytes : List ℕ) → AreFronts bytes fronts → length (cut_of bytes).whole ≡ ended → ended ≤ line
    → IsFrontOf (record_numbered line (cut_of (bytes ++ piece)).whole) front

pub shows_refused : (before : Fed) (fronts : Fronts) (piece : List ℕ) (front : Front) (told : ChildStatus) → IsCounted before → RefusesBytes before piece told → ShowsIn fronts before.line piece front told
    → ShowsRefused before fronts piece front told
shows_refused before fronts piece front told counted refuses shows = λ line e rule bytes outs later h are.
    let ended : Records = (cut_of bytes).whole in
    let bad = subst (λ (s : ChildStatus). IsRefusal rule (bytes ++ piece) s) e (refuses rule bytes outs h) in
    let judged = judged_more bytes piece in
    let all : take most_bytes bytes ≡ bytes = take_all most_bytes bytes (omega (arith, h.taken, counted.few)) in
    let records : judged_records (bytes ++ piece) ++ [] ≡ ended ++ (judged.0 ++ []) =
    ap (λ (rs : Records). rs ++ []) (judged.1 ∙ ap (λ (bs : List ℕ). (cut_of bs).whole ++ judged.0) all) ∙ append_assoc ended judged.0 [] in
    let low = not_before rule ended (judged.0 ++ []) before.standing outs line h.handed (sym (ap (λ (rs : Records). (role_out rule rs).bad) records) ∙ bad.bad []) in
    let first = judged_first (bytes ++ piece) in
    let inside : line ≤ length (cut_of (bytes ++ piece)).whole = omega (arith, bad.inside, ap length first.1, length-append (judged_records (bytes ++ piece)) first.0) in
    let same = ap (record_numbered line) (records_of-append (bytes ++ piece) later) ∙ record_numbered-within line (cut_of (bytes ++ piece)).whole (records_of ((cut_of (bytes ++ piece)).rest ++ later)) inside in
    subst (λ (text : List ℕ). IsFrontOf text front) (sym same) (shows line e bytes are (sym h.line) (omega (arith, h.line, low)))

-- an empty record more, or none
abbrev empty : List ℕ
empty = []

empty_at : (n : ℕ) → get_or (empty ∷ []) n empty ≡ empty
empty_at zero = refl
empty_at (suc n) = get_or_past (empty ∷ []) (suc n) empty (omega arith)

past_all : (records : Records) (line : ℕ) → length records < line → record_numbered line (records ++ []) ≡ record_numbered line (records ++ ([] ∷ []))
past_all records line past =
    let at : line ≡ length ([] ∷ records) + (line - length ([] ∷ records)) = omega arith in
    get_or_past ([] ∷ (records ++ [])) line [] (omega (arith, length-append records []))
    ∙ sym (ap (λ (n : ℕ). record_numbered n (records ++ ([] ∷ []))) at ∙ get_or-append-add ([] ∷ records) ([] ∷ []) (line - length ([] ∷ records)) [] ∙ empty_at (line - length ([] ∷ records)))

with_rest : (records : Records) (rest : List ℕ) (line : ℕ) → record_numbered line (records ++ unended rest) ≡ record_numbered line (records ++ (rest ∷ []))
with_rest records (b ∷ bs) line = refl
with_rest records [] line =
    elim (cases_lt (length records) line) [
      | inl past ↦ past_all records line past
      | inr within ↦ record_numbered-within line records [] within ∙ sym (record_numbered-within line records ([] ∷ []) within)
    ]

-- the records of bytes, numbered, are those that an LF ends where one more follows
all_ended : (bytes : List ℕ) (line : ℕ) → record_numbered line (records_of bytes) ≡ record_numbered line (cut_of (bytes ++ (10 ∷ []))).whole
all_ended bytes line =
    let cut = cut_of bytes in
    with_rest cut.whole cut.rest line ∙ sym (ap (λ (c : Cut). record_numbered line c.whole) (cut_of-record bytes [] (λ k d inside. absurd (omega arith))) ∙ ap (λ (r : List ℕ). record_numbered line (cut.whole ++ (r ∷ []))) (append-nil cut.rest))

pub shows_last : (before : Fed) (fronts : Fronts) (front : Front) (told : ChildStatus) → RefusesToFinish before told → ShowsIn fronts before.line (10 ∷ []) front told → ShowsLast before fronts front told
shows_last before fronts front told refuses shows = λ line e rule bytes outs h are.
    let bad = subst (λ (s : ChildStatus). IsLastRefusal rule bytes s) e (refuses rule bytes outs h) in
    let low = not_before rule (cut_of bytes).whole (unended (cut_of bytes).rest) before.standing outs line h.handed bad in
    subst (λ (text : List ℕ). IsFrontOf text front) (sym (all_ended bytes line)) (shows line e bytes are (sym h.line) (omega (arith, h.line, low)))
