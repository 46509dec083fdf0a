-- The lines of a split, by where lines begin.
use Rattle.std.proofs.Common.{◌≡◌, ℕ, suc, ◌+◌, ◌-◌, ◌<◌, ◌≤◌, Bool, true, false, ◌&&◌, ◌||◌, ◌⊎◌, List, [], ◌∷◌, ◌++◌, length, map, refl, sym, ap, ◌∙◌, arith, inl, inr, eqb, ltb, leb}
use Rattle.std.specs.Prelude.{filter}
use Rattle.std.specs.List.{flat_map}
use Rattle.std.proofs.lemmas.Bool.{cases_Bool, cases_lt, cases_eq, cond-true, cond-false, ne_eqb, eq-eqb, lt-ltb, le-ltb, le-leb, lt-leb, and_from, and_left, and_right, or_left, or_right, or_from}
use Rattle.std.proofs.lemmas.List.{nil_from_length}
use Rattle.peg_text.specs.Records.{cut_of, unended, records_of}
use Rattle.peg_text.proofs.RecordLemmas.{lf_parts}
use Rattle.splits.specs.declared.table.Split.{Split}
use Rattle.splits.specs.Table.{splits_of, FollowEachOther}
use Rattle.splits.specs.Lines.{Line, lines_from, belongs, split_lines}
use Rattle.splits.specs.Laws.{EachLineIsInOneSplit, SplitsCoverEachLineOnce}
use Rattle.splits.specs.Copying.{HasNoLfBetween, lines_up_to}
use Rattle.splits.proofs.CutLemmas.{span, length-joined, whole_low}
use Rattle.splits.proofs.TableLemmas.{splits_follow}

-- a line that begins at this place belongs to the split
abbrev pub begins_in : Split → ℕ → Bool
begins_in split begin =
    (ltb split.start begin && leb begin split.end) || (eqb split.start 0 && eqb begin 0)

-- the split's lines among these, of which the first one begins here
abbrev pub kept : Split → ℕ → List (List ℕ) → List (List ℕ)
kept split begin texts = map (λ (line : Line). line.text) (filter (belongs split) (lines_from begin texts))

pub kept_in : (split : Split) (begin : ℕ) (text : List ℕ) (texts : List (List ℕ)) → begins_in split begin ≡ true → kept split begin (text ∷ texts) ≡ text ∷ kept split (begin + length text + 1) texts
kept_in split begin text texts inside =
    ap (λ (lines : List Line). map (λ (line : Line). line.text) lines) (cond-true (begins_in split begin) _ _ inside)

pub kept_out : (split : Split) (begin : ℕ) (text : List ℕ) (texts : List (List ℕ)) → begins_in split begin ≡ false → kept split begin (text ∷ texts) ≡ kept split (begin + length text + 1) texts
kept_out split begin text texts outside =
    ap (λ (lines : List Line). map (λ (line : Line). line.text) lines) (cond-false (begins_in split begin) _ _ outside)

pub kept-append : (split : Split) (begin : ℕ) (front back : List (List ℕ)) → kept split begin (front ++ back) ≡ kept split begin front ++ kept split (begin + span front) back
kept-append split begin [] back = ap (λ b. kept split b back) (omega arith)
kept-append split begin (text ∷ texts) back =
    let next : begin + length text + 1 + span texts ≡ begin + span (text ∷ texts) = omega arith in
    let later = kept-append split (begin + length text + 1) texts back ∙ ap (λ b. kept split (begin + length text + 1) texts ++ kept split b back) next in
    elim (cases_Bool (begins_in split begin)) [
      | inl inside ↦
          kept_in split begin text (texts ++ back) inside ∙ ap (λ l. text ∷ l) later ∙ ap (λ l. l ++ kept split (begin + span (text ∷ texts)) back) (sym (kept_in split begin text texts inside))
      | inr outside ↦
          kept_out split begin text (texts ++ back) outside ∙ later ∙ ap (λ l. l ++ kept split (begin + span (text ∷ texts)) back) (sym (kept_out split begin text texts outside))
    ]

-- ---- where lines begin that belong to a split, and that don't

begins_above : (split : Split) (begin : ℕ) → split.end < begin → begins_in split begin ≡ false
begins_above split begin above =
    or_from _ _ (and_right (ltb split.start begin) (leb begin split.end) (lt-leb begin split.end above)) (and_right (eqb split.start 0) (eqb begin 0) (ne_eqb begin 0 (λ is. omega arith)))

begins_low : (split : Split) (begin : ℕ) → 0 < split.start → begin ≤ split.start → begins_in split begin ≡ false
begins_low split begin some low =
    or_from _ _ (and_left (ltb split.start begin) (leb begin split.end) (le-ltb split.start begin low)) (and_left (eqb split.start 0) (eqb begin 0) (ne_eqb split.start 0 (λ is. omega arith)))

begins_inside : (split : Split) (begin : ℕ) → split.start < begin → begin ≤ split.end → begins_in split begin ≡ true
begins_inside split begin behind inside =
    or_left _ _ (and_from (ltb split.start begin) (leb begin split.end) (lt-ltb split.start begin behind) (le-leb begin split.end inside))

begins_first : (split : Split) (begin : ℕ) → split.start ≡ 0 → begin ≤ split.end → begins_in split begin ≡ true
begins_first split begin first inside =
    elim (cases_eq begin 0) [
      | inl none ↦ or_right _ _ (and_from (eqb split.start 0) (eqb begin 0) (eq-eqb split.start 0 first) (eq-eqb begin 0 none))
      | inr some ↦ begins_inside split begin (omega arith) inside
    ]

pub kept_above : (split : Split) (begin : ℕ) (texts : List (List ℕ)) → split.end < begin → kept split begin texts ≡ []
kept_above split begin [] above = refl
kept_above split begin (text ∷ texts) above =
    kept_out split begin text texts (begins_above split begin above) ∙ kept_above split (begin + length text + 1) texts (omega arith)

pub kept_low : (split : Split) (begin : ℕ) (texts : List (List ℕ)) → 0 < split.start → begin + span texts ≤ split.start → kept split begin texts ≡ []
kept_low split begin [] some low = refl
kept_low split begin (text ∷ texts) some low =
    kept_out split begin text texts (begins_low split begin some (omega arith)) ∙ kept_low split (begin + length text + 1) texts some (omega arith)

pub kept_first : (split : Split) (begin : ℕ) (texts : List (List ℕ)) → split.start ≡ 0 → begin + span texts ≤ split.end → kept split begin texts ≡ texts
kept_first split begin [] first low = refl
kept_first split begin (text ∷ texts) first low =
    kept_in split begin text texts (begins_first split begin first (omega arith)) ∙ ap (λ l. text ∷ l) (kept_first split (begin + length text + 1) texts first (omega arith))

-- what is behind the last LF is at most one line
kept_rest_low : (split : Split) (begin : ℕ) (rest : List ℕ) → 0 < split.start → begin ≤ split.start → kept split begin (unended rest) ≡ []
kept_rest_low split begin [] some low = refl
kept_rest_low split begin (b ∷ rest) some low = kept_out split begin (b ∷ rest) [] (begins_low split begin some low)

kept_rest_first : (split : Split) (begin : ℕ) (rest : List ℕ) → split.start ≡ 0 → begin ≤ split.end → kept split begin (unended rest) ≡ unended rest
kept_rest_first split begin [] first low = refl
kept_rest_first split begin (b ∷ rest) first low = kept_in split begin (b ∷ rest) [] (begins_first split begin first low)

-- ---- a split of bytes

split_lines-is : (split : Split) (bytes : List ℕ) → split_lines split bytes ≡ kept split 0 (records_of bytes)
unfolding split_lines
split_lines-is split bytes = refl

-- a split that begins behind the last LF, or right before it, has no line
pub no_line_behind : (split : Split) (bytes : List ℕ) → 0 < split.start → HasNoLfBetween bytes split.start (length bytes) → split_lines split bytes ≡ []
no_line_behind split bytes some unbroken =
    let low : span (cut_of bytes).whole ≤ split.start = whole_low bytes split.start unbroken in
    split_lines-is split bytes ∙ kept-append split 0 (cut_of bytes).whole (unended (cut_of bytes).rest) ∙ ap (λ l. l ++ kept split (0 + span (cut_of bytes).whole) (unended (cut_of bytes).rest)) (kept_low split 0 (cut_of bytes).whole some (omega arith)) ∙ kept_rest_low split (0 + span (cut_of bytes).whole) (cut_of bytes).rest some (omega arith)

-- the lines of a split begin behind the first LF at or behind its start
behind_lf : (split : Split) (front back : List ℕ) → 0 < split.start → HasNoLfBetween front split.start (length front) → split_lines split (front ++ (10 ∷ back)) ≡ kept split (length front + 1) (records_of back)
behind_lf split front back some unbroken =
    let low : span (cut_of front).whole ≤ split.start = whole_low front split.start unbroken in
    let whole = (cut_of front).whole in
    let rest = (cut_of front).rest in
    let next : 0 + span whole + length rest + 1 ≡ length front + 1 = omega (arith, length-joined front) in
    split_lines-is split (front ++ (10 ∷ back)) ∙ ap (kept split 0) (lf_parts front back) ∙ kept-append split 0 whole (rest ∷ records_of back) ∙ ap (λ l. l ++ kept split (0 + span whole) (rest ∷ records_of back)) (kept_low split 0 whole some (omega arith)) ∙ kept_out split (0 + span whole) rest (records_of back) (begins_low split (0 + span whole) some (omega arith)) ∙ ap (λ b. kept split b (records_of back)) next

pub lines_above : (split : Split) (front back : List ℕ) → 0 < split.start → HasNoLfBetween front split.start (length front) → split.end ≤ length front → split_lines split (front ++ (10 ∷ back)) ≡ []
lines_above split front back some unbroken above =
    behind_lf split front back some unbroken ∙ kept_above split (length front + 1) (records_of back) (omega arith)

abbrev up_to : ℕ → Split
up_to end = record { start = 0; end = end }

-- the same places, counted from one of them
begins_shifted : (split : Split) (from begin : ℕ) → split.start < from → from ≤ split.end → begins_in split (from + begin) ≡ begins_in (up_to (split.end - from)) begin
begins_shifted split from begin behind inside =
    elim (cases_lt split.end (from + begin)) [
      | inl above ↦ begins_above split (from + begin) above ∙ sym (begins_above (up_to (split.end - from)) begin (omega arith))
      | inr low ↦ begins_inside split (from + begin) (omega arith) low ∙ sym (begins_first (up_to (split.end - from)) begin refl (omega arith))
    ]

kept_shifted : (split : Split) (from begin : ℕ) (texts : List (List ℕ)) → split.start < from → from ≤ split.end → kept split (from + begin) texts ≡ kept (up_to (split.end - from)) begin texts
kept_shifted split from begin [] behind inside = refl
kept_shifted split from begin (text ∷ texts) behind inside =
    let same = begins_shifted split from begin behind inside in
    let next : from + begin + length text + 1 ≡ from + (begin + length text + 1) = omega arith in
    let later = ap (λ b. kept split b texts) next ∙ kept_shifted split from (begin + length text + 1) texts behind inside in
    elim (cases_Bool (begins_in split (from + begin))) [
      | inl is ↦
          kept_in split (from + begin) text texts is ∙ ap (λ l. text ∷ l) later ∙ sym (kept_in (up_to (split.end - from)) begin text texts (sym same ∙ is))
      | inr isnt ↦
          kept_out split (from + begin) text texts isnt ∙ later ∙ sym (kept_out (up_to (split.end - from)) begin text texts (sym same ∙ isnt))
    ]

-- a split's lines are those from behind the first LF on
pub lines_from_lf : (split : Split) (front back : List ℕ) → 0 < split.start → split.start ≤ length front → HasNoLfBetween front split.start (length front) → length front < split.end → split_lines split (front ++ (10 ∷ back)) ≡ lines_up_to (split.end - (length front + 1)) back
lines_from_lf split front back some ordered unbroken inside =
    let here : length front + 1 ≡ length front + 1 + 0 = omega arith in
    behind_lf split front back some unbroken ∙ ap (λ b. kept split b (records_of back)) here ∙ kept_shifted split (length front + 1) 0 (records_of back) (omega arith) (omega arith) ∙ sym (split_lines-is (up_to (split.end - (length front + 1))) back)

-- ---- lines up to a place

-- where no LF stands at or behind the place, they are all lines
pub up_to_all : (end : ℕ) (bytes : List ℕ) → HasNoLfBetween bytes end (length bytes) → lines_up_to end bytes ≡ records_of bytes
up_to_all end bytes unbroken =
    let low : span (cut_of bytes).whole ≤ end = whole_low bytes end unbroken in
    split_lines-is (up_to end) bytes ∙ kept-append (up_to end) 0 (cut_of bytes).whole (unended (cut_of bytes).rest) ∙ ap (λ l. l ++ kept (up_to end) (0 + span (cut_of bytes).whole) (unended (cut_of bytes).rest)) (kept_first (up_to end) 0 (cut_of bytes).whole refl (omega arith)) ∙ ap (λ l. (cut_of bytes).whole ++ l) (kept_rest_first (up_to end) (0 + span (cut_of bytes).whole) (cut_of bytes).rest refl (omega arith))

-- else they are those up to the first such LF
pub up_to_lf : (end : ℕ) (front back : List ℕ) → HasNoLfBetween front end (length front) → end ≤ length front → lines_up_to end (front ++ (10 ∷ back)) ≡ records_of (front ++ (10 ∷ []))
up_to_lf end front back unbroken ordered =
    let low : span (cut_of front).whole ≤ end = whole_low front end unbroken in
    let whole = (cut_of front).whole in
    let rest = (cut_of front).rest in
    let next : end < 0 + span whole + length rest + 1 = omega (arith, length-joined front) in
    split_lines-is (up_to end) (front ++ (10 ∷ back)) ∙ ap (kept (up_to end) 0) (lf_parts front back) ∙ kept-append (up_to end) 0 whole (rest ∷ records_of back) ∙ ap (λ l. l ++ kept (up_to end) (0 + span whole) (rest ∷ records_of back)) (kept_first (up_to end) 0 whole refl (omega arith)) ∙ ap (λ l. whole ++ l) (kept_in (up_to end) (0 + span whole) rest (records_of back) (begins_first (up_to end) (0 + span whole) refl (omega arith)) ∙ ap (λ l. rest ∷ l) (kept_above (up_to end) (0 + span whole + length rest + 1) (records_of back) next)) ∙ sym (lf_parts front [])

-- ---- splits that follow each other

-- which of them a line belongs to
begins_joined_low : (split : Split) (middle begin : ℕ) → 0 < middle → middle ≤ split.end → begin ≤ middle → begins_in split begin ≡ begins_in (record { start = split.start; end = middle }) begin
begins_joined_low split middle begin some ordered low =
    ap (λ (test : Bool). (ltb split.start begin && test) || (eqb split.start 0 && eqb begin 0)) (le-leb begin split.end (omega arith) ∙ sym (le-leb begin middle low))

begins_joined_high : (split : Split) (middle begin : ℕ) → split.start ≤ middle → middle < begin → begins_in split begin ≡ begins_in (record { start = middle; end = split.end }) begin
begins_joined_high split middle begin ordered high =
    elim (cases_lt split.end begin) [
      | inl above ↦ begins_above split begin above ∙ sym (begins_above (record { start = middle; end = split.end }) begin above)
      | inr inside ↦ begins_inside split begin (omega arith) inside ∙ sym (begins_inside (record { start = middle; end = split.end }) begin high inside)
    ]

kept_joined_high : (split : Split) (middle begin : ℕ) (texts : List (List ℕ)) → split.start ≤ middle → middle < begin → kept split begin texts ≡ kept (record { start = middle; end = split.end }) begin texts
kept_joined_high split middle begin [] ordered high = refl
kept_joined_high split middle begin (text ∷ texts) ordered high =
    let same = begins_joined_high split middle begin ordered high in
    let later = kept_joined_high split middle (begin + length text + 1) texts ordered (omega arith) in
    elim (cases_Bool (begins_in split begin)) [
      | inl is ↦
          kept_in split begin text texts is ∙ ap (λ l. text ∷ l) later ∙ sym (kept_in (record { start = middle; end = split.end }) begin text texts (sym same ∙ is))
      | inr isnt ↦
          kept_out split begin text texts isnt ∙ later ∙ sym (kept_out (record { start = middle; end = split.end }) begin text texts (sym same ∙ isnt))
    ]

kept_joined : (split : Split) (middle begin : ℕ) (texts : List (List ℕ)) → 0 < middle → split.start ≤ middle → middle ≤ split.end → kept split begin texts ≡ kept (record { start = split.start; end = middle }) begin texts ++ kept (record { start = middle; end = split.end }) begin texts
kept_joined split middle begin [] some ordered inside = refl
kept_joined split middle begin (text ∷ texts) some ordered inside =
    let one : Split = record { start = split.start; end = middle } in
    let other : Split = record { start = middle; end = split.end } in
    let next : ℕ = begin + length text + 1 in
    elim (cases_lt middle begin) [
      | inl high ↦
          kept_joined_high split middle begin (text ∷ texts) ordered high ∙ ap (λ l. l ++ kept other begin (text ∷ texts)) (sym (kept_above one begin (text ∷ texts) high))
      | inr low ↦
          let same = begins_joined_low split middle begin some inside low in
          let later = kept_joined split middle next texts some ordered inside in
          let none : kept other begin (text ∷ texts) ≡ kept other next texts = kept_out other begin text texts (begins_low other begin some low) in
          elim (cases_Bool (begins_in split begin)) [
            | inl is ↦
                kept_in split begin text texts is ∙ ap (λ l. text ∷ l) later ∙ ap (λ l. l ++ kept other next texts) (sym (kept_in one begin text texts (sym same ∙ is))) ∙ ap (λ l. kept one begin (text ∷ texts) ++ l) (sym none)
            | inr isnt ↦
                kept_out split begin text texts isnt ∙ later ∙ ap (λ l. l ++ kept other next texts) (sym (kept_out one begin text texts (sym same ∙ isnt))) ∙ ap (λ l. kept one begin (text ∷ texts) ++ l) (sym none)
          ]
    ]

follow_ordered : (start : ℕ) (splits : List Split) (end : ℕ) → FollowEachOther start splits end → start ≤ end
follow_ordered start [] end follow = omega arith
follow_ordered start (split ∷ splits) end follow = omega (arith, follow.1, follow_ordered split.end splits end follow.2)

kept_none : (place begin : ℕ) (texts : List (List ℕ)) → 0 < place → kept (record { start = place; end = place }) begin texts ≡ []
kept_none place begin [] some = refl
kept_none place begin (text ∷ texts) some =
    let split : Split = record { start = place; end = place } in
    kept_out split begin text texts (none (cases_lt place begin)) ∙ kept_none place (begin + length text + 1) texts some
  where
    none : (place < begin) ⊎ (begin ≤ place) → begins_in (record { start = place; end = place }) begin ≡ false
    none (inl above) = begins_above (record { start = place; end = place }) begin above
    none (inr low) = begins_low (record { start = place; end = place }) begin some low

lines_following : (bytes : List ℕ) (start : ℕ) (splits : List Split) (end : ℕ) → 0 < start → FollowEachOther start splits end → flat_map (λ split. split_lines split bytes) splits ≡ kept (record { start = start; end = end }) 0 (records_of bytes)
lines_following bytes start [] end some follow =
    sym (ap (λ e. kept (record { start = start; end = e }) 0 (records_of bytes)) (sym follow) ∙ kept_none start 0 (records_of bytes) some)
lines_following bytes start (split ∷ splits) end some follow =
    let whole : Split = record { start = start; end = end } in
    let later = lines_following bytes split.end splits end (omega (arith, follow.1)) follow.2 in
    let here : split_lines split bytes ≡ kept (record { start = start; end = split.end }) 0 (records_of bytes) = split_lines-is split bytes ∙ ap (λ s. kept (record { start = s; end = split.end }) 0 (records_of bytes)) follow.0 in
    ap (λ l. l ++ flat_map (λ s. split_lines s bytes) splits) here ∙ ap (λ l. kept (record { start = start; end = split.end }) 0 (records_of bytes) ++ l) later ∙ sym (kept_joined whole split.end 0 (records_of bytes) (omega (arith, follow.1)) (omega (arith, follow.1)) (follow_ordered split.end splits end follow.2))

all_lines : (bytes : List ℕ) → kept (up_to (length bytes)) 0 (records_of bytes) ≡ records_of bytes
all_lines bytes =
    sym (split_lines-is (up_to (length bytes)) bytes) ∙ up_to_all (length bytes) bytes (λ k low high there. omega arith)

pub lines_of_splits : (bytes : List ℕ) (splits : List Split) → FollowEachOther 0 splits (length bytes) → flat_map (λ split. split_lines split bytes) splits ≡ records_of bytes
lines_of_splits bytes [] follow =
    sym (ap records_of (nil_from_length bytes (sym follow)))
lines_of_splits bytes (split ∷ splits) follow =
    let len : ℕ = length bytes in
    let later = lines_following bytes split.end splits len (omega (arith, follow.1)) follow.2 in
    let here : split_lines split bytes ≡ kept (record { start = 0; end = split.end }) 0 (records_of bytes) = split_lines-is split bytes ∙ ap (λ s. kept (record { start = s; end = split.end }) 0 (records_of bytes)) follow.0 in
    ap (λ l. l ++ flat_map (λ s. split_lines s bytes) splits) here ∙ ap (λ l. kept (record { start = 0; end = split.end }) 0 (records_of bytes) ++ l) later ∙ sym (kept_joined (up_to len) split.end 0 (records_of bytes) (omega (arith, follow.1)) (omega arith) (follow_ordered split.end splits len follow.2)) ∙ all_lines bytes

pub splits_cover_each_line_once : SplitsCoverEachLineOnce
splits_cover_each_line_once bytes split some =
    lines_of_splits bytes (splits_of (length bytes) split) (splits_follow (length bytes) split some)

pub split_lines-first : (split : Split) (bytes : List ℕ) → split.start ≡ 0 → split_lines split bytes ≡ lines_up_to split.end bytes
split_lines-first split bytes first =
    ap (λ s. split_lines (record { start = s; end = split.end }) bytes) first

-- ---- one line among splits that follow each other

-- how many of the splits have the line
abbrev splits_with : Line → List Split → ℕ
splits_with line splits = length (filter (λ s. belongs s line) splits)

in_no_later : (line : Line) (start : ℕ) (splits : List Split) (end : ℕ) → 0 < start → line.begin ≤ start → FollowEachOther start splits end → splits_with line splits ≡ 0
in_no_later line start [] end some low follow = refl
in_no_later line start (split ∷ splits) end some low follow =
    ap length (cond-false (begins_in split line.begin) _ _ (begins_low split line.begin (omega (arith, follow.0)) (omega (arith, follow.0)))) ∙ in_no_later line split.end splits end (omega (arith, follow.1)) (omega (arith, follow.1)) follow.2

in_one : (line : Line) (start : ℕ) (splits : List Split) (end : ℕ) → 0 < start → start < line.begin → line.begin ≤ end → FollowEachOther start splits end → splits_with line splits ≡ 1
in_one line start [] end some behind inside follow = absurd (omega (arith, follow))
in_one line start (split ∷ splits) end some behind inside follow =
    elim (cases_lt split.end line.begin) [
      | inl above ↦
          ap length (cond-false (begins_in split line.begin) _ _ (begins_above split line.begin above)) ∙ in_one line split.end splits end (omega (arith, follow.1)) above inside follow.2
      | inr low ↦
          ap length (cond-true (begins_in split line.begin) _ _ (begins_inside split line.begin (omega (arith, follow.0)) low)) ∙ ap suc (in_no_later line split.end splits end (omega (arith, follow.1)) low follow.2)
    ]

in_one_of_all : (line : Line) (splits : List Split) (len : ℕ) → line.begin < len → FollowEachOther 0 splits len → splits_with line splits ≡ 1
in_one_of_all line [] len inside follow = absurd (omega (arith, follow))
in_one_of_all line (split ∷ splits) len inside follow =
    elim (cases_lt split.end line.begin) [
      | inl above ↦
          ap length (cond-false (begins_in split line.begin) _ _ (begins_above split line.begin above)) ∙ in_one line split.end splits len (omega (arith, follow.1)) above (omega arith) follow.2
      | inr low ↦
          ap length (cond-true (begins_in split line.begin) _ _ (begins_first split line.begin follow.0 low)) ∙ ap suc (in_no_later line split.end splits len (omega (arith, follow.1)) low follow.2)
    ]

pub each_line_is_in_one_split : EachLineIsInOneSplit
each_line_is_in_one_split len split line some inside =
    in_one_of_all line (splits_of len split) len inside (splits_follow len split some)
