-- A child, bytes by bytes: what is known of it goes on.
use Rattle.std.proofs.Common.{◌≡◌, ℕ, ◌+◌, ◌-◌, ◌≤◌, ◌<◌, List, [], ◌∷◌, ◌++◌, Result, Ok, Err, OnOk, IfErr, length, take, drop, sym, ap, ◌∙◌, subst, inl, inr, arith, append_assoc, length-append}
use Rattle.std.proofs.lemmas.Bool.{cases_lt}
use Rattle.std.proofs.lemmas.List.{append-nil, take-append-le, take_all, take-append-drop}
use Rattle.std.proofs.Math.Seq.{take-append-add}
use Rattle.peg_text.specs.Records.{Cut, cut_of, unended, records_of, HasNoLf}
use Rattle.peg_text.proofs.RecordLemmas.{cut_of-append}
use Rattle.peg_text.proofs.CursorLemmas.{unended-some}
use Rattle.gimv_base.specs.Parts.{written}
use Rattle.gimv_base.specs.Rules.{Rule, role_out}
use Rattle.gimv_base.specs.Standings.{Standing, fresh}
use Rattle.child.specs.declared.status.ChildStatus.{ChildStatus}
use Rattle.child.specs.declared.status.ChildStatus.TheVariants as Status
use Rattle.child.specs.Judging.{most_bytes, judged_records, IsBadAmong, AreGood}
use Rattle.child.specs.Handing.{HasHanded, Hands, HandsNoMore, IsRefused, IsRefusedLast}
use Rattle.child.specs.Feeding.{Fed, HasFed, Feeds, IsRefusal, RefusesBytes, Finishes, RefusesToFinish}
use Rattle.child.proofs.CutLemmas.{Found, cut_of-record, cut_of-held, whole_piece}
use Rattle.child.proofs.HandingLemmas.{HasHanded-none, IsBadAmong-more}

abbrev Records : Type 0
Records = List (List ℕ)

-- the records among the bytes that are judged stay where further bytes come
pub judged_more : (bytes more : List ℕ) → (rs : Records) × (judged_records (bytes ++ more) ≡ judged_records bytes ++ rs)
judged_more bytes more =
    elim (cases_lt (length bytes) most_bytes) [
      | inl few ↦
          let room : ℕ = most_bytes - length bytes in
          let total : length bytes + room ≡ most_bytes = omega arith in
          let front : take most_bytes (bytes ++ more) ≡ bytes ++ take room more = ap (λ (n : ℕ). take n (bytes ++ more)) (sym total) ∙ take-append-add bytes more room in
          let all : take most_bytes bytes ≡ bytes = take_all most_bytes bytes (omega arith) in (
            (cut_of ((cut_of bytes).rest ++ take room more)).whole,
            ap (λ (bs : List ℕ). (cut_of bs).whole) front ∙ ap (λ (c : Cut). c.whole) (cut_of-append bytes (take room more))
                ∙ ap (λ (bs : List ℕ). (cut_of bs).whole ++ (cut_of ((cut_of bytes).rest ++ take room more)).whole) (sym all),
          )
      | inr many ↦
          ([], ap (λ (bs : List ℕ). (cut_of bs).whole) (take-append-le most_bytes bytes more many) ∙ sym (append-nil (judged_records bytes)))
    ]

-- a refusal stays where further bytes come
pub IsRefusal-more : (rule : Rule) (bytes more : List ℕ) (status : ChildStatus) → IsRefusal rule bytes status → IsRefusal rule (bytes ++ more) status
IsRefusal-more rule bytes more Status.Ok refused = refused
IsRefusal-more rule bytes more Status.Usage refused = refused
IsRefusal-more rule bytes more (Status.BadLine line) refused =
    let judged = judged_more bytes more in
    subst (λ (rs : Records). IsBadAmong rule rs line) (sym judged.1) (IsBadAmong-more rule (judged_records bytes) judged.0 line refused)
IsRefusal-more rule bytes more Status.TooLarge refused = record {
  many = omega (arith, refused.many, length-append bytes more);
  good = subst (λ (bs : List ℕ). AreGood rule (cut_of bs).whole) (sym (take-append-le most_bytes bytes more (omega (arith, refused.many)))) refused.good;
}
IsRefusal-more rule bytes more Status.NoMemory refused = tt
IsRefusal-more rule bytes more Status.Fault refused = refused

-- bytes one after another
pub Feeds-then : (a b c : Fed) (xs ys old mid new : List ℕ) → Feeds a b xs old mid → Feeds b c ys mid new → Feeds a c (xs ++ ys) old new
Feeds-then a b c xs ys old mid new first second = record {
  added = first.added ++ second.added;
  grown = second.grown ∙ ap (λ l. l ++ second.added) first.grown ∙ append_assoc old first.added second.added;
  on = λ rule so_far outs h.
      let both = second.on rule (so_far ++ xs) (outs ++ first.added) (first.on rule so_far outs h) in
      subst (λ (bytes : List ℕ). HasFed rule bytes c (outs ++ (first.added ++ second.added))) (append_assoc so_far xs ys) (subst (λ (l : List ℕ). HasFed rule ((so_far ++ xs) ++ ys) c l) (append_assoc outs first.added second.added) both);
}

pub RefusesBytes-then : (a b : Fed) (xs ys old mid : List ℕ) (status : ChildStatus) → Feeds a b xs old mid → RefusesBytes b ys status → RefusesBytes a (xs ++ ys) status
RefusesBytes-then a b xs ys old mid status first refuses = λ rule so_far outs h.
    subst (λ (bytes : List ℕ). IsRefusal rule bytes status) (append_assoc so_far xs ys) (refuses rule (so_far ++ xs) (outs ++ first.added) (first.on rule so_far outs h))

pub RefusesBytes-more : (a : Fed) (xs ys : List ℕ) (status : ChildStatus) → RefusesBytes a xs status → RefusesBytes a (xs ++ ys) status
RefusesBytes-more a xs ys status refuses = λ rule so_far outs h.
    subst (λ (bytes : List ℕ). IsRefusal rule bytes status) (append_assoc so_far xs ys) (IsRefusal-more rule (so_far ++ xs) ys status (refuses rule so_far outs h))

-- nothing came yet
pub Feeds-none : (a : Fed) (old : List ℕ) → Feeds a a [] old old
Feeds-none a old = record {
  added = [];
  grown = sym (append-nil old);
  on = λ rule so_far outs h. subst (λ (bytes : List ℕ). HasFed rule bytes a (outs ++ [])) (sym (append-nil so_far)) (subst (λ (l : List ℕ). HasFed rule so_far a l) (sym (append-nil outs)) h);
}

-- the next record ended
module _ (before now : Fed) (text : List ℕ) (unbroken : HasNoLf text) where
  pub Feeds-record : (old new : List ℕ) → Hands before.standing now.standing (before.held ++ text) old new → now.held ≡ [] → now.line ≡ before.line + 1 → now.taken ≡ before.taken + (length text + 1)
      → Feeds before now (text ++ (10 ∷ [])) old new
  Feeds-record old new hands none line taken = record {
    added = hands.added;
    grown = hands.grown;
    on = λ rule so_far outs h.
        let cut = cut_of-record so_far text unbroken in
        let handed = hands.on rule (cut_of so_far).whole outs h.handed in
        let these = subst (λ (held : List ℕ). HasHanded rule ((cut_of so_far).whole ++ ((held ++ text) ∷ [])) now.standing (outs ++ hands.added)) h.held handed in
        record {
          handed = subst (λ (c : Cut). HasHanded rule c.whole now.standing (outs ++ hands.added)) (sym cut) these;
          held = none ∙ sym (ap (λ (c : Cut). c.rest) cut);
          line = omega (arith, h.line, ap (λ (c : Cut). length c.whole) cut, length-append (cut_of so_far).whole (((cut_of so_far).rest ++ text) ∷ []));
          taken = omega (arith, h.taken, length-append so_far (text ++ (10 ∷ [])), length-append text (10 ∷ []));
        };
  }

module _ (before : Fed) (text : List ℕ) (unbroken : HasNoLf text) (fits : before.taken + length text < most_bytes) where
  record_is_bad : (rule : Rule) (so_far : List ℕ) (outs : List ℕ) (line : ℕ) → HasFed rule so_far before outs → IsBadAmong rule ((cut_of so_far).whole ++ ((before.held ++ text) ∷ [])) line
      → IsBadAmong rule (judged_records (so_far ++ (text ++ (10 ∷ [])))) line
  record_is_bad rule so_far outs line h bad =
      let bytes : List ℕ = so_far ++ (text ++ (10 ∷ [])) in
      let all : take most_bytes bytes ≡ bytes = take_all most_bytes bytes (omega (arith, h.taken, length-append so_far (text ++ (10 ∷ [])), length-append text (10 ∷ []))) in
      let these = subst (λ (held : List ℕ). IsBadAmong rule ((cut_of so_far).whole ++ ((held ++ text) ∷ [])) line) h.held bad in
      subst (λ (bs : List ℕ). IsBadAmong rule (cut_of bs).whole line) (sym all) (subst (λ (c : Cut). IsBadAmong rule c.whole line) (sym (cut_of-record so_far text unbroken)) these)

  pub RefusesBytes-record : (status : ChildStatus) → IsRefused before.standing before.line (before.held ++ text) status → RefusesBytes before (text ++ (10 ∷ [])) status
  RefusesBytes-record Status.Ok refused = absurd refused
  RefusesBytes-record Status.Usage refused = absurd refused
  RefusesBytes-record (Status.BadLine line) refused = λ rule so_far outs h.
      record_is_bad rule so_far outs line h (refused rule (cut_of so_far).whole outs h.handed (sym h.line))
  RefusesBytes-record Status.TooLarge refused = absurd refused
  RefusesBytes-record Status.NoMemory refused = λ rule so_far outs h. tt
  RefusesBytes-record Status.Fault refused = absurd refused

-- bytes without an LF are held
pub Feeds-held : (before now : Fed) (text out : List ℕ) → HasNoLf text → now.standing ≡ before.standing → now.held ≡ before.held ++ text → now.line ≡ before.line → now.taken ≡ before.taken + length text → Feeds before now text out out
Feeds-held before now text out unbroken standing held line taken = record {
  added = [];
  grown = sym (append-nil out);
  on = λ rule so_far outs h.
      let cut = cut_of-held so_far text unbroken in
      let whole : (cut_of (so_far ++ text)).whole ≡ (cut_of so_far).whole = ap (λ (c : Cut). c.whole) cut ∙ append-nil (cut_of so_far).whole in
      record {
        handed =
            subst (λ (l : List ℕ). HasHanded rule (cut_of (so_far ++ text)).whole now.standing l) (sym (append-nil outs))
            (subst (λ (rs : Records). HasHanded rule rs now.standing outs) (sym whole) (subst (λ (s : Standing). HasHanded rule (cut_of so_far).whole s outs) (sym standing) h.handed));
        held = held ∙ ap (λ l. l ++ text) h.held ∙ sym (ap (λ (c : Cut). c.rest) cut);
        line = line ∙ h.line ∙ ap length (sym whole);
        taken = omega (arith, h.taken, length-append so_far text);
      };
}

-- there is a byte too many
pub RefusesBytes-past : (before now : Fed) (piece old new : List ℕ) → before.taken ≤ most_bytes → most_bytes < before.taken + length piece
    → Feeds before now (take (most_bytes - before.taken) piece) old new → RefusesBytes before piece Status.TooLarge
RefusesBytes-past before now piece old new few past feeds = λ rule so_far outs h.
    let room : ℕ = most_bytes - before.taken in
    let total : length so_far + room ≡ most_bytes = omega (arith, h.taken) in
    let front : take most_bytes (so_far ++ piece) ≡ so_far ++ take room piece = ap (λ (n : ℕ). take n (so_far ++ piece)) (sym total) ∙ take-append-add so_far piece room in
    record {
      many = omega (arith, h.taken, length-append so_far piece);
      good = subst (λ (bs : List ℕ). AreGood rule (cut_of bs).whole) (sym front) (feeds.on rule so_far outs h).handed.good;
    }

-- nothing follows, and nothing is held
module _ (before : Fed) (none : before.held ≡ []) where
  only_whole : (rule : Rule) (so_far outs : List ℕ) → HasFed rule so_far before outs → records_of so_far ≡ (cut_of so_far).whole
  only_whole rule so_far outs h = ap (λ (rest : List ℕ). (cut_of so_far).whole ++ unended rest) (sym h.held ∙ none) ∙ append-nil (cut_of so_far).whole

  pub Finishes-whole : (old new : List ℕ) → HandsNoMore before.standing old new → Finishes before old new
  Finishes-whole old new hands = record {
    added = hands.added;
    grown = hands.grown;
    on = λ rule so_far outs h. ap (role_out rule) (only_whole rule so_far outs h) ∙ hands.on rule (cut_of so_far).whole outs h.handed;
  }

  pub RefusesToFinish-whole : (status : ChildStatus) → IsRefusedLast before.standing before.line status → RefusesToFinish before status
  RefusesToFinish-whole Status.Ok refused = absurd refused
  RefusesToFinish-whole Status.Usage refused = absurd refused
  RefusesToFinish-whole (Status.BadLine line) refused = λ rule so_far outs h.
      ap (λ (rs : Records). (role_out rule rs).bad) (only_whole rule so_far outs h) ∙ refused rule (cut_of so_far).whole outs h.handed (sym h.line)
  RefusesToFinish-whole Status.TooLarge refused = absurd refused
  RefusesToFinish-whole Status.NoMemory refused = λ rule so_far outs h. tt
  RefusesToFinish-whole Status.Fault refused = absurd refused

-- nothing follows, and something is held
module _ (before : Fed) (some : 0 < length before.held) where
  with_last : (rule : Rule) (so_far outs : List ℕ) → HasFed rule so_far before outs → records_of so_far ≡ (cut_of so_far).whole ++ (before.held ∷ [])
  with_last rule so_far outs h = ap (λ (rest : List ℕ). (cut_of so_far).whole ++ unended rest) (sym h.held) ∙ ap (λ (rs : Records). (cut_of so_far).whole ++ rs) (unended-some before.held some)

  pub Finishes-last : (mid : Standing) (old middle new : List ℕ) → Hands before.standing mid before.held old middle → HandsNoMore mid middle new → Finishes before old new
  Finishes-last mid old middle new hands ends = record {
    added = hands.added ++ ends.added;
    grown = ends.grown ∙ ap (λ l. l ++ ends.added) hands.grown ∙ append_assoc old hands.added ends.added;
    on = λ rule so_far outs h.
        ap (role_out rule) (with_last rule so_far outs h) ∙ ends.on rule _ _ (hands.on rule (cut_of so_far).whole outs h.handed) ∙ ap written (append_assoc outs hands.added ends.added);
  }

  pub RefusesToFinish-last : (status : ChildStatus) → IsRefused before.standing before.line before.held status → RefusesToFinish before status
  RefusesToFinish-last Status.Ok refused = absurd refused
  RefusesToFinish-last Status.Usage refused = absurd refused
  RefusesToFinish-last (Status.BadLine line) refused = λ rule so_far outs h.
      let bad = refused rule (cut_of so_far).whole outs h.handed (sym h.line) in
      ap (λ (rs : Records). (role_out rule rs).bad) (with_last rule so_far outs h ∙ sym (append-nil ((cut_of so_far).whole ++ (before.held ∷ [])))) ∙ bad.bad []
  RefusesToFinish-last Status.TooLarge refused = absurd refused
  RefusesToFinish-last Status.NoMemory refused = λ rule so_far outs h. tt
  RefusesToFinish-last Status.Fault refused = absurd refused

  pub RefusesToFinish-after : (mid : Standing) (old middle : List ℕ) (status : ChildStatus) → Hands before.standing mid before.held old middle → IsRefusedLast mid (before.line + 1) status → RefusesToFinish before status
  RefusesToFinish-after mid old middle Status.Ok hands refused = absurd refused
  RefusesToFinish-after mid old middle Status.Usage hands refused = absurd refused
  RefusesToFinish-after mid old middle (Status.BadLine line) hands refused = λ rule so_far outs h.
      let records : Records = (cut_of so_far).whole ++ (before.held ∷ []) in
      let count : length records ≡ before.line + 1 = omega (arith, h.line, length-append (cut_of so_far).whole (before.held ∷ [])) in
      ap (λ (rs : Records). (role_out rule rs).bad) (with_last rule so_far outs h) ∙ refused rule records _ (hands.on rule (cut_of so_far).whole outs h.handed) count
  RefusesToFinish-after mid old middle Status.TooLarge hands refused = absurd refused
  RefusesToFinish-after mid old middle Status.NoMemory hands refused = λ rule so_far outs h. tt
  RefusesToFinish-after mid old middle Status.Fault hands refused = absurd refused

-- the answers of the calls, whatever they are
pub finishes_whole : (before : Fed) (old new : List ℕ) (answer : Result (Unit {0}) ChildStatus) → before.held ≡ [] → OnOk answer (HandsNoMore before.standing old new) → OnOk answer (Finishes before old new)
finishes_whole before old new (Ok u) none hands = Finishes-whole before none old new hands
finishes_whole before old new (Err status) none hands = tt

pub refuses_whole : (before : Fed) (answer : Result (Unit {0}) ChildStatus) → before.held ≡ [] → IfErr answer (IsRefusedLast before.standing before.line) → IfErr answer (RefusesToFinish before)
refuses_whole before (Ok u) none refused = tt
refuses_whole before (Err status) none refused = RefusesToFinish-whole before none status refused

pub finishes_last : (before : Fed) (mid : Standing) (old middle new : List ℕ) (answer : Result (Unit {0}) ChildStatus) → 0 < length before.held → Hands before.standing mid before.held old middle → OnOk answer (HandsNoMore mid middle new) → OnOk answer (Finishes before old new)
finishes_last before mid old middle new (Ok u) some hands ends = Finishes-last before some mid old middle new hands ends
finishes_last before mid old middle new (Err status) some hands ends = tt

pub refuses_last : (before : Fed) (mid : Standing) (old middle : List ℕ) (answer : Result (Unit {0}) ChildStatus) → 0 < length before.held → Hands before.standing mid before.held old middle → IfErr answer (IsRefusedLast mid (before.line + 1)) → IfErr answer (RefusesToFinish before)
refuses_last before mid old middle (Ok u) some hands refused = tt
refuses_last before mid old middle (Err status) some hands refused = RefusesToFinish-after before some mid old middle status hands refused

-- before the first byte
pub HasFed-none : (rule : Rule) (fed : Fed) → fed.standing ≡ fresh rule → fed.held ≡ [] → fed.line ≡ 0 → fed.taken ≡ 0 → HasFed rule [] fed []
HasFed-none rule fed standing held line taken = record {
  handed = subst (λ (s : Standing). HasHanded rule [] s []) (sym standing) (HasHanded-none rule);
  held = held;
  line = line;
  taken = taken;
}

-- a piece, record by record
pub feeds_found : (a b c : Fed) (piece : List ℕ) (start len : ℕ) (text old mid new : List ℕ) → Found piece start len text → Feeds a b (take start piece) old mid → Feeds b c (text ++ (10 ∷ [])) mid new → Feeds a c (take (start + (len + 1)) piece) old new
feeds_found a b c piece start len text old mid new found first second =
    subst (λ (bytes : List ℕ). Feeds a c bytes old new) (sym found.front) (Feeds-then a b c (take start piece) (text ++ (10 ∷ [])) old mid new first second)

pub refuses_found : (a b : Fed) (piece : List ℕ) (start len : ℕ) (text old mid : List ℕ) (status : ChildStatus) → Found piece start len text → Feeds a b (take start piece) old mid → RefusesBytes b (text ++ (10 ∷ [])) status → RefusesBytes a piece status
refuses_found a b piece start len text old mid status found first refuses =
    let front = subst (λ (bytes : List ℕ). RefusesBytes a bytes status) (sym found.front) (RefusesBytes-then a b (take start piece) (text ++ (10 ∷ [])) old mid status first refuses) in
    subst (λ (bytes : List ℕ). RefusesBytes a bytes status) (take-append-drop (start + (len + 1)) piece) (RefusesBytes-more a (take (start + (len + 1)) piece) (drop (start + (len + 1)) piece) status front)

pub feeds_rest : (a b c : Fed) (piece : List ℕ) (start : ℕ) (old new : List ℕ) (answer : Result (Unit {0}) ChildStatus) → Feeds a b (take start piece) old new
    → ((out : List ℕ) → OnOk answer (Feeds b c (take (length piece - start) (drop start piece)) out out)) → OnOk answer (Feeds a c piece old new)
feeds_rest a b c piece start old new (Err status) first held = tt
feeds_rest a b c piece start old new (Ok u) first held =
    subst (λ (bytes : List ℕ). Feeds a c bytes old new) (whole_piece piece start) (Feeds-then a b c (take start piece) (take (length piece - start) (drop start piece)) old new new first (held new))

pub refuses_rest : (a b : Fed) (piece : List ℕ) (start : ℕ) (old new : List ℕ) (answer : Result (Unit {0}) ChildStatus) → Feeds a b (take start piece) old new
    → IfErr answer (RefusesBytes b (take (length piece - start) (drop start piece))) → IfErr answer (RefusesBytes a piece)
refuses_rest a b piece start old new (Ok u) first refuses = tt
refuses_rest a b piece start old new (Err status) first refuses =
    subst (λ (bytes : List ℕ). RefusesBytes a bytes status) (whole_piece piece start) (RefusesBytes-then a b (take start piece) (take (length piece - start) (drop start piece)) old new status first refuses)

-- a refusal of what may still be judged of a piece
pub refuses_within : (a : Fed) (piece : List ℕ) (room : ℕ) (status : ChildStatus) → RefusesBytes a (take room piece) status → RefusesBytes a piece status
refuses_within a piece room status refuses =
    subst (λ (bytes : List ℕ). RefusesBytes a bytes status) (take-append-drop room piece) (RefusesBytes-more a (take room piece) (drop room piece) status refuses)
