-- What is copied when one piece more is.
use Rattle.std.proofs.Common.{◌≡◌, ℕ, ◌+◌, ◌-◌, ◌<◌, ◌≤◌, Bool, true, false, ◌&&◌, List, [], ◌∷◌, ◌++◌, length, get_or, take, drop, Option, Some, None, Result, Ok, Err, sym, ap, ◌∙◌, subst, arith, inl, inr, eqb}
use Rattle.std.specs.List.{between, ends_with}
use Rattle.std.specs.Prelude.{not, is_some, unwrap_or, OnOk}
use Rattle.std.specs.Bool.{MatchBool}
use lib.Pointwise.{pointwise}
use Rattle.std.proofs.Math.Seq.{take-add}
use Rattle.std.proofs.lemmas.Bool.{cases_Bool, cases_lt, eqb-true, eqb-false, ne_eqb, not-true, not-false}
use Rattle.std.proofs.lemmas.List.{append_assoc, length-take-le, take_all, take_more, drop_all, drop-drop, drop_more, take-append-drop}
use Rattle.std.proofs.lemmas.List.Edits.{between_more, between_none, get_or-between, length-between}
use Rattle.std.proofs.lemmas.Slice.{between_to_end}
use Rattle.peg_base.specs.Names.{Names, same_path}
use Rattle.peg_base.proofs.Under.{same_path_comm}
use Rattle.dir_disk.specs.State.{Content, Held, State, StandsOutside, bytes_of, after_append, bytes_at}
use Rattle.dir_disk.specs.Keeping.{StandsBut, HasWritten}
use Rattle.dir_disk.specs.Moments.{Told, Through, Both, files}
use Rattle.dir_disk.proofs.Through.{weaker}
use Rattle.dir_disk.specs.Calls.{HasFile, CanAppend}
use Rattle.dir_disk.proofs.Keeping.{not_appended, appended_now, other_path, written_first}
use Rattle.peg_text.specs.Records.{cut_of, records_of}
use Rattle.splits.specs.declared.table.Split.{Split}
use Rattle.splits.specs.declared.copying.Progress.{Progress}
use Rattle.splits.specs.Lines.{lines_text}
use Rattle.splits.specs.Copying.{HasNoLfBetween, IsLineEnd, BeginsAt, IsCopied, IsCopying, HasCopied, begun, is_unended, lines_up_to, lines_between}
use Rattle.splits.proofs.CutLemmas.{whole-append, unended-push}
use Rattle.splits.proofs.LineLemmas.{up_to_all, up_to_lf}
use Rattle.splits.proofs.StartLemmas.{StandsAt, stands_inside, stands_byte, stands_read, stands_whole}

-- ---- LFs that are counted

-- the last byte
pub at_last : (bytes : List ℕ) → 1 ≤ length bytes → bytes ≡ take (length bytes - 1) bytes ++ get_or bytes (length bytes - 1) 0 ∷ []
at_last bytes some =
    let last : length bytes - 1 + 1 ≡ length bytes = omega arith in
    sym (take_all (length bytes) bytes (omega arith)) ∙ ap (λ n. take n bytes) (sym last) ∙ take_more bytes (length bytes - 1) 0 (omega arith)

pub unended-last : (bytes : List ℕ) → 1 ≤ length bytes → is_unended bytes ≡ not (eqb (get_or bytes (length bytes - 1) 0) 10)
unended-last bytes some =
    ap is_unended (at_last bytes some) ∙ unended-push (take (length bytes - 1) bytes) (get_or bytes (length bytes - 1) 0)

one_lf : (b : ℕ) → pointwise eqb (10 ∷ []) (b ∷ []) ≡ eqb b 10
one_lf b =
    elim (cases_Bool (eqb b 10)) [
      | inl is ↦ ap (λ c. pointwise eqb (10 ∷ []) (c ∷ [])) (eqb-true b 10 is) ∙ sym is
      | inr isnt ↦ ap (λ (test : Bool). test && true) (ne_eqb 10 b (λ same. eqb-false b 10 isnt (sym same))) ∙ sym isnt
    ]

-- the test whether bytes end with an LF
pub unended-test : (bytes : List ℕ) (ended : Bool) → 1 ≤ length bytes → ended ≡ ends_with eqb bytes (10 ∷ []) → not ended ≡ is_unended bytes
unended-test bytes ended some is =
    let last : ℕ = length bytes - 1 in
    let next : last + 1 ≡ length bytes = omega arith in
    let rest : drop last bytes ≡ get_or bytes last 0 ∷ [] = drop_more bytes last 0 (omega arith) ∙ ap (λ l. get_or bytes last 0 ∷ l) (drop_all (last + 1) bytes (omega arith)) in
    ap not (is ∙ ap (λ l. pointwise eqb (10 ∷ []) l) rest ∙ one_lf (get_or bytes last 0)) ∙ sym (unended-last bytes some)

pub unended-append : (bytes more : List ℕ) → 1 ≤ length more → is_unended (bytes ++ more) ≡ is_unended more
unended-append bytes more some =
    let front : List ℕ = take (length more - 1) more in
    let last : ℕ = get_or more (length more - 1) 0 in
    ap (λ l. is_unended (bytes ++ l)) (at_last more some) ∙ ap is_unended (sym (append_assoc bytes front (last ∷ []))) ∙ unended-push (bytes ++ front) last ∙ sym (unended-last more some)

-- ---- how far the split's lines go

between_unbroken : (bytes : List ℕ) (from end to : ℕ) → from ≤ end → to ≤ length bytes → HasNoLfBetween bytes end to → HasNoLfBetween (between from to bytes) (end - from) (length (between from to bytes))
between_unbroken bytes from end to ordered inside unbroken k low high there =
    let below : from + k < to = omega (arith, length-between bytes from to inside) in
    unbroken (from + k) (omega arith) below (sym (get_or-between bytes from to k 0 below) ∙ there)

-- up to the end of the file, where no LF stands behind the split's end
pub all_copied : (bytes : List ℕ) (from end to : ℕ) → from ≤ end → to ≡ length bytes → HasNoLfBetween bytes end to → records_of (between from to bytes) ≡ lines_between from end bytes
all_copied bytes from end to ordered whole unbroken =
    let rest : between from to bytes ≡ drop from bytes = between_to_end bytes from to (omega arith) in
    sym (up_to_all (end - from) (between from to bytes) (between_unbroken bytes from end to ordered (omega arith) unbroken)) ∙ ap (lines_up_to (end - from)) rest

-- up to the first LF behind the split's end
pub lf_copied : (bytes : List ℕ) (from end lf : ℕ) → from ≤ end → end ≤ lf → lf < length bytes → get_or bytes lf 0 ≡ 10 → HasNoLfBetween bytes end lf → records_of (between from (lf + 1) bytes) ≡ lines_between from end bytes
lf_copied bytes from end lf ordered behind inside is unbroken =
    let front : List ℕ = between from lf bytes in
    let back : List ℕ = drop (lf + 1) bytes in
    let whole : between from (lf + 1) bytes ≡ front ++ (10 ∷ []) = between_more bytes from lf 0 (omega arith) inside ∙ ap (λ b. front ++ b ∷ []) is in
    let place : from + (lf - from) ≡ lf = omega arith in
    let rest : drop from bytes ≡ front ++ (10 ∷ back) = sym (take-append-drop (lf - from) (drop from bytes)) ∙ ap (λ l. front ++ l) (drop-drop (lf - from) from bytes ∙ ap (λ n. drop n bytes) place ∙ drop_more bytes lf 0 inside ∙ ap (λ b. b ∷ back) is) in
    ap records_of whole ∙ sym (up_to_lf (end - from) front back (between_unbroken bytes from end lf ordered (omega arith) unbroken) (omega (arith, length-between bytes from lf (omega arith)))) ∙ ap (lines_up_to (end - from)) (sym rest)

-- ---- one piece more

pub copied_more : (bytes text part : List ℕ) (old new : Progress) → IsCopied bytes text old → StandsAt bytes part old.place → 1 ≤ length part → new.from ≡ old.from → new.place ≡ old.place + length part → new.lines ≡ old.lines + length (cut_of part).whole → new.unended ≡ is_unended part → IsCopied bytes (text ++ part) new
copied_more bytes text part old new copied stands some from place lines unended =
    let inside : old.place + length part ≤ length bytes = stands_inside bytes part old.place some stands in
    record {
      ordered = omega (arith, copied.ordered);
      inside = omega arith;
      is = grown;
      lines = lines ∙ ap (λ n. n + length (cut_of part).whole) copied.lines ∙ sym (whole-append text part);
      unended = unended ∙ sym (unended-append text part some);
    }
  where
    grown : text ++ part ≡ between new.from new.place bytes
    grown =
        let reach : new.place - new.from ≡ old.place - old.from + length part = omega (arith, copied.ordered) in
        let here : old.from + (old.place - old.from) ≡ old.place = omega (arith, copied.ordered) in
        ap (λ l. l ++ part) copied.is ∙ ap (λ l. between old.from old.place bytes ++ l) (stands.is ∙ ap (λ n. take (length part) (drop n bytes)) (sym here) ∙ ap (take (length part)) (sym (drop-drop (old.place - old.from) old.from bytes))) ∙ sym (take-add (old.place - old.from) (length part) (drop old.from bytes)) ∙ ap (λ n. take n (drop old.from bytes)) (sym reach) ∙ ap (λ n. take (new.place - new.from) (drop n bytes)) (sym from)

-- a piece with no LF behind the split's end
pub unbroken_more : (bytes piece : List ℕ) (end place next : ℕ) → StandsAt bytes piece place → HasNoLfBetween bytes end place → HasNoLfBetween piece (end - place) (length piece) → next ≡ place + length piece → HasNoLfBetween bytes end next
unbroken_more bytes piece end place next stands before within is k low high there =
    elim (cases_lt k place) [
      | inl early ↦ before k low early there
      | inr late ↦
          let at : place + (k - place) ≡ k = omega arith in
          within (k - place) (omega arith) (omega arith) (stands_byte bytes piece place (k - place) stands (omega arith) ∙ ap (λ i. get_or bytes i 0) at ∙ there)
    ]

-- the LF at which the copy ends
pub ends_at : (bytes piece : List ℕ) (from end place stop : ℕ) → StandsAt bytes piece place → from ≤ end → HasNoLfBetween bytes end place → IsLineEnd piece (end - place) (Some stop) → records_of (between from (place + stop) bytes) ≡ lines_between from end bytes
ends_at bytes piece from end place stop stands ordered before ends =
    let first = ends.1 in
    let lf : ℕ = place + (stop - 1) in
    let next : lf + 1 ≡ place + stop = omega (arith, ends.0) in
    let inside : lf < length bytes = omega (arith, first.inside, stands_inside bytes piece place (omega (arith, first.inside)) stands) in
    let unbroken : HasNoLfBetween bytes end lf = λ k low high there.
    elim (cases_lt k place) [
      | inl early ↦ before k low early there
      | inr late ↦
          let at : place + (k - place) ≡ k = omega arith in
          first.unbroken (k - place) (omega arith) (omega arith) (stands_byte bytes piece place (k - place) stands (omega (arith, first.inside)) ∙ ap (λ i. get_or bytes i 0) at ∙ there)
    ] in
    ap (λ n. records_of (between from n bytes)) (sym next) ∙ lf_copied bytes from end lf ordered (omega (arith, first.behind)) inside (sym (stands_byte bytes piece place (stop - 1) stands first.inside) ∙ first.is) unbroken

-- ---- the directory when one piece more is appended

-- how the copy goes on behind these bytes
pub record Passes (part : List ℕ) (old new : Progress) : Type 0 where
  pub from : new.from ≡ old.from
  pub end : new.end ≡ old.end
  pub place : new.place ≡ old.place + length part
  pub lines : new.lines ≡ old.lines + length (cut_of part).whole
  pub unended : new.unended ≡ is_unended part

pub text_more : (out : Names) (part : List ℕ) (s t : State) → t ≡ after_append out part s → bytes_at t out ≡ bytes_at s out ++ part
text_more out part s t is =
    ap (λ (u : State). bytes_of (u out).now) is ∙ ap bytes_of (appended_now out part s)

pub other_same : (path out : Names) (part : List ℕ) (s t : State) → same_path out path ≡ false → t ≡ after_append out part s → t path ≡ s path
other_same path out part s t other is = ap (λ (u : State). u path) is ∙ not_appended out part s path other

pub made_more : (out : Names) (part : List ℕ) (s t : State) → t ≡ after_append out part s → HasFile t out
made_more out part s t is =
    (bytes_of (s out).now ++ part, ap (λ (u : State). (u out).now) is ∙ appended_now out part s)

pub can_more : (out : Names) (part : List ℕ) (s t : State) → CanAppend s out → t ≡ after_append out part s → CanAppend t out
can_more out part s t can is =
    record {
      named = can.named;
      is_open = λ q above other. now_same q (sym (same_path_comm q out) ∙ other) ∙ can.is_open q above other;
      nothing_under = λ q below other. now_same q other ∙ can.nothing_under q below other;
    }
  where
    now_same : (q : Names) → same_path out q ≡ false → (t q).now ≡ (s q).now
    now_same q other = ap (λ (h : Held). h.now) (other_same q out part s t other is)

module _ (path out : Names) (s t : State) (part : List ℕ) (old new : Progress) where
  bytes_same : IsCopying path out s old → t ≡ after_append out part s → bytes_at t path ≡ bytes_at s path
  bytes_same copying is =
      ap (λ (h : Held). bytes_of h.now) (other_same path out part s t copying.other is)

  appended_copied : IsCopying path out s old → t ≡ after_append out part s → StandsAt (bytes_at s path) part old.place → 1 ≤ length part → Passes part old new → IsCopied (bytes_at t path) (bytes_at t out) new
  appended_copied copying is stands some passes =
      subst (λ text. IsCopied (bytes_at t path) text new) (sym (text_more out part s t is)) (subst (λ bytes. IsCopied bytes (bytes_at s out ++ part) new) (sym (bytes_same copying is)) (copied_more (bytes_at s path) (bytes_at s out) part old new copying.copied stands some passes.from passes.place passes.lines passes.unended))

  pub copying_more : IsCopying path out s old → t ≡ after_append out part s → StandsAt (bytes_at s path) part old.place → 1 ≤ length part → Passes part old new → HasNoLfBetween part (old.end - old.place) (length part) → IsCopying path out t new
  copying_more copying is stands some passes within =
      let same = bytes_same copying is in
      record {
        there = (copying.there.0, ap (λ (h : Held). h.now) (other_same path out part s t copying.other is) ∙ copying.there.1);
        other = copying.other;
        made = made_more out part s t is;
        can = can_more out part s t copying.can is;
        ordered = omega (arith, copying.ordered, passes.from, passes.end);
        copied = appended_copied copying is stands some passes;
        unbroken =
            subst (λ bytes. HasNoLfBetween bytes new.end new.place) (sym same) (subst (λ end. HasNoLfBetween (bytes_at s path) end new.place) (sym passes.end) (unbroken_more (bytes_at s path) part old.end old.place new.place stands copying.unbroken within passes.place));
      }

  pub copied_at : (piece : List ℕ) (stop : ℕ) → IsCopying path out s old → t ≡ after_append out part s → StandsAt (bytes_at s path) piece old.place → StandsAt (bytes_at s path) part old.place → length part ≡ stop → Passes part old new → IsLineEnd piece (old.end - old.place) (Some stop) → HasCopied path out t new
  copied_at piece stop copying is whole stands len passes ends =
      let same = bytes_same copying is in
      let copied = appended_copied copying is stands (omega (arith, ends.0)) passes in
      let place : new.place ≡ old.place + stop = passes.place ∙ ap (λ n. old.place + n) len in
      record {
        made = made_more out part s t is;
        can = can_more out part s t copying.can is;
        copied = copied;
        lines =
            ap records_of copied.is ∙ ap (λ n. records_of (between n new.place (bytes_at t path))) passes.from ∙ ap (λ n. records_of (between old.from n (bytes_at t path))) place ∙ ap (λ (b : List ℕ). records_of (between old.from (old.place + stop) b)) same ∙ ends_at (bytes_at s path) piece old.from old.end old.place stop whole copying.ordered copying.unbroken ends ∙ ap (λ (b : List ℕ). lines_between old.from old.end b) (sym same) ∙ ap (λ n. lines_between n old.end (bytes_at t path)) (sym passes.from) ∙ ap (λ n. lines_between new.from n (bytes_at t path)) (sym passes.end);
      }

-- where the file ends, the lines are copied
pub copying_ended : (path out : Names) (s : State) (progress : Progress) → IsCopying path out s progress → length (bytes_at s path) ≤ progress.place → HasCopied path out s progress
copying_ended path out s progress copying ended =
    record {
      made = copying.made;
      can = copying.can;
      copied = copying.copied;
      lines = ap records_of copying.copied.is ∙ all_copied (bytes_at s path) progress.from progress.end progress.place copying.ordered (omega (arith, copying.copied.inside)) copying.unbroken;
    }

-- a piece that was read, up to the line's end if it has one that counts
pub piece_copied : (path out : Names) (s t : State) (piece part : List ℕ) (old new : Progress) (most : ℕ) (end : Option ℕ) (more : Bool) → IsCopying path out s old → piece ≡ take most (drop old.place (bytes_at s path)) → 1 ≤ length piece → IsLineEnd piece (old.end - old.place) end → part ≡ take (unwrap_or end (length piece)) piece → t ≡ after_append out part s → Passes part old new → is_some end ≡ not more → MatchBool more (IsCopying path out t new) (HasCopied path out t new)
piece_copied path out s t piece part old new most None more copying read some none front is passes test =
    let all : part ≡ piece = front ∙ take_all (length piece) piece (omega arith) in
    let stands : StandsAt (bytes_at s path) part old.place = subst (λ l. StandsAt (bytes_at s path) l old.place) (sym all) (stands_whole (bytes_at s path) piece old.place most read) in
    let goes : IsCopying path out t new = copying_more path out s t part old new copying is stands (subst (λ l. 1 ≤ length l) (sym all) some) passes (subst (λ l. HasNoLfBetween l (old.end - old.place) (length l)) (sym all) none) in
    let on : more ≡ true = not-false more (sym test) in
    subst (λ m. MatchBool m (IsCopying path out t new) (HasCopied path out t new)) (sym on) goes
piece_copied path out s t piece part old new most (Some stop) more copying read some ends front is passes test =
    let len : length part ≡ stop = ap length front ∙ length-take-le stop piece (omega (arith, ends.0, ends.1.inside)) in
    let whole : StandsAt (bytes_at s path) piece old.place = stands_whole (bytes_at s path) piece old.place most read in
    let stands : StandsAt (bytes_at s path) part old.place = stands_read (bytes_at s path) piece part old.place most read (front ∙ ap (λ n. take n piece) (sym len)) (omega (arith, ends.0, ends.1.inside)) in
    let done : HasCopied path out t new = copied_at path out s t part old new piece stop copying is whole stands len passes ends in
    let off : more ≡ false = not-true more (sym test) in
    subst (λ m. MatchBool m (IsCopying path out t new) (HasCopied path out t new)) (sym off) done

-- ---- the whole call

-- looks leave all as it was
pub stands_looked : (top : Names) (a b : Told) → Through (Both (λ state. state ≡ files a)) a b → Through (Both (StandsOutside top (files a))) a b
stands_looked top a b =
    weaker (Both (λ state. state ≡ files a)) (Both (StandsOutside top (files a))) a b (λ s t both. (λ q apart. ap (λ (u : State). u q) both.0, λ q apart. ap (λ (u : State). u q) both.1))

-- right after the file was made
pub begun_copying : (path out : Names) (a b : State) (from end : ℕ) → HasFile a path → (a out).now ≡ None → CanAppend a out → b ≡ after_append out [] a → from ≤ end → from ≤ length (bytes_at a path) → IsCopying path out b (begun from end)
begun_copying path out a b from end there none can is ordered inside =
    let other : same_path out path ≡ false = other_path out path there.0 a none there.1 in
    let same : b path ≡ a path = other_same path out [] a b other is in
    let here : bytes_at b path ≡ bytes_at a path = ap (λ (h : Held). bytes_of h.now) same in
    let text : bytes_at b out ≡ [] = text_more out [] a b is ∙ ap (λ (content : Content). bytes_of content ++ []) none in
    record {
      there = (there.0, ap (λ (h : Held). h.now) same ∙ there.1);
      other = other;
      made = made_more out [] a b is;
      can = can_more out [] a b can is;
      ordered = ordered;
      copied = record {
        ordered = omega arith;
        inside = subst (λ (l : List ℕ). from ≤ length l) (sym here) inside;
        is = text ∙ sym (between_none (bytes_at b path) from);
        lines = ap (λ (l : List ℕ). length (cut_of l).whole) (sym text);
        unended = ap is_unended (sym text);
      };
      unbroken = λ k low high there'. absurd (omega arith);
    }

-- a split that has no line
pub none_written : (out : Names) (lines : List (List ℕ)) (a b : State) → (a out).now ≡ None → b ≡ after_append out [] a → lines ≡ [] → HasWritten out (lines_text lines) a b
none_written out lines a b none is empty =
    subst (λ (l : List (List ℕ)). HasWritten out (lines_text l) a b) (sym empty) (written_first out [] a b none is)

-- a split that has lines
pub lines_written : (out : Names) (text : List ℕ) (a b c : State) → b ≡ after_append out [] a → StandsBut out b c → (c out).now ≡ Some text → HasWritten out text a c
lines_written out text a b c is others now =
    record { now = now; others = λ q other. others q other ∙ other_same q out [] a b other is }

pub all_written : {T E : Type 0} (out : Names) (copied lines : List (List ℕ)) (a b c : State) (result : Result T E) → b ≡ after_append out [] a → copied ≡ lines → OnOk result (StandsBut out b c) → OnOk result ((c out).now ≡ Some (lines_text copied)) → OnOk result (HasWritten out (lines_text lines) a c)
all_written out copied lines a b c (Ok value) is same others now =
    lines_written out (lines_text lines) a b c is others (now ∙ ap (λ (l : List (List ℕ)). Some (lines_text l)) same)
all_written out copied lines a b c (Err fault) is same others now = tt

-- the file that is read is as before
pub bytes_looked : (path out : Names) (a b : State) → HasFile a path → (a out).now ≡ None → b ≡ after_append out [] a → bytes_at b path ≡ bytes_at a path
bytes_looked path out a b there none is =
    ap (λ (h : Held). bytes_of h.now) (other_same path out [] a b (other_path out path there.0 a none there.1) is)

pub begins_before : (path out : Names) (a b : State) (split : Split) (found is : Option ℕ) → HasFile a path → (a out).now ≡ None → b ≡ after_append out [] a → found ≡ is → BeginsAt (bytes_at b path) split found → BeginsAt (bytes_at a path) split is
begins_before path out a b split found is there none made same begins =
    subst (λ (f : Option ℕ). BeginsAt (bytes_at a path) split f) same (subst (λ (l : List ℕ). BeginsAt l split found) (bytes_looked path out a b there none made) begins)
