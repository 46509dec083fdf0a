-- Records that are tallied one after another.
use Rattle.std.proofs.Common.{◌≡◌, ◌≢◌, MatchBool, ℕ, ◌+◌, ◌≤◌, Bool, true, false, List, [], ◌∷◌, ◌++◌, length, refl, sym, ap, ◌∙◌, subst, arith}
use Rattle.std.specs.List.{list_all}
use Rattle.std.specs.Bool.{OnTrue, OnFalse}
use Rattle.std.proofs.lemmas.Bool.{false≢true}
use Rattle.std.proofs.lemmas.List.{append-nil, append_assoc, length-append, length_push}
use Rattle.std.proofs.lemmas.List.Folds.{list_all-append}
use Rattle.peg_text.specs.Records.{HasNoLf, BeginsWithRecord, records_of, unended}
use Rattle.peg_text.proofs.RecordLemmas.{records_of-unbroken}
use Rattle.store.specs.Parts.{Record, numbered, IsFirstBad}
use Rattle.store.specs.Tallies.{HasAll, HasTallied}

pub if_found : (found : Bool) (P : Type 0) → found ≡ true → OnTrue found P → P
if_found true P is holds = holds
if_found false P is holds = absurd (false≢true is)

-- a whole record takes at least its LF
pub shorter : (held line rest : List ℕ) → BeginsWithRecord held line rest → length rest + 1 ≤ length held
shorter held line rest begins = omega (arith, ap length begins.whole, length-append line (10 ∷ rest))

numbered-append : (part line : ℕ) (a b : List (List ℕ)) → numbered part line (a ++ b) ≡ numbered part line a ++ numbered part (line + length a) b
numbered-append part line [] b = ap (λ n. numbered part n b) (omega arith)
numbered-append part line (t ∷ a) b =
    ap (λ (l : List Record). let r : Record = record { part = part; line = line; text = t } in r ∷ l) (numbered-append part (line + 1) a b ∙ ap (λ n. numbered part (line + 1) a ++ numbered part n b) (omega arith))

all_more : (is_good : List ℕ → Bool) (done : List (List ℕ)) (text : List ℕ) → list_all is_good done ≡ true → is_good text ≡ true → list_all is_good (done ++ text ∷ []) ≡ true
all_more is_good done text good here = list_all-append is_good done (text ∷ []) ∙ rw (good, here) refl

module _ (is_good : List ℕ → Bool) (old new : List Record → Type 0) (before : List Record) (part : ℕ) (texts : List (List ℕ)) where
  -- one record more
  pub tallied_more : (left rest text : List ℕ) (line next : ℕ) → HasTallied is_good old before part texts left line → records_of left ≡ text ∷ records_of rest → is_good text ≡ true → ((earlier : List Record) → old earlier → new (earlier ++ record { part = part; line = line; text = text } ∷ [])) → next ≡ line + 1 → HasTallied is_good new before part texts rest next
  tallied_more left rest text line next has first good added is =
      let number : 1 + length has.done ≡ line = omega (arith, has.number) in
      let one : List Record = record { part = part; line = line; text = text } ∷ [] in
      let whole : (before ++ numbered part 1 has.done) ++ one ≡ before ++ numbered part 1 (has.done ++ text ∷ []) = append_assoc before (numbered part 1 has.done) one ∙ ap (λ (l : List Record). before ++ l) (ap (λ n. numbered part 1 has.done ++ numbered part n (text ∷ [])) (sym number) ∙ sym (numbered-append part 1 has.done (text ∷ []))) in
      record {
        done = has.done ++ text ∷ [];
        tallied = subst new whole (added (before ++ numbered part 1 has.done) has.tallied);
        parts = has.parts ∙ ap (λ (l : List (List ℕ)). has.done ++ l) first ∙ sym (append_assoc has.done (text ∷ []) (records_of rest));
        good = all_more is_good has.done text has.good good;
        number = omega (arith, has.number, length_push has.done text);
      }

  -- a record that isn't good
  pub tallied_bad : (left text : List ℕ) (rest : List (List ℕ)) (line : ℕ) → HasTallied is_good old before part texts left line → records_of left ≡ text ∷ rest → is_good text ≡ false → IsFirstBad is_good texts line
  tallied_bad left text rest line has first bad =
      record {
        before = has.done;
        text = text;
        after = rest;
        parts = has.parts ∙ ap (λ (l : List (List ℕ)). has.done ++ l) first;
        good = has.good;
        bad = bad;
        number = has.number;
      }

  -- no record is left
  pub tallied_all : (left : List ℕ) (line : ℕ) → HasTallied is_good old before part texts left line → records_of left ≡ [] → HasAll is_good old before part texts
  tallied_all left line has none =
      let all : has.done ≡ texts = sym (has.parts ∙ ap (λ (l : List (List ℕ)). has.done ++ l) none ∙ append-nil has.done) in
      record {
        tallied = subst (λ (l : List (List ℕ)). old (before ++ numbered part 1 l)) all has.tallied;
        good = subst (λ (l : List (List ℕ)). list_all is_good l ≡ true) all has.good;
      }

-- before the first record of a part
pub tallied_none : (is_good : List ℕ → Bool) (tallies : List Record → Type 0) (before : List Record) (part : ℕ) (bytes left : List ℕ) (line : ℕ) → tallies before → left ≡ bytes → line ≡ 1 → HasTallied is_good tallies before part (records_of bytes) left line
tallied_none is_good tallies before part bytes left line so_far same first =
    record {
      done = [];
      tallied = subst tallies (sym (append-nil before)) so_far;
      parts = ap records_of (sym same);
      good = refl;
      number = first;
    }

pub one_record : (held line : List ℕ) → HasNoLf held → line ≡ held → held ≢ [] → records_of held ≡ line ∷ records_of []
one_record held line unbroken is some =
    records_of-unbroken held unbroken ∙ unended_is held some ∙ ap (λ (l : List ℕ). l ∷ []) (sym is)
  where
    unended_is : (bytes : List ℕ) → bytes ≢ [] → unended bytes ≡ bytes ∷ []
    unended_is [] none = absurd (none refl)
    unended_is (b ∷ bs) some = refl

-- the last record
pub tallied_last : (is_good : List ℕ → Bool) (old new : List Record → Type 0) (before : List Record) (part : ℕ) (texts : List (List ℕ)) (held text given : List ℕ) (line : ℕ) (good : Bool) → HasTallied is_good old before part texts held line → records_of held ≡ text ∷ records_of [] → given ≡ text → good ≡ is_good given → OnTrue good ((earlier : List Record) → old earlier → new (earlier ++ record { part = part; line = line; text = given } ∷ [])) → MatchBool good (HasAll is_good new before part texts) (IsFirstBad is_good texts line)
tallied_last is_good old new before part texts held text given line true has first is good added =
    let Added : List ℕ → Type 0 = λ t. (earlier : List Record) → old earlier → new (earlier ++ record { part = part; line = line; text = t } ∷ []) in
    let added' : Added text = subst Added is added in
    tallied_all is_good new new before part texts [] (line + 1) (tallied_more is_good old new before part texts held [] text line (line + 1) has first (ap is_good (sym is) ∙ sym good) added' refl) refl
tallied_last is_good old new before part texts held text given line false has first is good added =
    tallied_bad is_good old old before part texts held text [] line has first (ap is_good (sym is) ∙ sym good)

pub if_none : (found : Bool) (P : Type 0) → found ≡ false → OnFalse found P → P
if_none true P is holds = absurd (false≢true (sym is))
if_none false P is holds = holds

pub tallied_left : (is_good : List ℕ → Bool) (tallies : List Record → Type 0) (before : List Record) (part : ℕ) (texts : List (List ℕ)) (left same : List ℕ) (line : ℕ) → left ≡ same → HasTallied is_good tallies before part texts left line → HasTallied is_good tallies before part texts same line
tallied_left is_good tallies before part texts left same line is has = subst (λ (l : List ℕ). HasTallied is_good tallies before part texts l line) is has
