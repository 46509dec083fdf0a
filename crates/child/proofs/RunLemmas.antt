-- What is known of a run while the pieces of a source come to a child.
use Rattle.std.proofs.Common.{◌≡◌, ℕ, ◌-◌, ◌≤◌, List, [], ◌++◌, Option, Some, None, IfSome, length, take, drop, refl, sym, ap, ◌∙◌, subst, arith, append_assoc, length-append}
use Rattle.std.proofs.lemmas.List.{append-nil, take-append-le, take_at, take-append-drop}
use Rattle.peg_text.specs.Lists.{GoesOnFrom}
use Rattle.peg_text.specs.Records.{Cut, cut_of, records_of}
use Rattle.peg_text.proofs.RecordLemmas.{cut_of-append, records_of-append}
use Rattle.dir_disk.specs.Streams.{AddsPart, AtEnd, added, onto}
use Rattle.dir_disk.proofs.StreamLemmas.{onto-onto, added-added, onto-nil, added-nil}
use Rattle.gimv_base.specs.Parts.{Part, written}
use Rattle.gimv_base.specs.Rules.{Rule, role_out, complete}
use Rattle.gimv_base.specs.Standings.{yet}
use Rattle.child.specs.declared.status.ChildStatus.{ChildStatus}
use Rattle.child.specs.declared.status.ChildStatus.TheVariants as Status
use Rattle.child.specs.Judging.{most_bytes, judged_records, AreTooMany}
use Rattle.child.specs.Feeding.{Fed, HasFed, Feeds, IsRefusal, Finishes, IsLastRefusal}
use Rattle.child.specs.Child.{WritesAll, IsDone, IsFirstBad, WritesPart, answer_to, piece_length, IsStreamed}
use Rattle.child.specs.declared.front.Front.{Front}
use Rattle.child.specs.declared.fronts.Fronts.{Fronts}
use Rattle.child.specs.Shown.{AreFronts, IsFrontOf, ShowsBad, record_numbered}
use Rattle.child.specs.Watching.{ShowsRefused, ShowsLast}
use Rattle.child.proofs.FeedingLemmas.{IsRefusal-more}

abbrev Records : Type 0
Records = List (List ℕ)

-- all that a source gave came to a child, and all that was certain was written
pub record HasRun (rule : Rule) (left left' before now : Option (List ℕ)) (fed : Fed) : Type 0 where
  pub bytes : List ℕ
  pub given : left ≡ onto bytes left'
  pub outs : List ℕ
  pub state : HasFed rule bytes fed outs
  pub said : now ≡ added before outs

-- what is complete among the first bytes was written
answered : (rule : Rule) (front back : List ℕ) (fed : Fed) (outs : List ℕ) → HasFed rule (front ++ back) fed outs → GoesOnFrom (answer_to rule front) outs
answered rule front back fed outs h =
    let first : Records = (cut_of front).whole in
    let further : Records = (cut_of ((cut_of front).rest ++ back)).whole in
    let whole : (cut_of (front ++ back)).whole ≡ first ++ further = ap (λ (c : Cut). c.whole) (cut_of-append front back) in
    let those : take (length first) (cut_of (front ++ back)).whole ≡ first = ap (take (length first)) whole ∙ take_at first further (length first) refl in
    subst (λ (rs : Records). GoesOnFrom (role_out rule (complete rule rs)).out outs) those (h.handed.prompt (length first))

pub streams : (rule : Rule) (left left' before now : Option (List ℕ)) (bytes last outs more : List ℕ) (fed : Fed) → HasFed rule bytes fed outs → left ≡ onto (bytes ++ last) left' → length last ≤ piece_length → now ≡ added before (outs ++ more)
    → IsStreamed rule left left' before now
streams rule left left' before now bytes last outs more fed h given few said =
    let n : ℕ = length (bytes ++ last) - piece_length in
    let low : n ≤ length bytes = omega (arith, length-append bytes last) in
    let front : take n (bytes ++ last) ≡ take n bytes = take-append-le n bytes last low in
    let goes = answered rule (take n bytes) (drop n bytes) fed outs (subst (λ (bs : List ℕ). HasFed rule bs fed outs) (sym (take-append-drop n bytes)) h) in
    let answer : outs ++ more ≡ answer_to rule (take n (bytes ++ last)) ++ (goes.more ++ more) =
    ap (λ (l : List ℕ). l ++ more) goes.is ∙ append_assoc (answer_to rule (take n bytes)) goes.more more ∙ ap (λ (bs : List ℕ). answer_to rule bs ++ (goes.more ++ more)) (sym front) in
    record {
      bytes = bytes ++ last;
      read = given;
      more = goes.more ++ more;
      is = said ∙ ap (added before) answer;
    }

-- a part of what was certain is a part of all
longer_part : (before now : Option (List ℕ)) (outs tail all : List ℕ) → AddsPart before now outs → all ≡ outs ++ tail → AddsPart before now all
longer_part before now outs tail all part is =
    let front : List ℕ = take part.len outs in
    let split : all ≡ front ++ (drop part.len outs ++ tail) = is ∙ ap (λ (l : List ℕ). l ++ tail) (sym (take-append-drop part.len outs)) ∙ append_assoc front (drop part.len outs) tail in
    record {
      len = length front;
      is = part.is ∙ ap (added before) (sym (ap (take (length front)) split ∙ take_at front (drop part.len outs ++ tail) (length front) refl));
    }

all_part : (before now : Option (List ℕ)) (outs : List ℕ) → now ≡ added before outs → AddsPart before now outs
all_part before now outs said = record { len = length outs; is = said ∙ ap (added before) (sym (ap (take (length outs)) (sym (append-nil outs)) ∙ take_at outs [] (length outs) refl)) }

-- what holds of all that is left, where it is told
on_left : (left left' : Option (List ℕ)) (bytes : List ℕ) (P : List ℕ → Type 0) → left ≡ onto bytes left' → ((rest : List ℕ) → P (bytes ++ rest)) → IfSome left P
on_left left None bytes P given all = subst (λ (l : Option (List ℕ)). IfSome l P) (sym given) tt
on_left left (Some rest) bytes P given all = subst (λ (l : Option (List ℕ)). IfSome l P) (sym given) (all rest)

at_end : (left left' : Option (List ℕ)) (bytes : List ℕ) (P : List ℕ → Type 0) → left ≡ onto bytes left' → AtEnd left' → P bytes → IfSome left P
at_end left None bytes P given end here = subst (λ (l : Option (List ℕ)). IfSome l P) (sym given) tt
at_end left (Some rest) bytes P given end here =
    subst (λ (l : Option (List ℕ)). IfSome l P) (sym given) (subst P (sym (ap (λ (l : List ℕ). bytes ++ l) end ∙ append-nil bytes)) here)

pub writes_part : (rule : Rule) (left left' before now : Option (List ℕ)) (bytes outs : List ℕ) (fed : Fed) → HasFed rule bytes fed outs → left ≡ onto bytes left' → AddsPart before now outs → WritesPart rule left before now
writes_part rule left left' before now bytes outs fed h given part =
    on_left left left' bytes (λ all. AddsPart before now (role_out rule (records_of all)).out) given (λ rest.
    let later : Records = records_of ((cut_of bytes).rest ++ rest) in
    longer_part before now outs (yet fed.standing later).out _ part (ap (λ (rs : Records). (role_out rule rs).out) (records_of-append bytes rest) ∙ ap (λ (p : Part). p.out) (h.handed.on later)))

-- the records that are judged come first
records_of-judged : (bytes : List ℕ) → (later : Records) × (records_of bytes ≡ judged_records bytes ++ later)
records_of-judged bytes =
    let front : List ℕ = take most_bytes bytes in
    (records_of ((cut_of front).rest ++ drop most_bytes bytes), ap records_of (sym (take-append-drop most_bytes bytes)) ∙ records_of-append front (drop most_bytes bytes))

pub refused_bad : (rule : Rule) (left left' : Option (List ℕ)) (bytes : List ℕ) (status : ChildStatus) → left ≡ onto bytes left' → IsRefusal rule bytes status → (line : ℕ) → status ≡ Status.BadLine line → IfSome left (λ all. IsFirstBad rule all line)
refused_bad rule left left' bytes status given refused line e =
    on_left left left' bytes (λ all. IsFirstBad rule all line) given (λ rest.
    let all : List ℕ = bytes ++ rest in
    let bad = subst (λ (s : ChildStatus). IsRefusal rule all s) e (IsRefusal-more rule bytes rest status refused) in
    let records = records_of-judged all in
    record { first = ap (λ (rs : Records). (role_out rule rs).bad) records.1 ∙ bad.bad records.0; early = λ many. bad })

pub refused_large : (rule : Rule) (left left' : Option (List ℕ)) (bytes : List ℕ) (status : ChildStatus) → left ≡ onto bytes left' → IsRefusal rule bytes status → status ≡ Status.TooLarge → IfSome left (AreTooMany rule)
refused_large rule left left' bytes status given refused e =
    on_left left left' bytes (AreTooMany rule) given (λ rest. subst (λ (s : ChildStatus). IsRefusal rule (bytes ++ rest) s) e (IsRefusal-more rule bytes rest status refused))

-- where a record was bad, this is its front
pub shown_bad : (rule : Rule) (left left' : Option (List ℕ)) (before : Fed) (fronts : Fronts) (bytes outs piece : List ℕ) (front : Front) (status : ChildStatus) → HasFed rule bytes before outs → AreFronts bytes fronts → left ≡ onto (bytes ++ piece) left'
    → ShowsRefused before fronts piece front status → ShowsBad status left front
shown_bad rule left left' before fronts bytes outs piece front status h are given shows = λ line e.
    on_left left left' (bytes ++ piece) (λ all. IsFrontOf (record_numbered line (records_of all)) front) given (λ rest. shows line e rule bytes outs rest h are)

pub shown_last : (rule : Rule) (left left' : Option (List ℕ)) (before : Fed) (fronts : Fronts) (bytes outs : List ℕ) (front : Front) (status : ChildStatus) → HasFed rule bytes before outs → AreFronts bytes fronts → left ≡ onto bytes left' → AtEnd left'
    → ShowsLast before fronts front status → ShowsBad status left front
shown_last rule left left' before fronts bytes outs front status h are given end shows = λ line e.
    at_end left left' bytes (λ all. IsFrontOf (record_numbered line (records_of all)) front) given end (shows line e rule bytes outs h are)

-- a refusal is neither of these
pub never_ok : (rule : Rule) (bytes : List ℕ) (status : ChildStatus) → IsRefusal rule bytes status → status ≡ Status.Ok → ⊥
never_ok rule bytes status refused e = subst (λ (s : ChildStatus). IsRefusal rule bytes s) e refused

pub never_usage : (rule : Rule) (bytes : List ℕ) (status : ChildStatus) → IsRefusal rule bytes status → status ≡ Status.Usage → ⊥
never_usage rule bytes status refused e = subst (λ (s : ChildStatus). IsRefusal rule bytes s) e refused

pub never_fault : (rule : Rule) (bytes : List ℕ) (status : ChildStatus) → IsRefusal rule bytes status → status ≡ Status.Fault → ⊥
never_fault rule bytes status refused e = subst (λ (s : ChildStatus). IsRefusal rule bytes s) e refused

pub last_never_ok : (rule : Rule) (bytes : List ℕ) (status : ChildStatus) → IsLastRefusal rule bytes status → status ≡ Status.Ok → ⊥
last_never_ok rule bytes status refused e = subst (λ (s : ChildStatus). IsLastRefusal rule bytes s) e refused

pub last_never_usage : (rule : Rule) (bytes : List ℕ) (status : ChildStatus) → IsLastRefusal rule bytes status → status ≡ Status.Usage → ⊥
last_never_usage rule bytes status refused e = subst (λ (s : ChildStatus). IsLastRefusal rule bytes s) e refused

pub last_never_fault : (rule : Rule) (bytes : List ℕ) (status : ChildStatus) → IsLastRefusal rule bytes status → status ≡ Status.Fault → ⊥
last_never_fault rule bytes status refused e = subst (λ (s : ChildStatus). IsLastRefusal rule bytes s) e refused

pub last_never_large : (rule : Rule) (bytes : List ℕ) (status : ChildStatus) → IsLastRefusal rule bytes status → status ≡ Status.TooLarge → ⊥
last_never_large rule bytes status refused e = subst (λ (s : ChildStatus). IsLastRefusal rule bytes s) e refused

pub last_bad : (rule : Rule) (left left' : Option (List ℕ)) (bytes : List ℕ) (status : ChildStatus) → left ≡ onto bytes left' → AtEnd left' → length bytes ≤ most_bytes → IsLastRefusal rule bytes status → (line : ℕ) → status ≡ Status.BadLine line → IfSome left (λ all. IsFirstBad rule all line)
last_bad rule left left' bytes status given end few refused line e =
    at_end left left' bytes (λ all. IsFirstBad rule all line) given end
    (record { first = subst (λ (s : ChildStatus). IsLastRefusal rule bytes s) e refused; early = λ many. absurd (omega arith) })

pub is_done : (rule : Rule) (left left' before now : Option (List ℕ)) (bytes outs : List ℕ) → left ≡ onto bytes left' → AtEnd left' → length bytes ≤ most_bytes → role_out rule (records_of bytes) ≡ written outs → now ≡ added before outs → IsDone rule left left' before now
is_done rule left left' before now bytes outs given end few out said = record {
  read = end;
  all = at_end left left' bytes (λ all. WritesAll rule all before now) given end (record {
    good = ap (λ (p : Part). p.bad) out;
    few = few;
    is = said ∙ ap (added before) (sym (ap (λ (p : Part). p.out) out));
  });
}

-- a piece more
abbrev pub HasRun-more : (rule : Rule) (left mid left' before now now' : Option (List ℕ)) (a b : Fed) (piece out : List ℕ) → HasRun rule left mid before now a → mid ≡ onto piece left' → Feeds a b piece [] out → now' ≡ added now out → HasRun rule left left' before now' b
HasRun-more rule left mid left' before now now' a b piece out run given feeds said = record {
  bytes = run.bytes ++ piece;
  given = run.given ∙ ap (onto run.bytes) given ∙ onto-onto run.bytes piece left';
  outs = run.outs ++ feeds.added;
  state = feeds.on rule run.bytes run.outs run.state;
  said = said ∙ ap (added now) feeds.grown ∙ ap (λ (n : Option (List ℕ)). added n feeds.added) run.said ∙ added-added before run.outs feeds.added;
}

abbrev pub HasRun-none : (rule : Rule) (left before : Option (List ℕ)) (fed : Fed) → HasFed rule [] fed [] → HasRun rule left left before before fed
HasRun-none rule left before fed state = record {
  bytes = [];
  given = sym (onto-nil left);
  outs = [];
  state = state;
  said = sym (added-nil before);
}

-- the source has what it had
pub HasRun-same : (rule : Rule) (left mid left' before now : Option (List ℕ)) (fed : Fed) → HasRun rule left mid before now fed → left' ≡ mid → HasRun rule left left' before now fed
HasRun-same rule left mid left' before now fed run same = subst (λ (l : Option (List ℕ)). HasRun rule left l before now fed) (sym same) run

module _ (rule : Rule) (left left' before now : Option (List ℕ)) (fed : Fed) (run : HasRun rule left left' before now fed) where
  pub part_of : WritesPart rule left before now
  part_of = writes_part rule left left' before now run.bytes run.outs fed run.state run.given (all_part before now run.outs run.said)

  pub stream_of : IsStreamed rule left left' before now
  stream_of =
      streams rule left left' before now run.bytes [] run.outs [] fed run.state (run.given ∙ ap (λ (bs : List ℕ). onto bs left') (sym (append-nil run.bytes))) (omega arith)
      (run.said ∙ ap (added before) (sym (append-nil run.outs)))

-- a piece was read after it
module _ (rule : Rule) (left mid left' before now : Option (List ℕ)) (fed : Fed) (piece : List ℕ) (run : HasRun rule left mid before now fed) (given : mid ≡ onto piece left') where
  pub all_given : left ≡ onto (run.bytes ++ piece) left'
  all_given = run.given ∙ ap (onto run.bytes) given ∙ onto-onto run.bytes piece left'

  pub stream_in_piece : length piece ≤ piece_length → IsStreamed rule left left' before now
  stream_in_piece few = streams rule left left' before now run.bytes piece run.outs [] fed run.state all_given few (run.said ∙ ap (added before) (sym (append-nil run.outs)))

  -- and what it gave was written in part
  module _ (b : Fed) (out : List ℕ) (now' : Option (List ℕ)) (feeds : Feeds fed b piece [] out) (part : AddsPart now now' out) where
    said_part : now' ≡ added before (run.outs ++ take part.len out)
    said_part = part.is ∙ ap (λ (n : Option (List ℕ)). added n (take part.len out)) run.said ∙ added-added before run.outs (take part.len out)

    pub part_in_write : WritesPart rule left before now'
    part_in_write =
        let outs : List ℕ = run.outs ++ out in
        let state = subst (λ (l : List ℕ). HasFed rule (run.bytes ++ piece) b (run.outs ++ l)) (sym feeds.grown) (feeds.on rule run.bytes run.outs run.state) in
        writes_part rule left left' before now' (run.bytes ++ piece) outs b state all_given
        (longer_part before now' (run.outs ++ take part.len out) (drop part.len out) outs (all_part before now' _ said_part)
        (ap (λ (l : List ℕ). run.outs ++ l) (sym (take-append-drop part.len out)) ∙ sym (append_assoc run.outs (take part.len out) (drop part.len out))))

    pub stream_in_write : length piece ≤ piece_length → IsStreamed rule left left' before now'
    stream_in_write few = streams rule left left' before now' run.bytes piece run.outs (take part.len out) fed run.state all_given few said_part

-- nothing is left, and what comes last was written in part
module _ (rule : Rule) (left left' before now : Option (List ℕ)) (fed : Fed) (run : HasRun rule left left' before now fed) (end : AtEnd left') (out : List ℕ) (last : Finishes fed [] out) (now' : Option (List ℕ)) where
  last_out : role_out rule (records_of run.bytes) ≡ written (run.outs ++ out)
  last_out = last.on rule run.bytes run.outs run.state ∙ ap (λ (l : List ℕ). written (run.outs ++ l)) (sym last.grown)

  last_said : (part : AddsPart now now' out) → now' ≡ added before (run.outs ++ take part.len out)
  last_said part = part.is ∙ ap (λ (n : Option (List ℕ)). added n (take part.len out)) run.said ∙ added-added before run.outs (take part.len out)

  pub part_at_end : AddsPart now now' out → WritesPart rule left before now'
  part_at_end part =
      at_end left left' run.bytes (λ all. AddsPart before now' (role_out rule (records_of all)).out) run.given end
      (longer_part before now' (run.outs ++ take part.len out) (drop part.len out) _ (all_part before now' _ (last_said part))
      (ap (λ (p : Part). p.out) last_out ∙ ap (λ (l : List ℕ). run.outs ++ l) (sym (take-append-drop part.len out)) ∙ sym (append_assoc run.outs (take part.len out) (drop part.len out))))

  pub stream_at_end : AddsPart now now' out → IsStreamed rule left left' before now'
  stream_at_end part =
      streams rule left left' before now' run.bytes [] run.outs (take part.len out) fed run.state (run.given ∙ ap (λ (bs : List ℕ). onto bs left') (sym (append-nil run.bytes))) (omega arith) (last_said part)

  pub done_at_end : fed.taken ≤ most_bytes → now' ≡ added now out → IsDone rule left left' before now'
  done_at_end few said =
      is_done rule left left' before now' run.bytes (run.outs ++ out) run.given end (omega (arith, run.state.taken)) last_out
      (said ∙ ap (λ (n : Option (List ℕ)). added n out) run.said ∙ added-added before run.outs out)
