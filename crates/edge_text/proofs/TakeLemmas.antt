-- Steps of a reader, one after another.
use Rattle.std.proofs.Common.{◌≡◌, ℕ, ◌+◌, ◌-◌, ◌<◌, ◌≤◌, List, [], ◌∷◌, ◌++◌, Some, None, Result, Ok, Err, OnOk, length, take, drop, refl, sym, ap, ◌∙◌, subst, arith, add-zero}
use Rattle.std.specs.Result.{IsOkUnless}
use Rattle.std.proofs.lemmas.List.{append_assoc, append-nil, length-append, length-take-le}
use Rattle.std.proofs.lemmas.Bool.{eq-eqb, eqb-true}
use Rattle.std.proofs.lemmas.List.Elements.{All-append, All-from_get_or}
use Rattle.memchr.specs.Find.{IsFirstByte, is_byte}
use Rattle.graph.specs.declared.edges.Edge.{Edge}
use Rattle.peg_text.specs.Lists.{GoesOnFrom}
use Rattle.peg_text.specs.Records.{Cut, HasNoLf, BeginsWithRecord, cut_of}
use Rattle.peg_text.proofs.ListLemmas.{GoesOnFrom-same, GoesOnFrom-then}
use Rattle.peg_text.proofs.RecordLemmas.{cut_of-unbroken, record_at}
use Rattle.edge_text.specs.declared.fault.EdgeFault.{EdgeFault}
use Rattle.edge_text.specs.declared.fault.EdgeFault.TheVariants.{TooLarge, NoMemory}
use Rattle.edge_text.specs.Answers.{UnlessOutOfMemory}
use Rattle.edge_text.specs.Edges.{reading_of, most_bytes, or_too_large}
use Rattle.edge_text.specs.Feeding.{State, Reads, Refused, fed, fed_edges, fault_of, nodes_of}
use Rattle.edge_text.specs.Unfinished.{IsWithin, Takes, ReadsAll}
use Rattle.edge_text.proofs.AnswerLemmas.{unless_weaker, unless_both, unless_memory}
use Rattle.edge_text.proofs.FeedingLemmas.{fed-append, fed_edges-append, fed-refused, fed_edges-refused, settled, settled_by, fault_of-settled, fed-within, fed_edges-within, fed-past, fed_edges-past, nodes_of-fed}

abbrev Answer : Type 0
Answer = Result (Unit {0}) EdgeFault

both_unbroken : (held bs : List ℕ) → HasNoLf held → HasNoLf bs → HasNoLf (held ++ bs)
both_unbroken held bs first second = All-append (λ b. b ≡ 10 → ⊥) held bs first second

-- bytes without an LF are held
module _ (n line : ℕ) (held bs : List ℕ) (taken : ℕ) (unbroken : HasNoLf held) (more : HasNoLf bs) (fits : taken + length bs ≤ most_bytes) where
  pub fed-unbroken : fed (Reads n line held taken) bs ≡ Reads n line (held ++ bs) (taken + length bs)
  fed-unbroken =
      fed-within n line held bs taken unbroken fits ∙ ap (settled_by n line (taken + length bs)) (cut_of-unbroken (held ++ bs) (both_unbroken held bs unbroken more)) ∙ ap (λ l. Reads n l (held ++ bs) (taken + length bs)) (add-zero line)

  pub fed_edges-unbroken : fed_edges (Reads n line held taken) bs ≡ []
  fed_edges-unbroken =
      fed_edges-within n line held bs taken unbroken fits ∙ ap (λ (c : Cut). (reading_of n line c.whole).edges) (cut_of-unbroken (held ++ bs) (both_unbroken held bs unbroken more))

  pub Takes-held : (edges : List Edge) (after : State) (answer : Answer) → OnOk answer (after ≡ Reads n line (held ++ bs) (taken + length bs)) → IsOkUnless answer NoMemory → Takes (Reads n line held taken) bs edges edges after answer
  Takes-held edges after (Ok x) ok err = record {
    ok = ok ∙ sym fed-unbroken;
    err = tt;
    added = sym (ap (λ es. edges ++ es) fed_edges-unbroken ∙ append-nil edges);
    kept = GoesOnFrom-same edges edges refl;
  }
  Takes-held edges after (Err fault) ok err = record {
    ok = tt;
    err = unless_memory _ fault err;
    added = unless_memory _ fault err;
    kept = GoesOnFrom-same edges edges refl;
  }

  pub IsWithin-held : line + length held ≤ taken + 1 → IsWithin line (held ++ bs) (taken + length bs)
  IsWithin-held lines = record {
    lines = omega (arith, length-append held bs);
    bytes = fits;
    unbroken = both_unbroken held bs unbroken more;
  }

-- two steps that go well
module _ (a b c : State) (xs ys : List ℕ) (before between after : List Edge) where
  joined_edges : between ≡ before ++ fed_edges a xs → after ≡ between ++ fed_edges b ys → b ≡ fed a xs → after ≡ before ++ fed_edges a (xs ++ ys)
  joined_edges first second is =
      second ∙ ap (λ es. es ++ fed_edges b ys) first ∙ append_assoc before (fed_edges a xs) (fed_edges b ys) ∙ ap (λ s. before ++ (fed_edges a xs ++ fed_edges s ys)) is ∙ ap (λ es. before ++ es) (sym (fed_edges-append a xs ys))

  joined_state : b ≡ fed a xs → fed b ys ≡ fed a (xs ++ ys)
  joined_state is = ap (λ s. fed s ys) is ∙ sym (fed-append a xs ys)

  same_nodes : b ≡ fed a xs → nodes_of b ≡ nodes_of a
  same_nodes is = ap nodes_of is ∙ nodes_of-fed a xs

  pub Takes-then : (answer : Answer) → Takes a xs before between b (Ok tt) → Takes b ys between after c answer → Takes a (xs ++ ys) before after c answer
  Takes-then (Ok x) first second = record {
    ok = second.ok ∙ joined_state first.ok;
    err = tt;
    added = joined_edges first.added second.added first.ok;
    kept = GoesOnFrom-then before between after first.kept second.kept;
  }
  Takes-then (Err fault) first second = record {
    ok = tt;
    err = unless_weaker fault (λ is. sym (joined_state first.ok) ∙ is ∙ ap (λ n. Refused n fault) (same_nodes first.ok)) second.err;
    added = unless_weaker fault (λ more. joined_edges first.added more first.ok) second.added;
    kept = GoesOnFrom-then before between after first.kept second.kept;
  }

-- a step that doesn't: what follows changes nothing
pub Takes-stops : (a b c : State) (xs ys : List ℕ) (before after : List Edge) (fault : EdgeFault) → Takes a xs before after b (Err fault) → Takes a (xs ++ ys) before after c (Err fault)
Takes-stops a b c xs ys before after fault stops = record {
  ok = tt;
  err = unless_weaker fault (λ is. fed-append a xs ys ∙ ap (λ s. fed s ys) is ∙ fed-refused (nodes_of a) fault ys) stops.err;
  added = unless_both fault (λ is more.
      let none = ap (λ s. fed_edges s ys) is ∙ fed_edges-refused (nodes_of a) fault ys in
      more ∙ ap (λ es. before ++ es) (sym (fed_edges-append a xs ys ∙ ap (λ es. fed_edges a xs ++ es) none ∙ append-nil (fed_edges a xs)))) stops.err stops.added;
  kept = stops.kept;
}

-- where nothing is held, the whole records are read and the rest is held
module _ (n line : ℕ) (held bs : List ℕ) (taken : ℕ) (edges edges' : List Edge) (unbroken : HasNoLf held) (none : held ≡ []) (fits : taken + length bs ≤ most_bytes) where
  nothing_held : cut_of (held ++ bs) ≡ cut_of bs
  nothing_held = ap (λ h. cut_of (h ++ bs)) none

  all_edges : edges' ≡ edges ++ (reading_of n line (cut_of bs).whole).edges → edges' ≡ edges ++ fed_edges (Reads n line held taken) bs
  all_edges added =
      added ∙ ap (λ es. edges ++ es) (sym (fed_edges-within n line held bs taken unbroken fits ∙ ap (λ (c : Cut). (reading_of n line c.whole).edges) nothing_held))

  pub Takes-read : (line' start : ℕ) (held' : List ℕ) → ReadsAll n line bs line' start → held' ≡ held ++ drop start bs → edges' ≡ edges ++ (reading_of n line (cut_of bs).whole).edges → GoesOnFrom edges edges' → Takes (Reads n line held taken) bs edges edges' (Reads n line' held' (taken + length bs)) (Ok tt)
  Takes-read line' start held' all rest added kept = record {
    ok =
        ap (λ l. Reads n l held' (taken + length bs)) all.lines ∙ ap (λ h. Reads n (line + length (cut_of bs).whole) h (taken + length bs)) (rest ∙ ap (λ h. h ++ drop start bs) none ∙ all.rest) ∙ ap (λ o. settled o n (line + length (cut_of bs).whole) (cut_of bs).rest (taken + length bs)) (sym all.none) ∙ sym (fed-within n line held bs taken unbroken fits ∙ ap (settled_by n line (taken + length bs)) nothing_held);
    err = tt;
    added = all_edges added;
    kept = kept;
  }

  pub Takes-refuses : (after : State) (fault : EdgeFault) → UnlessOutOfMemory fault ((reading_of n line (cut_of bs).whole).refusal ≡ Some fault) → UnlessOutOfMemory fault (edges' ≡ edges ++ (reading_of n line (cut_of bs).whole).edges) → GoesOnFrom edges edges' → Takes (Reads n line held taken) bs edges edges' after (Err fault)
  Takes-refuses after fault refusal added kept = record {
    ok = tt;
    err = unless_weaker fault (λ is. fed-within n line held bs taken unbroken fits ∙ ap (settled_by n line (taken + length bs)) nothing_held ∙ ap (λ o. settled o n (line + length (cut_of bs).whole) (cut_of bs).rest (taken + length bs)) is) refusal;
    added = unless_weaker fault all_edges added;
    kept = kept;
  }

-- the first byte too many
module _ (n line : ℕ) (held bs : List ℕ) (taken : ℕ) (edges edges' : List Edge) (b : State) where
  abbrev front : List ℕ
  front = take (most_bytes - taken) bs

  pub Takes-past : IsWithin line held taken → most_bytes < taken + length bs → fault_of b ≡ None → Takes (Reads n line held taken) front edges edges' b (Ok tt) → Takes (Reads n line held taken) bs edges edges' b (Err TooLarge)
  Takes-past within past none takes =
      let len : taken + length front ≡ most_bytes = omega (arith, within.bytes, length-take-le (most_bytes - taken) bs (omega arith)) in
      let cut = cut_of (held ++ front) in
      let refusal = (reading_of n line cut.whole).refusal in
      let judged = fed-within n line held front taken within.unbroken (omega (arith, len)) in
      let fine : refusal ≡ None = sym (fault_of-settled refusal n (line + length cut.whole) cut.rest (taken + length front)) ∙ ap fault_of (sym judged) ∙ ap fault_of (sym takes.ok) ∙ none in
      record {
        ok = tt;
        err = fed-past n line held bs taken line taken held within.unbroken within.bytes past ∙ ap (λ o. settled (or_too_large o) n line held taken) fine;
        added = takes.added ∙ ap (λ es. edges ++ es) (fed_edges-within n line held front taken within.unbroken (omega (arith, len)) ∙ sym (fed_edges-past n line held bs taken within.unbroken within.bytes past));
        kept = takes.kept;
      }

-- a piece that has an LF
module _ (piece : List ℕ) (k : ℕ) (first : IsFirstByte (is_byte 10) piece (Some k)) where
  pub lf_at : BeginsWithRecord piece (take k piece) (drop (k + 1) piece)
  lf_at = record_at piece k first.0.high (λ j below lf. first.0.before j (omega arith) below (eq-eqb _ 10 lf)) (eqb-true _ 10 first.1)

  pub front_len : length (take k piece) ≡ k
  front_len = let high : k < length piece = first.0.high in length-take-le k piece (omega arith)

  -- what stands before the LF, the LF and what stands after it are taken one after another
  module _ (a b c d : State) (rest : List ℕ) (before between after : List Edge) (is : rest ≡ drop (k + 1) piece) where
    whole_piece : take k piece ++ (10 ∷ rest) ≡ piece
    whole_piece = ap (λ r. take k piece ++ (10 ∷ r)) is ∙ sym lf_at.whole

    pub Takes-piece : (answer : Answer) → Takes a (take k piece) before before b (Ok tt) → Takes b (10 ∷ []) before between c (Ok tt) → Takes c rest between after d answer → Takes a piece before after d answer
    Takes-piece answer held ended read =
        subst (λ bytes. Takes a bytes before after d answer) whole_piece (Takes-then a b d (take k piece) (10 ∷ rest) before before after answer held (Takes-then b c d (10 ∷ []) rest before between after answer ended read))

    pub Takes-piece_stops : (fault : EdgeFault) → Takes a (take k piece) before before b (Ok tt) → Takes b (10 ∷ []) before after c (Err fault) → Takes a piece before after d (Err fault)
    Takes-piece_stops fault held stops =
        subst (λ bytes. Takes a bytes before after d (Err fault)) whole_piece (Takes-then a b d (take k piece) (10 ∷ rest) before before after (Err fault) held (Takes-stops b c d (10 ∷ []) rest before after fault stops))

-- a piece that has none
pub no_lf : (piece : List ℕ) → IsFirstByte (is_byte 10) piece None → HasNoLf piece
no_lf piece none = All-from_get_or (λ b. b ≡ 10 → ⊥) piece 0 (λ k inside lf. none k (omega arith) inside (eq-eqb _ 10 lf))
