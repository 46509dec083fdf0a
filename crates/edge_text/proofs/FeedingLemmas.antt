-- Readers, byte by byte and record by record.
use Rattle.std.proofs.Common.{◌≡◌, ℕ, suc, ◌+◌, ◌-◌, ◌<◌, ◌≤◌, true, false, List, [], ◌∷◌, ◌++◌, Option, Some, None, length, take, drop, refl, sym, ap, ◌∙◌, arith, inl, inr, eqb, leb, add-zero}
use Rattle.std.proofs.lemmas.Bool.{cases_Bool, cond-true, cond-false, eqb-true, eqb-false, le-leb, lt-leb, leb-false, cond_both}
use Rattle.std.proofs.lemmas.List.{append_assoc, append-nil, take-append-drop, length-take-le, length-drop, length-append}
use Rattle.std.proofs.lemmas.List.Elements.{All-nil, All-cons, All-append}
use Rattle.peg_text.specs.Records.{Cut, cut_of, HasNoLf}
use Rattle.peg_text.proofs.RecordLemmas.{cut_of-line, cut_of-unbroken}
use Rattle.edge_text.specs.declared.fault.EdgeFault.{EdgeFault}
use Rattle.edge_text.specs.declared.fault.EdgeFault.TheVariants.{BadEdge, BigNode, TooLarge}
use Rattle.edge_text.specs.declared.verdict.Verdict.{Verdict}
use Rattle.edge_text.specs.declared.verdict.Verdict.TheVariants.{Skipped, Accepted, Bad, Big}
use Rattle.edge_text.specs.Verdicts.{verdict_of}
use Rattle.edge_text.specs.Edges.{Reading, read_first, reading_of, most_bytes, or_too_large}
use Rattle.edge_text.specs.Feeding.{State, Reads, Refused, after_record, edge_in, after_byte, edges_at, fed, fed_edges, ended, fault_of, nodes_of}
use Rattle.edge_text.specs.declared.unfinished.Unfinished.{Unfinished}
use Rattle.edge_text.specs.Unfinished.{IsWithin, IsReady, state_of}

-- pieces one after another

pub fed-append : (s : State) (first second : List ℕ) → fed s (first ++ second) ≡ fed (fed s first) second
fed-append s [] second = refl
fed-append s (b ∷ bs) second = fed-append (after_byte s b) bs second

pub fed_edges-append : (s : State) (first second : List ℕ) → fed_edges s (first ++ second) ≡ fed_edges s first ++ fed_edges (fed s first) second
fed_edges-append s [] second = refl
fed_edges-append s (b ∷ bs) second =
    ap (λ es. edges_at s b ++ es) (fed_edges-append (after_byte s b) bs second) ∙ sym (append_assoc (edges_at s b) (fed_edges (after_byte s b) bs) (fed_edges (fed (after_byte s b) bs) second))

-- a refusal stays

pub fed-refused : (n : ℕ) (fault : EdgeFault) (bytes : List ℕ) → fed (Refused n fault) bytes ≡ Refused n fault
fed-refused n fault [] = refl
fed-refused n fault (b ∷ bs) = fed-refused n fault bs

pub fed_edges-refused : (n : ℕ) (fault : EdgeFault) (bytes : List ℕ) → fed_edges (Refused n fault) bytes ≡ []
fed_edges-refused n fault [] = refl
fed_edges-refused n fault (b ∷ bs) = fed_edges-refused n fault bs

-- one byte

module _ (n line : ℕ) (held : List ℕ) (taken b : ℕ) where
  after_byte-past : most_bytes ≤ taken → after_byte (Reads n line held taken) b ≡ Refused n TooLarge
  after_byte-past past = cond-true _ _ _ (le-leb most_bytes taken past)

  edges_at-past : most_bytes ≤ taken → edges_at (Reads n line held taken) b ≡ []
  edges_at-past past = cond-true _ _ _ (le-leb most_bytes taken past)

  after_byte-lf : taken < most_bytes → eqb b 10 ≡ true → after_byte (Reads n line held taken) b ≡ after_record n line (taken + 1) (verdict_of n held)
  after_byte-lf room is = cond-false _ _ _ (lt-leb most_bytes taken room) ∙ cond-true _ _ _ is

  edges_at-lf : taken < most_bytes → eqb b 10 ≡ true → edges_at (Reads n line held taken) b ≡ edge_in (verdict_of n held)
  edges_at-lf room is = cond-false _ _ _ (lt-leb most_bytes taken room) ∙ cond-true _ _ _ is

  after_byte-other : taken < most_bytes → eqb b 10 ≡ false → after_byte (Reads n line held taken) b ≡ Reads n line (held ++ b ∷ []) (taken + 1)
  after_byte-other room isnt = cond-false _ _ _ (lt-leb most_bytes taken room) ∙ cond-false _ _ _ isnt

  edges_at-other : taken < most_bytes → eqb b 10 ≡ false → edges_at (Reads n line held taken) b ≡ []
  edges_at-other room isnt = cond-false _ _ _ (lt-leb most_bytes taken room) ∙ cond-false _ _ _ isnt

unbroken_push : (held : List ℕ) (b : ℕ) → eqb b 10 ≡ false → HasNoLf held → HasNoLf (held ++ b ∷ [])
unbroken_push held b isnt unbroken = All-append (λ x. x ≡ 10 → ⊥) held (b ∷ []) unbroken (All-cons (λ x. x ≡ 10 → ⊥) b [] (eqb-false b 10 isnt) (All-nil (λ x. x ≡ 10 → ⊥)))

-- a reader that has judged records, with this refusal among them
abbrev pub settled : Option EdgeFault → ℕ → ℕ → List ℕ → ℕ → State
settled None n line held taken = Reads n line held taken
settled (Some fault) n line held taken = Refused n fault

pub fault_of-settled : (refusal : Option EdgeFault) (n line : ℕ) (held : List ℕ) (taken : ℕ) → fault_of (settled refusal n line held taken) ≡ refusal
fault_of-settled None n line held taken = refl
fault_of-settled (Some fault) n line held taken = refl

-- what stands after whole records, as a state
abbrev pub settled_by : ℕ → ℕ → ℕ → Cut → State
settled_by n line taken cut = settled (reading_of n line cut.whole).refusal n (line + length cut.whole) cut.rest taken

settled_first : (v : Verdict) (n line taken more rest : ℕ) (bs held : List ℕ) (later : Reading) → fed (Reads n (line + 1) [] (taken + 1)) bs ≡ settled later.refusal n (line + 1 + more) held (taken + 1 + rest) → fed (after_record n line (taken + 1) v) bs ≡ settled (read_first line v later).refusal n (line + suc more) held (taken + suc rest)
settled_first Skipped n line taken more rest bs held later is =
    let lines : line + 1 + more ≡ line + suc more = omega arith in
    let bytes : taken + 1 + rest ≡ taken + suc rest = omega arith in
    is ∙ ap (λ l. settled later.refusal n l held (taken + 1 + rest)) lines ∙ ap (λ t. settled later.refusal n (line + suc more) held t) bytes
settled_first (Accepted edge) n line taken more rest bs held later is =
    let lines : line + 1 + more ≡ line + suc more = omega arith in
    let bytes : taken + 1 + rest ≡ taken + suc rest = omega arith in
    is ∙ ap (λ l. settled later.refusal n l held (taken + 1 + rest)) lines ∙ ap (λ t. settled later.refusal n (line + suc more) held t) bytes
settled_first Bad n line taken more rest bs held later is = fed-refused n (BadEdge line) bs
settled_first (Big id) n line taken more rest bs held later is = fed-refused n (BigNode line id) bs

edges_first : (v : Verdict) (n line taken : ℕ) (bs : List ℕ) (later : Reading) → fed_edges (Reads n (line + 1) [] taken) bs ≡ later.edges → edge_in v ++ fed_edges (after_record n line taken v) bs ≡ (read_first line v later).edges
edges_first Skipped n line taken bs later is = is
edges_first (Accepted edge) n line taken bs later is = ap (λ es. edge ∷ es) is
edges_first Bad n line taken bs later is = fed_edges-refused n (BadEdge line) bs
edges_first (Big id) n line taken bs later is = fed_edges-refused n (BigNode line id) bs

-- a piece that is not too long, as its records
pub fed-within : (n line : ℕ) (held bs : List ℕ) (taken : ℕ) → HasNoLf held → taken + length bs ≤ most_bytes → fed (Reads n line held taken) bs ≡ settled_by n line (taken + length bs) (cut_of (held ++ bs))
fed-within n line held [] taken unbroken fits =
    ap (λ l. Reads n l held taken) (sym (add-zero line)) ∙ ap (λ t. Reads n (line + 0) held t) (sym (add-zero taken)) ∙ ap (settled_by n line (taken + 0)) (sym (ap cut_of (append-nil held) ∙ cut_of-unbroken held unbroken))
fed-within n line held (b ∷ bs) taken unbroken fits =
    let room : taken < most_bytes = omega arith in
    elim (cases_Bool (eqb b 10)) [
      | inl is ↦
          let cut = cut_of bs in
          let later = fed-within n (line + 1) [] bs (taken + 1) (All-nil (λ x. x ≡ 10 → ⊥)) (omega arith) in
          ap (λ s. fed s bs) (after_byte-lf n line held taken b room is) ∙ settled_first (verdict_of n held) n line taken (length cut.whole) (length bs) bs cut.rest (reading_of n (line + 1) cut.whole) later ∙ ap (settled_by n line (taken + length (b ∷ bs))) (sym (ap (λ x. cut_of (held ++ (x ∷ bs))) (eqb-true b 10 is) ∙ cut_of-line held bs unbroken))
      | inr isnt ↦
          let bytes : taken + 1 + length bs ≡ taken + length (b ∷ bs) = omega arith in
          ap (λ s. fed s bs) (after_byte-other n line held taken b room isnt) ∙ fed-within n line (held ++ b ∷ []) bs (taken + 1) (unbroken_push held b isnt unbroken) (omega arith) ∙ ap (λ t. settled_by n line t (cut_of ((held ++ b ∷ []) ++ bs))) bytes ∙ ap (λ all. settled_by n line (taken + length (b ∷ bs)) (cut_of all)) (append_assoc held (b ∷ []) bs)
    ]

pub fed_edges-within : (n line : ℕ) (held bs : List ℕ) (taken : ℕ) → HasNoLf held → taken + length bs ≤ most_bytes → fed_edges (Reads n line held taken) bs ≡ (reading_of n line (cut_of (held ++ bs)).whole).edges
fed_edges-within n line held [] taken unbroken fits =
    ap (λ (c : Cut). (reading_of n line c.whole).edges) (sym (ap cut_of (append-nil held) ∙ cut_of-unbroken held unbroken))
fed_edges-within n line held (b ∷ bs) taken unbroken fits =
    let room : taken < most_bytes = omega arith in
    let s = Reads n line held taken in
    elim (cases_Bool (eqb b 10)) [
      | inl is ↦
          let cut = cut_of bs in
          let later = fed_edges-within n (line + 1) [] bs (taken + 1) (All-nil (λ x. x ≡ 10 → ⊥)) (omega arith) in
          ap (λ es. es ++ fed_edges (after_byte s b) bs) (edges_at-lf n line held taken b room is) ∙ ap (λ t. edge_in (verdict_of n held) ++ fed_edges t bs) (after_byte-lf n line held taken b room is) ∙ edges_first (verdict_of n held) n line (taken + 1) bs (reading_of n (line + 1) cut.whole) later ∙ ap (λ (c : Cut). (reading_of n line c.whole).edges) (sym (ap (λ x. cut_of (held ++ (x ∷ bs))) (eqb-true b 10 is) ∙ cut_of-line held bs unbroken))
      | inr isnt ↦
          ap (λ es. es ++ fed_edges (after_byte s b) bs) (edges_at-other n line held taken b room isnt) ∙ ap (λ t. fed_edges t bs) (after_byte-other n line held taken b room isnt) ∙ fed_edges-within n line (held ++ b ∷ []) bs (taken + 1) (unbroken_push held b isnt unbroken) (omega arith) ∙ ap (λ all. (reading_of n line (cut_of all).whole).edges) (append_assoc held (b ∷ []) bs)
    ]

-- the first byte too many

fed-past_settled : (refusal : Option EdgeFault) (n line l' t' : ℕ) (held h' bs : List ℕ) (taken : ℕ) → most_bytes ≤ taken → 0 < length bs → fed (settled refusal n line held taken) bs ≡ settled (or_too_large refusal) n l' h' t'
fed-past_settled None n line l' t' held h' [] taken past some = absurd (omega arith)
fed-past_settled None n line l' t' held h' (b ∷ bs) taken past some = ap (λ s. fed s bs) (after_byte-past n line held taken b past) ∙ fed-refused n TooLarge bs
fed-past_settled (Some fault) n line l' t' held h' bs taken past some = fed-refused n fault bs

fed_edges-past_settled : (refusal : Option EdgeFault) (n line : ℕ) (held bs : List ℕ) (taken : ℕ) → most_bytes ≤ taken → fed_edges (settled refusal n line held taken) bs ≡ []
fed_edges-past_settled None n line held [] taken past = refl
fed_edges-past_settled None n line held (b ∷ bs) taken past =
    ap (λ es. es ++ fed_edges (after_byte (Reads n line held taken) b) bs) (edges_at-past n line held taken b past) ∙ ap (λ s. fed_edges s bs) (after_byte-past n line held taken b past) ∙ fed_edges-refused n TooLarge bs
fed_edges-past_settled (Some fault) n line held bs taken past = fed_edges-refused n fault bs

-- a piece that goes past the most bytes: only its front is judged
module _ (n line : ℕ) (held bs : List ℕ) (taken : ℕ) where
  abbrev front : List ℕ
  front = take (most_bytes - taken) bs

  front_fits : taken ≤ most_bytes → most_bytes < taken + length bs → taken + length front ≡ most_bytes
  front_fits low past = omega (arith, length-take-le (most_bytes - taken) bs (omega arith))

  pub fed-past : (l' t' : ℕ) (h' : List ℕ) → HasNoLf held → taken ≤ most_bytes → most_bytes < taken + length bs → fed (Reads n line held taken) bs ≡ settled (or_too_large (reading_of n line (cut_of (held ++ front)).whole).refusal) n l' h' t'
  fed-past l' t' h' unbroken low past =
      let k : ℕ = most_bytes - taken in
      let all = take-append-drop k bs in
      let len = front_fits low past in
      let some : 0 < length (drop k bs) = omega (arith, length-drop k bs) in
      let first = fed-within n line held front taken unbroken (omega (arith, len)) in
      let cut = cut_of (held ++ front) in
      ap (fed (Reads n line held taken)) (sym all) ∙ fed-append (Reads n line held taken) front (drop k bs) ∙ ap (λ s. fed s (drop k bs)) first ∙ fed-past_settled (reading_of n line cut.whole).refusal n (line + length cut.whole) l' t' cut.rest h' (drop k bs) (taken + length front) (omega (arith, len)) some

  pub fed_edges-past : HasNoLf held → taken ≤ most_bytes → most_bytes < taken + length bs → fed_edges (Reads n line held taken) bs ≡ (reading_of n line (cut_of (held ++ front)).whole).edges
  fed_edges-past unbroken low past =
      let k : ℕ = most_bytes - taken in
      let all = take-append-drop k bs in
      let len = front_fits low past in
      let s = Reads n line held taken in
      let cut = cut_of (held ++ front) in
      let first = fed-within n line held front taken unbroken (omega (arith, len)) in
      let none = ap (λ t. fed_edges t (drop k bs)) first ∙ fed_edges-past_settled (reading_of n line cut.whole).refusal n (line + length cut.whole) cut.rest (drop k bs) (taken + length front) (omega (arith, len)) in
      ap (fed_edges s) (sym all) ∙ fed_edges-append s front (drop k bs) ∙ ap (λ es. fed_edges s front ++ es) none ∙ append-nil (fed_edges s front) ∙ fed_edges-within n line held front taken unbroken (omega (arith, len))

-- the number of nodes stays

nodes_of-after_record : (v : Verdict) (n line taken : ℕ) → nodes_of (after_record n line taken v) ≡ n
nodes_of-after_record Skipped n line taken = refl
nodes_of-after_record (Accepted edge) n line taken = refl
nodes_of-after_record Bad n line taken = refl
nodes_of-after_record (Big id) n line taken = refl

pub nodes_of-after_byte : (s : State) (b : ℕ) → nodes_of (after_byte s b) ≡ nodes_of s
nodes_of-after_byte (Reads n line held taken) b =
    cond_both (leb most_bytes taken) _ _ (λ s. nodes_of s ≡ n) (λ _. refl) (λ _. cond_both (eqb b 10) _ _ (λ s. nodes_of s ≡ n) (λ _. nodes_of-after_record (verdict_of n held) n line (taken + 1)) (λ _. refl))
nodes_of-after_byte (Refused n fault) b = refl

pub nodes_of-fed : (s : State) (bytes : List ℕ) → nodes_of (fed s bytes) ≡ nodes_of s
nodes_of-fed s [] = refl
nodes_of-fed s (b ∷ bs) = nodes_of-fed (after_byte s b) bs ∙ nodes_of-after_byte s b

pub nodes_of-ended : (s : State) → nodes_of (ended s) ≡ nodes_of s
nodes_of-ended (Reads n line [] taken) = refl
nodes_of-ended (Reads n line (b ∷ bs) taken) = nodes_of-after_record (verdict_of n (b ∷ bs)) n line taken
nodes_of-ended (Refused n fault) = refl

pub nodes_of-state_of : (refusal : Option EdgeFault) (u : Unfinished) → nodes_of (state_of refusal u) ≡ u.nodes
nodes_of-state_of None u = refl
nodes_of-state_of (Some fault) u = refl

-- counts stay within their bounds

IsReady-after_record : (v : Verdict) (n line taken : ℕ) → IsWithin (line + 1) [] taken → IsReady (after_record n line taken v)
IsReady-after_record Skipped n line taken within = within
IsReady-after_record (Accepted edge) n line taken within = within
IsReady-after_record Bad n line taken within = tt
IsReady-after_record (Big id) n line taken within = tt

IsReady-after_byte : (s : State) (b : ℕ) → IsReady s → IsReady (after_byte s b)
IsReady-after_byte (Reads n line held taken) b within =
    cond_both (leb most_bytes taken) _ _ IsReady (λ _. tt) (λ low.
    let room : taken < most_bytes = leb-false most_bytes taken low in
    cond_both (eqb b 10) _ _ IsReady
    (λ _. IsReady-after_record (verdict_of n held) n line (taken + 1) (record { lines = omega (arith, within.lines); bytes = omega arith; unbroken = All-nil (λ x. x ≡ 10 → ⊥) }))
    (λ isnt. record {
      lines = omega (arith, within.lines, length-append held (b ∷ []));
      bytes = omega arith;
      unbroken = unbroken_push held b isnt within.unbroken;
    }))
IsReady-after_byte (Refused n fault) b within = tt

pub IsReady-fed : (s : State) (bytes : List ℕ) → IsReady s → IsReady (fed s bytes)
IsReady-fed s [] ready = ready
IsReady-fed s (b ∷ bs) ready = IsReady-fed (after_byte s b) bs (IsReady-after_byte s b ready)

pub IsReady-ended : (s : State) → IsReady s → IsReady (ended s)
IsReady-ended (Reads n line [] taken) ready = ready
IsReady-ended (Reads n line (b ∷ bs) taken) ready =
    IsReady-after_record (verdict_of n (b ∷ bs)) n line taken (record { lines = omega (arith, ready.lines); bytes = ready.bytes; unbroken = All-nil (λ x. x ≡ 10 → ⊥) })
IsReady-ended (Refused n fault) ready = tt
