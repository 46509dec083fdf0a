-- How many bytes a reader can still take.
use Rattle.std.proofs.Common.{◌≡◌, ℕ, ◌+◌, ◌^◌, ◌<◌, ◌≤◌, ◌-◌, ◌==◌, inl, inr, List, [], ◌∷◌, Some, None, length, nat_le, refl, sym, ap, ◌∙◌, arith}
use Rattle.std.proofs.lemmas.Bool.{cases_Bool, leb-false}
use Rattle.edge_text.specs.Edges.{most_bytes}
use Rattle.edge_text.specs.declared.verdict.Verdict.{Verdict}
use Rattle.edge_text.specs.declared.verdict.Verdict.TheVariants.{Skipped, Accepted, Bad, Big}
use Rattle.edge_text.specs.Verdicts.{verdict_of}
use Rattle.edge_text.specs.Feeding.{State, after_byte, after_record, Reads, Refused, fed, fault_of, taken_of}
use Rattle.edge_text.proofs.FeedingLemmas.{fed-refused}

pub some_is_none : {A : Type 0} {x : A} → Some x ≡ None → ⊥
some_is_none e = cc

took_record : (v : Verdict) (n line taken : ℕ) → fault_of (after_record n line taken v) ≡ None → taken_of (after_record n line taken v) ≡ taken
took_record Skipped n line taken none = refl
took_record (Accepted edge) n line taken none = refl
took_record Bad n line taken none = absurd (some_is_none none)
took_record (Big id) n line taken none = absurd (some_is_none none)

-- a byte after which a reader reads on
took_byte : (s : State) (b : ℕ) → fault_of (after_byte s b) ≡ None → (taken_of s < most_bytes) × (taken_of (after_byte s b) ≡ taken_of s + 1)
took_byte (Refused n fault) b none = absurd (some_is_none none)
took_byte (Reads n line held taken) b none =
    elim (cases_Bool (nat_le most_bytes taken)) [
      | inl past ↦ absurd (some_is_none (rw past at none))
      | inr fits ↦
          elim (cases_Bool (b == 10)) [
            | inl lf ↦ (leb-false most_bytes taken fits, rw (fits, lf) (took_record (verdict_of n held) n line (taken + 1) (rw (fits, lf) at none)))
            | inr other ↦ (leb-false most_bytes taken fits, rw (fits, other) refl)
          ]
    ]

reads_on_before : (s : State) (bytes : List ℕ) → fault_of (fed s bytes) ≡ None → fault_of s ≡ None
reads_on_before (Reads n line held taken) bytes none = refl
reads_on_before (Refused n fault) bytes none = absurd (some_is_none (rw fed-refused at none))

-- after a piece at which it reads on a reader has taken all its bytes, and there was room for them
pub took : (s : State) (bytes : List ℕ) → fault_of (fed s bytes) ≡ None → taken_of (fed s bytes) ≡ taken_of s + length bytes
took s [] none = omega arith
took s (b ∷ bs) none =
    let byte = took_byte s b (reads_on_before (after_byte s b) bs none) in
    let rest = took (after_byte s b) bs none in
    omega (arith, byte.1, rest)

pub had_room : (s : State) (b : ℕ) (bs : List ℕ) → fault_of (fed s (b ∷ bs)) ≡ None → taken_of s + length (b ∷ bs) ≤ most_bytes
had_room s b [] none = let byte = took_byte s b none in omega (arith, byte.0)
had_room s b (c ∷ bs) none =
    let byte = took_byte s b (reads_on_before (after_byte s b) (c ∷ bs) none) in
    let rest = had_room (after_byte s b) c bs none in
    omega (arith, byte.1, rest)

-- a piece that isn't empty and at which the reader reads on brings the end of the room nearer
pub nearer : (old new : State) (piece : List ℕ) → 0 < length piece → new ≡ fed old piece → fault_of new ≡ None → 2 ^ 36 - taken_of new < 2 ^ 36 - taken_of old
nearer old new [] some state none = absurd (omega arith)
nearer old new (b ∷ bs) some state none =
    let on : fault_of (fed old (b ∷ bs)) ≡ None = sym (ap fault_of state) ∙ none in
    let room = had_room old b bs on in
    let all = ap taken_of state ∙ took old (b ∷ bs) on in
    omega (arith, room, all)
