use Rattle.std.proofs.Common.{◌≡◌, ◌-◌, ◌∙◌, List, [], ◌∷◌, Some, length, suc, ap, sym, arith, ℕ, Option}
use Rattle.std.specs.Borrow.{Bor}
use Rattle.std.specs.List.{slice_get}
use Rattle.dir_mem.specs.declared.traces.Trace.{Trace}
use Rattle.dir_mem.specs.Traces.{may_of, member_of, members_of, shown}
use Rattle.dir_mem.specs.Images.{oldest}
use Rattle.dir_mem.proofs.traces.oldest.Goals as goal

oldest_last : (first : Trace) (traces : List Trace) (last : Trace) → slice_get (first ∷ traces) (length traces) ≡ Some last → oldest (members_of (first ∷ traces)) ≡ shown (member_of last)
oldest_last first [] last is = ap (λ (t : Trace). shown (member_of t)) (some_same first last is)
  where
    some_same : (one other : Trace) → Some one ≡ Some other → one ≡ other
    some_same one other is = cc
oldest_last first (second ∷ traces) last is = oldest_last second traces last is

oldest_of : (traces : List Trace) (last : Trace) → slice_get traces (length traces - 1) ≡ Some last → oldest (members_of traces) ≡ shown (member_of last)
oldest_of [] last is = absurd (cc)
oldest_of (first ∷ traces) last is =
    oldest_last first traces last (ap (slice_get (first ∷ traces)) (less (length traces)) ∙ is)
  where
    less : (n : ℕ) → n ≡ suc n - 1
    less n = omega arith

pub returns : goal.returns
returns c =
    let traces = c.in_ok-may.field-0.now in
    let is : slice_get traces (length traces - 1) ≡ Some c.in_ok-last.field-0.now = sym c.in_ok-last.ensures.value in
    c.shown.ensures ∙ sym (oldest_of traces c.in_ok-last.field-0.now is) ∙ ap (λ (may : Option (Bor (List Trace))). oldest (may_of may)) (sym c.in_ok-may.was)
