-- Which child ends next.
use Rattle.std.proofs.Common.{◌≡◌, ℕ, ◌<◌, ◌≤◌, ◌+◌, ◌-◌, true, false, ⊎_elim, inl, inr, List, length, refl, sym, subst, arith}
use Rattle.std.specs.Prelude.{slice_index_or}
use Rattle.std.specs.List.{AllWithin, HoldsAt}
use Rattle.std.proofs.lemmas.Bool.{cases_lt}
use Rattle.std.proofs.lemmas.List.Elements.{at_read}
use Rattle.dir_disk.specs.declared.site.LogEntry.{LogEntry}
use Rattle.dir_disk.specs.Children.{Child}
use Rattle.site_mem.specs.declared.order.Order.{Order}
use Rattle.site_mem.specs.declared.order.Order.TheVariants.{OldestFirst, NewestFirst}
use Rattle.site_mem.specs.Plans.{IsNext, Planned, ahead_from, ahead_to, is_held}

-- each of these children is held
abbrev pub AllHeld : Planned → List LogEntry → List Child → ℕ → ℕ → Type 0
AllHeld plan log children low high = AllWithin (λ child. is_held plan.holds log child.attempt ≡ true) children low high

pub held_up : (plan : Planned) (log : List LogEntry) (children : List Child) (place : ℕ) (child : Child) → place < length children → child ≡ slice_index_or children place child → is_held plan.holds log child.attempt ≡ true → AllHeld plan log children 0 place → AllHeld plan log children 0 (place + 1)
held_up plan log children place child within is held all k d low high =
    ⊎_elim (λ before. all k d low before) (λ here. subst (λ (n : ℕ). is_held plan.holds log (slice_index_or children n d).attempt ≡ true) (omega (arith, here, high)) (at_read children (λ (c : Child). is_held plan.holds log c.attempt ≡ true) place child within is held d)) (cases_lt k place)

pub held_down : (plan : Planned) (log : List LogEntry) (children : List Child) (place last : ℕ) (child : Child) → place < length children → child ≡ slice_index_or children place child → is_held plan.holds log child.attempt ≡ true → AllHeld plan log children (place + 1) last → AllHeld plan log children place last
held_down plan log children place last child within is held all k d low high =
    ⊎_elim (λ after. all k d (omega (arith, after)) high) (λ here. subst (λ (n : ℕ). is_held plan.holds log (slice_index_or children n d).attempt ≡ true) (omega (arith, here, low)) (at_read children (λ (c : Child). is_held plan.holds log c.attempt ≡ true) place child within is held d)) (cases_lt place k)

free_at : (plan : Planned) (log : List LogEntry) (children : List Child) (place : ℕ) (child : Child) → place < length children → child ≡ slice_index_or children place child → is_held plan.holds log child.attempt ≡ false → HoldsAt (λ (c : Child). is_held plan.holds log c.attempt ≡ false) children place
free_at plan log children place child within is free =
    at_read children (λ (c : Child). is_held plan.holds log c.attempt ≡ false) place child within is free

pub oldest_free : (plan : Planned) (log : List LogEntry) (children : List Child) (place : ℕ) (child : Child) → plan.order ≡ OldestFirst → place < length children → child ≡ slice_index_or children place child → is_held plan.holds log child.attempt ≡ false → AllHeld plan log children 0 place → IsNext plan log children place
oldest_free plan log children place child order within is free all =
    inl (free_at plan log children place child within is free, subst (λ (o : Order). AllHeld plan log children (ahead_from o place) (ahead_to o place (length children))) (sym order) all)

pub oldest_held : (plan : Planned) (log : List LogEntry) (children : List Child) → plan.order ≡ OldestFirst → AllHeld plan log children 0 (length children) → IsNext plan log children 0
oldest_held plan log children order all =
    inr (all, subst (λ (o : Order). ahead_from o 0 ≡ ahead_to o 0 (length children)) (sym order) refl)

pub newest_free : (plan : Planned) (log : List LogEntry) (children : List Child) (place : ℕ) (child : Child) → plan.order ≡ NewestFirst → place < length children → child ≡ slice_index_or children place child → is_held plan.holds log child.attempt ≡ false → AllHeld plan log children (place + 1) (length children) → IsNext plan log children place
newest_free plan log children place child order within is free all =
    inl (free_at plan log children place child within is free, subst (λ (o : Order). AllHeld plan log children (ahead_from o place) (ahead_to o place (length children))) (sym order) all)

pub newest_held : (plan : Planned) (log : List LogEntry) (children : List Child) → plan.order ≡ NewestFirst → 1 ≤ length children → AllHeld plan log children 0 (length children) → IsNext plan log children (length children - 1)
newest_held plan log children order some all =
    inr (all, subst (λ (o : Order). ahead_from o (length children - 1) ≡ ahead_to o (length children - 1) (length children)) (sym order) (omega (arith, some)))
