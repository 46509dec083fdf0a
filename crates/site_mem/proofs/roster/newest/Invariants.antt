use Rattle.std.proofs.Common.{◌≡◌, ◌≤◌, true, length}
use Rattle.std.specs.List.{AllWithin}
use Rattle.site_mem.specs.Plans.{is_held}
use Rattle.site_mem.proofs.roster.newest.Given as goal

abbrev pub invariant-loop-place : goal.invariant-loop-place
invariant-loop-place g l =
    (l.place ≤ length l.running) × AllWithin (λ child. is_held l.plan.holds l.log child.attempt ≡ true) l.running l.place (length l.running)

abbrev pub decreases-loop-place : goal.decreases-loop-place
decreases-loop-place g l = l.place
