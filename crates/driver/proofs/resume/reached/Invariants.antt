use Rattle.std.proofs.Common.{◌≡◌, ℕ, ◌-◌, ◌≤◌, []}
use Rattle.dir_disk.specs.State.{State}
use Rattle.dir_disk.specs.Moments.{Both, IsFresh, Through, Told, files}
use Rattle.mining.specs.declared.place.Place.TheVariants.{Vector}
use Rattle.mining.specs.Between.{AllFirm, IsSure}
use Rattle.driver.proofs.resume.reached.Given as goal

abbrev pub invariant-loop-k : goal.invariant-loop-k
invariant-loop-k g l =
    let old : Told = g.S.Dir.told l.fn.site in
    let new : Told = g.S.Dir.told l.site in
    record {
      few : l.k ≤ l.most;
      none_running : (g.S.Site.seen l.site).running ≡ [];
      seen : g.S.Site.seen l.site ≡ g.S.Site.seen l.fn.site;
      given : g.S.Dir.tells → g.S.Site.given l.site ≡ g.S.Site.given l.fn.site;
      stands : g.S.Dir.tells → Through (Both (λ (s : State). s ≡ files old)) old new;
      firm : g.S.Dir.tells → AllFirm (files new);
      sure : g.S.Dir.tells → (j : ℕ) → j ≤ l.k → IsSure (Vector j) (files new);
      fresh : g.S.Dir.tells → 1 ≤ l.k → IsFresh new;
      faults : g.S.Dir.faults l.site ≡ g.S.Dir.faults l.fn.site;
      said : g.S.Console.said l.site ≡ g.S.Console.said l.fn.site;
      says : g.S.Console.says l.site ≡ g.S.Console.says l.fn.site;
      say_faults : g.S.Console.say_faults l.site ≡ g.S.Console.say_faults l.fn.site;
    }

abbrev pub decreases-loop-k : goal.decreases-loop-k
decreases-loop-k g l = l.most - l.k
