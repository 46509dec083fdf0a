use Rattle.std.proofs.Common.{◌≡◌, ◌+◌, ◌*◌, ◌≤◌}
use Rattle.dir_disk.specs.Moments.{files}
use Rattle.task_core.specs.Board.{NoneDead}
use Rattle.job.specs.Standing.{HasWork}
use Rattle.job.specs.Failing.{made_in}
use Rattle.job.specs.Going.{Turn, Working}
use Rattle.job.specs.Turned.{left_of, fuel_of}
use Rattle.job.proofs.turns.run_tasks.Given as goal

abbrev pub invariant-loop-made : goal.invariant-loop-made
invariant-loop-made g l =
    record {
      turn : Turn g.A.Attempting.may Working (Unit {0}) g.S.Dir.tells l.tasks (g.A.Attempting.board l.fn.attempts) (g.A.Attempting.board l.attempts) (g.S.Site.seen l.fn.site) (g.S.Site.seen l.site) (g.S.Site.given l.fn.site) (g.S.Site.given l.site) (g.S.Dir.told l.fn.site) (g.S.Dir.told l.site);
      stands : g.S.Dir.tells → NoneDead (g.A.Attempting.board l.attempts).tasks → HasWork l.tasks g.S.Site.gives (files (g.S.Dir.told l.site)) (g.A.Attempting.board l.attempts) (g.S.Site.seen l.site).running;
      left : left_of (g.A.Attempting.board l.attempts) + l.made ≤ 4 * l.tasks.count;
      log : made_in (g.S.Site.seen l.site).log ≡ made_in (g.S.Site.seen l.fn.site).log + l.made;
      later : g.S.Dir.faults l.site ≡ g.S.Dir.faults l.fn.site;
      said : g.S.Console.said l.site ≡ g.S.Console.said l.fn.site;
      says : g.S.Console.says l.site ≡ g.S.Console.says l.fn.site;
      say_faults : g.S.Console.say_faults l.site ≡ g.S.Console.say_faults l.fn.site;
    }

abbrev pub decreases-loop-made : goal.decreases-loop-made
decreases-loop-made g l = fuel_of (g.A.Attempting.board l.attempts)
