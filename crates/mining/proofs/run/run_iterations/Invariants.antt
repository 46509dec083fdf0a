use Rattle.mining.specs.Failures.{NoneFailed}
use Rattle.job.specs.Failing.{gained}
use Rattle.mining.specs.Jobs.{FinishesWithin, rank_after}
use Rattle.std.proofs.Common.{◌≡◌, ◌+◌, ◌-◌, ◌≤◌, List, []}
use Rattle.dir_disk.specs.Moments.{Both, EachImage, Through, Told, files}
use Rattle.dir_disk.specs.Says.{Say}
use Rattle.dir_disk.specs.Streams.{added}
use Rattle.graph.specs.declared.edges.Edge.{Edge}
use Rattle.mining.specs.declared.place.Place.TheVariants.{Vector}
use Rattle.mining.specs.Flow.{mining_of, most_of}
use Rattle.mining.specs.Kept.{AllKept, Kept}
use Rattle.mining.specs.Between.{AllFirm, IsSure, KeepsWhole}
use Rattle.mining.specs.Acked.{Acks}
use Rattle.mining.specs.Read.{AreVectorsRead}
use Rattle.mining.specs.Iterations.{IsAt, lines_after}
use Rattle.mining.proofs.run.run_iterations.Given as goal

abbrev pub invariant-loop-at : goal.invariant-loop-at
invariant-loop-at g l =
    let old : Told = g.S.Dir.told l.fn.site in
    let new : Told = g.S.Dir.told l.site in
    record {
      most : l.most ≡ most_of l.fn.conf l.fn.conf.command;
      from : l.fn.from.k ≤ l.at.k;
      few : l.at.k ≤ l.most;
      faults : g.S.Dir.faults l.site ≡ g.S.Dir.faults l.fn.site;
      say_faults : g.S.Console.say_faults l.site ≡ g.S.Console.say_faults l.fn.site;
      none_running : (g.S.Site.seen l.site).running ≡ [];
      answers : NoneFailed (gained (g.S.Site.seen l.fn.site).log (g.S.Site.seen l.site).log);
      log : FinishesWithin g.S.Dir.tells g.S.Site.gives l.fn.conf (rank_after l.fn.from.k) (rank_after l.at.k) (g.S.Site.seen l.fn.site) (g.S.Site.seen l.site) (g.S.Site.given l.fn.site) (g.S.Site.given l.site) new;
      firm : g.S.Dir.tells → AllFirm (files new);
      sure : g.S.Dir.tells → IsSure (Vector l.at.k) (files new);
      read : g.S.Dir.tells → AreVectorsRead l.fn.conf (l.fn.from.k + 1) l.at.k (files new);
      stays : g.S.Dir.tells → Through (Both (KeepsWhole (files old))) old new;
      kept : (edges : List Edge) → g.S.Dir.tells → AllKept (mining_of g.S.Site.gives l.fn.conf edges) (files old) → IsAt (mining_of g.S.Site.gives l.fn.conf edges) l.fn.from.k l.fn.from.changed → Through (EachImage (Kept (mining_of g.S.Site.gives l.fn.conf edges))) old new;
      reached : (edges : List Edge) → g.S.Dir.tells → AllKept (mining_of g.S.Site.gives l.fn.conf edges) (files old) → IsAt (mining_of g.S.Site.gives l.fn.conf edges) l.fn.from.k l.fn.from.changed → IsAt (mining_of g.S.Site.gives l.fn.conf edges) l.at.k l.at.changed;
      said : (edges : List Edge) → g.S.Dir.tells → AllKept (mining_of g.S.Site.gives l.fn.conf edges) (files old) → IsAt (mining_of g.S.Site.gives l.fn.conf edges) l.fn.from.k l.fn.from.changed → g.S.Console.said l.site ≡ added (g.S.Console.said l.fn.site) (lines_after (mining_of g.S.Site.gives l.fn.conf edges) l.fn.from.k (l.at.k - l.fn.from.k));
      acked : (entry : Told) (had : List Say) → g.S.Dir.tells → Acks had entry old (g.S.Console.says l.fn.site) → Acks had entry new (g.S.Console.says l.site);
    }

abbrev pub decreases-loop-at : goal.decreases-loop-at
decreases-loop-at g l = l.most - l.at.k
