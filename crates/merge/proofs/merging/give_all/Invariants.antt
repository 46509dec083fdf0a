use Rattle.std.proofs.Common.{◌≡◌, ◌+◌, ◌++◌, ◌≤◌, length}
use Rattle.std.specs.List.{All}
use Rattle.dir_disk.specs.Calls.{CanAppend}
use Rattle.dir_disk.specs.Keeping.{StandsBut}
use Rattle.dir_disk.specs.Lent.{IsNoOutput}
use Rattle.dir_disk.specs.Moments.{Both, Through, files}
use Rattle.dir_disk.specs.State.{StandsOutside}
use Rattle.pairs.specs.Pairs.{pairs_text, sorted_pairs}
use Rattle.merge.specs.Sources.{AreLeaders, IsSource, all_of, lefts}
use Rattle.pieces.specs.Pieces.{gathered}
use Rattle.merge.proofs.merging.give_all.Given as goal

abbrev pub invariant-loop-count : goal.invariant-loop-count
invariant-loop-count g l =
    let entry = files (g.D.Dir.told l.fn.dir) in
    record {
      lent_sources : All (λ source. IsNoOutput (g.D.Dir.lent l.fn.dir) source.path) l.sources;
      leaders : AreLeaders l.sources l.leaders.items;
      sources : g.D.Dir.tells → All (IsSource l.out entry) l.sources;
      counted : g.D.Dir.tells → l.count + length (all_of (lefts entry l.sources)) ≡ length (all_of (lefts entry l.fn.sources));
      sent : g.D.Dir.tells → gathered l.out (files (g.D.Dir.told l.dir)) l.piece.items ++ pairs_text (sorted_pairs (all_of (lefts entry l.sources))) ≡ pairs_text (sorted_pairs (all_of (lefts entry l.fn.sources)));
      can : g.D.Dir.tells → CanAppend (files (g.D.Dir.told l.dir)) l.out;
      others : g.D.Dir.tells → StandsBut l.out entry (files (g.D.Dir.told l.dir));
      stands : g.D.Dir.tells → Through (Both (StandsOutside l.out entry)) (g.D.Dir.told l.fn.dir) (g.D.Dir.told l.dir);
      lent : g.D.Dir.lent l.dir ≡ g.D.Dir.lent l.fn.dir;
      beside : g.D.Dir.beside l.dir ≡ g.D.Dir.beside l.fn.dir;
      later : g.D.Dir.faults l.dir ≡ g.D.Dir.faults l.fn.dir;
    }
