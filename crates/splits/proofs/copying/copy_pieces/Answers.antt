use Rattle.std.proofs.Common.{◌≡◌, ◌^◌, ◌≤◌, ◌∙◌, ap, length, arith, rules}
use Rattle.dir_disk.specs.Moments.{files}
use Rattle.dir_disk.specs.State.{bytes_of, bytes_at}
use Rattle.dir_disk.proofs.Keeping.{stands_then}
use Rattle.splits.proofs.CopyLemmas.{copying_ended}
use Rattle.splits.proofs.copying.copy_pieces.Goals as goal

pub returns-in_err-copy_piece-clause-stands : goal.returns-in_err-copy_piece-clause-stands
returns-in_err-copy_piece-clause-stands g c =
    λ tells.
    stands_then c.args.out.now (g.D.Dir.told c.args.dir.now) (g.D.Dir.told c.loop-progress.dir) (g.D.Dir.told c.copy_piece.new.dir) (c.loop-progress.invariant.stands tells) (c.copy_piece.ensures.stands tells)

pub returns-then-not-branch-clause-stands : goal.returns-then-not-branch-clause-stands
returns-then-not-branch-clause-stands g c =
    λ tells.
    stands_then c.args.out.now (g.D.Dir.told c.args.dir.now) (g.D.Dir.told c.loop-progress.dir) (g.D.Dir.told c.copy_piece.new.dir) (c.loop-progress.invariant.stands tells) (c.copy_piece.ensures.stands tells)

pub loop-progress-preserved : goal.loop-progress-preserved
loop-progress-preserved g c =
    record {
      from = search rules;
      end = search rules;
      few = search rules;
      small = omega (arith, c.copy_piece.ensures.few, c.copy_piece.ensures.small);
      copying = search rules;
      others = λ tells q other. c.in_ok-copy_piece.ensures.others tells q other ∙ c.loop-progress.invariant.others tells q other;
      stands = λ tells. stands_then c.args.out.now (g.D.Dir.told c.args.dir.now) (g.D.Dir.told c.loop-progress.dir) (g.D.Dir.told c.copy_piece.new.dir) (c.loop-progress.invariant.stands tells) (c.copy_piece.ensures.stands tells);
      lent = search rules;
      beside = search rules;
      later = search rules;
    }

pub returns-clause-copied : goal.returns-clause-copied
returns-clause-copied g c =
    λ tells.
    let here = files (g.D.Dir.told c.loop-progress.dir) in
    let copying = c.loop-progress.invariant.copying tells in
    let short : length copying.there.0 ≤ 2 ^ 50 = g.met.D.Dir.short_files c.loop-progress.dir c.args.path.now copying.there.0 tells copying.there.1 in
    let len : length (bytes_at here c.args.path.now) ≡ length copying.there.0 = ap (λ content. length (bytes_of content)) copying.there.1 in
    copying_ended c.args.path.now c.args.out.now here c.loop-progress.progress copying (omega (arith, short, len))
