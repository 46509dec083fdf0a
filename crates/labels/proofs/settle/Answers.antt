use Rattle.std.proofs.Common.{ℕ, length, get_or, sym, subst, arith}
use Rattle.graph.specs.Laws.{AreReached}
use Rattle.labels.proofs.ShortenLemmas.{shortened_reached, sum-le}
use Rattle.labels.proofs.settle.Goals as goal

pub sweeps-smaller : goal.sweeps-smaller
sweeps-smaller c =
    omega (arith, c.sweep.ensures.lower c.sweeps-test.true, sum-le c.shorten.new.labels c.sweep.new.labels c.shorten.auto.labels c.shorten.ensures.lower)

pub sweeps-preserved : goal.sweeps-preserved
sweeps-preserved c =
    let edges = c.args.edges.now in
    subst (λ (n : ℕ). AreReached n edges (λ i. get_or c.shorten.new.labels i 0)) (sym c.shorten.auto.labels)
    (shortened_reached (length c.sweep.new.labels) edges c.sweep.new.labels c.shorten.new.labels c.sweep.ensures.reached c.shorten.ensures)
