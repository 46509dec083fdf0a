use Rattle.graph.proofs.WalkLemmas.{AreBelow-same}
use Rattle.labels.proofs.JoinLemmas.{swept_joined, swept_same}
use Rattle.labels.proofs.sweep.Goals as goal
use Rattle.labels.proofs.sweep.Goals.{then-join, else-join}

pub loop-edge-preserved : goal.loop-edge-preserved
loop-edge-preserved c =
    let edges = c.args.edges.now in
    let before = c.args.labels.now in
    let now = c.loop-edge.labels in
    let k = c.loop-edge.edge-index in
    elim c.if-join.branch [
      | then-join w ↦
          let apart = w.if-join.ensures.apart in
          rw w.lowered-is
          (swept_joined edges before now c.join.new.labels c.loop-edge.lowered k (record { source = 0; target = 0 }) c.loop-edge.invariant
          (AreBelow-same _ _ edges c.loop-edge.auto.labels c.requires.below) c.loop-edge-test.true apart.0 apart.1)
      | else-join w ↦
          let same = w.if-join.ensures.same in
          rw w.lowered-is
          (swept_same edges before now c.join.new.labels c.loop-edge.lowered k (record { source = 0; target = 0 }) c.loop-edge.invariant c.loop-edge-test.true same.0 same.1)
    ]
