-- What a run of the pieces is known to do, as one.
use Rattle.child.proofs.run.run_role.Goals as goal

pub returns-clause-runs : goal.returns-clause-runs
returns-clause-runs g c =
    let run = c.run_pieces.ensures in record {
      done = run.done;
      bad = run.bad;
      too_large = run.too_large;
      fault = run.fault;
      known = run.known;
      part = run.part;
      stream = run.stream;
      later = run.later;
      steady_source = run.steady_source;
      steady_sink = run.steady_sink;
    }
