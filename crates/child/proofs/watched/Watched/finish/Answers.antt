use Rattle.child.specs.Feeding.{fed_of}
use Rattle.child.proofs.WatchLemmas.{refuses_last_told, shows_last}
use Rattle.child.proofs.watched.Watched.finish.Goals as goal

pub returns-in-Err-clause-err : goal.returns-in-Err-clause-err
returns-in-Err-clause-err g c =
    refuses_last_told (fed_of g.R.Role.standing c.args.self.now.feeding) c.in-Err.status c.show.result c.show.ensures.same c.in-Err.ensures.err

pub returns-in-Err-clause-shown : goal.returns-in-Err-clause-shown
returns-in-Err-clause-shown g c =
    let before = fed_of g.R.Role.standing c.args.self.now.feeding in
    shows_last before c.args.self.now.fronts _ c.show.result
    (refuses_last_told before c.in-Err.status c.show.result c.show.ensures.same c.in-Err.ensures.err) c.show.ensures.shown
