use Rattle.child.specs.Feeding.{fed_of}
use Rattle.child.proofs.WatchLemmas.{refuses_told, shows_refused}
use Rattle.child.proofs.watched.Watched.take.Goals as goal

pub returns-in-Err-clause-err : goal.returns-in-Err-clause-err
returns-in-Err-clause-err g c =
    refuses_told (fed_of g.R.Role.standing c.args.self.now.feeding) c.args.piece.now c.in-Err.status c.show.result c.show.ensures.same c.in-Err.ensures.err

pub returns-in-Err-clause-shown : goal.returns-in-Err-clause-shown
returns-in-Err-clause-shown g c =
    let before = fed_of g.R.Role.standing c.args.self.now.feeding in
    shows_refused before c.args.self.now.fronts c.args.piece.now _ c.show.result c.requires
    (refuses_told before c.args.piece.now c.in-Err.status c.show.result c.show.ensures.same c.in-Err.ensures.err) c.show.ensures.shown
