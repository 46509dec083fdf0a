use Rattle.std.proofs.Common.{◌-◌, take, drop, Err, refl, subst, arith}
use Rattle.std.proofs.lemmas.List.{take-append-drop}
use Rattle.edge_text.specs.Unfinished.{Takes, reads}
use Rattle.edge_text.specs.Edges.{most_bytes}
use Rattle.edge_text.proofs.TakeLemmas.{Takes-past, Takes-stops}
use Rattle.edge_text.proofs.unfinished.Unfinished.take.Goals as goal

pub returns-in-Ok-clause-takes : goal.returns-in-Ok-clause-takes
returns-in-Ok-clause-takes c =
    let self = c.args.self.now in
    Takes-past self.nodes self.line self.held.items c.args.piece.now self.taken c.args.edges.now.items c.take_within-2.new.edges.items (reads c.take_within-2.new.self) c.requires (omega arith) refl c.in-Ok.ensures.takes

pub returns-in-Err-clause-takes : goal.returns-in-Err-clause-takes
returns-in-Err-clause-takes c =
    let piece = c.args.piece.now in
    let room = most_bytes - c.args.self.now.taken in
    let before = c.args.edges.now.items in
    let after = c.take_within-2.new.edges.items in
    subst (λ bytes. Takes (reads c.args.self.now) bytes before after (reads c.take_within-2.new.self) (Err c.in-Err.fault)) (take-append-drop room piece) (Takes-stops _ _ (reads c.take_within-2.new.self) (take room piece) (drop room piece) before after c.in-Err.fault c.in-Err.ensures.takes)
