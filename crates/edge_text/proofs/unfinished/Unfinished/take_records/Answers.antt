use Rattle.std.proofs.Common.{◌++◌, ap, ◌∙◌}
use Rattle.std.proofs.lemmas.List.{take_rest}
use Rattle.edge_text.proofs.TakeLemmas.{Takes-read, Takes-refuses}
use Rattle.edge_text.proofs.unfinished.Unfinished.take_records.Goals as goal

pub returns-in-Ok-extend_from_slice-clause-takes : goal.returns-in-Ok-extend_from_slice-clause-takes
returns-in-Ok-extend_from_slice-clause-takes c =
    let self = c.args.self.now in
    let stop = c.in-Ok.stop in
    Takes-read self.nodes self.line self.held.items c.args.bytes.now self.taken c.args.edges.now.items c.read_records.new.edges.items c.requires.ready.unbroken c.requires.empty c.requires.room stop.line stop.start c.extend_from_slice.new.self.items c.in-Ok.ensures.ok (c.in-Ok-extend_from_slice.ensures.items ∙ ap (λ rest. self.held.items ++ rest) (take_rest c.args.bytes.now stop.start)) c.in-Ok.ensures.added c.in-Ok.ensures.kept

pub returns-in-Err-clause-takes : goal.returns-in-Err-clause-takes
returns-in-Err-clause-takes c =
    let self = c.args.self.now in
    Takes-refuses self.nodes self.line self.held.items c.args.bytes.now self.taken c.args.edges.now.items c.read_records.new.edges.items c.requires.ready.unbroken c.requires.empty c.requires.room _ c.in-Err.fault c.in-Err.ensures.err c.in-Err.ensures.added c.in-Err.ensures.kept
