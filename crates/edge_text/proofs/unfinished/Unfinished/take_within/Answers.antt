use Rattle.std.proofs.Common.{◌≤◌, ◌+◌, length, take, Ok, sym, subst, arith}
use Rattle.std.proofs.lemmas.List.{take_rest}
use Rattle.edge_text.specs.Edges.{most_bytes}
use Rattle.edge_text.specs.Unfinished.{IsReady, Takes, reads}
use Rattle.edge_text.proofs.TakeLemmas.{Takes-held, Takes-piece, Takes-piece_stops, IsWithin-held, lf_at, front_len, no_lf}
use Rattle.edge_text.proofs.unfinished.Unfinished.take_within.Goals as goal
use Rattle.edge_text.proofs.unfinished.Unfinished.take_within.Goals.{In_default-hold}

fits : (c : In_default-hold) → c.args.self.now.taken + length (take c.in-Some.end c.args.piece.now) ≤ most_bytes
fits c = omega (arith, front_len c.args.piece.now c.in-Some.end c.in-Some.ensures, c.in-Some.ensures.0.high)

-- what stands before the first LF is held
front_held : (c : In_default-hold) → Takes (reads c.args.self.now) (take c.in-Some.end c.args.piece.now) c.args.edges.now.items c.args.edges.now.items (reads c.hold-2.new.self) (Ok tt)
front_held c =
    let self = c.args.self.now in
    Takes-held self.nodes self.line self.held.items (take c.in-Some.end c.args.piece.now) self.taken c.requires.ready.unbroken (lf_at c.args.piece.now c.in-Some.end c.in-Some.ensures).unbroken (fits c) c.args.edges.now.items (reads c.hold-2.new.self) (Ok tt) c.in_default-hold.ensures.ok tt

pub returns-in_default-clause-takes : goal.returns-in_default-clause-takes
returns-in_default-clause-takes c =
    let self = c.args.self.now in
    Takes-held self.nodes self.line self.held.items c.args.piece.now self.taken c.requires.ready.unbroken (no_lf c.args.piece.now c.in_default.ensures) c.requires.room c.args.edges.now.items (reads c.hold.new.self) c.hold.result c.hold.ensures.ok c.hold.ensures.err

pub end_record-requires-clause-ready : goal.end_record-requires-clause-ready
end_record-requires-clause-ready c =
    let self = c.args.self.now in
    subst IsReady (sym c.in_default-hold.ensures.ok) (IsWithin-held self.nodes self.line self.held.items (take c.in-Some.end c.args.piece.now) self.taken c.requires.ready.unbroken (lf_at c.args.piece.now c.in-Some.end c.in-Some.ensures).unbroken (fits (goal.at.end_record-requires-clause-ready c).In_default-hold) c.requires.ready.lines)

pub returns-in-Err-end_record-clause-takes : goal.returns-in-Err-end_record-clause-takes
returns-in-Err-end_record-clause-takes c =
    Takes-piece_stops c.args.piece.now c.in-Some.end c.in-Some.ensures _ _ _ _ _ _ c.args.edges.now.items _ (take_rest c.args.piece.now (c.in-Some.end + 1)) c.in-Err-end_record.fault (front_held (goal.at.returns-in-Err-end_record-clause-takes c).In_default-hold) c.in-Err-end_record.ensures.takes

pub returns-clause-takes : goal.returns-clause-takes
returns-clause-takes c =
    Takes-piece c.args.piece.now c.in-Some.end c.in-Some.ensures _ _ _ _ _ _ _ _ (take_rest c.args.piece.now (c.in-Some.end + 1)) c.take_records.result (front_held (goal.at.returns-clause-takes c).In_default-hold) c.in_default-end_record.ensures.takes c.take_records.ensures.takes
