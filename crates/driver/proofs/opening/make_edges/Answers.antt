use Rattle.std.proofs.Common.{◌≡◌, [], Some, IfSome, sym, subst}
use Rattle.peg_base.specs.Names.{Names}
use Rattle.dir_disk.specs.Calls.{IsOpen}
use Rattle.dir_disk.specs.State.{StandsOutside}
use Rattle.dir_disk.specs.Moments.{Both, Through, Told, files}
use Rattle.dir_disk.proofs.Through.{started}
use Rattle.edge_text.specs.Edges.{edges_of, text_of as edges_text}
use Rattle.committer.specs.Folders.{IsUnmarked, fixed}
use Rattle.committer.specs.Paths.{success_of}
use Rattle.mining.specs.declared.place.Place.TheVariants.{Edges}
use Rattle.mining.specs.Places.{folder_of}
use Rattle.store.specs.Sealed.{IsMade, Makes}
use Rattle.driver.proofs.Begin.{if_told}
use Rattle.driver.proofs.Settling.{open_top}
use Rattle.std.proofs.Common.{None, inl}
use Rattle.dir_disk.specs.State.{State}
use Rattle.store.specs.Ingesting.{IsReasonOf}
use Rattle.mining.specs.declared.stop.Stop.TheVariants.{NoMemory}
use Rattle.mining.specs.Stops.{of_ingest}
use Rattle.driver.specs.Causes.{IsOpened, found_in}
use Rattle.driver.specs.Opening.{mark_of}
use Rattle.driver.specs.declared.outcome.Outcome.TheVariants.{Done}
use Rattle.driver.proofs.Begin.{both_told}
use Rattle.driver.proofs.Causes.{exits, exits_by, of_reading}
use Rattle.driver.proofs.CausesUnmade.{refused_edges, refuses}
use Rattle.std.proofs.Common.{List, ℕ}
use Rattle.driver.specs.declared.outcome.Outcome.{Outcome}
use Rattle.mining.proofs.StoredLemmas.{err_is}
use Rattle.driver.proofs.Stored.{ingest_names_none}
use Rattle.driver.proofs.opening.make_edges.Goals as goal

pub returns-in_err-folder-clause-unmade : goal.returns-in_err-folder-clause-unmade
returns-in_err-folder-clause-unmade g c =
    λ tells refusal. absurd (refuses c.from_residual.result NoMemory c.from_residual.ensures.1 refusal)

pub returns-in_err-write_edges-clause-unmade : goal.returns-in_err-write_edges-clause-unmade
returns-in_err-write_edges-clause-unmade g c =
    λ tells refusal. refused_edges c.in_ok-folder.folder (g.S.Dir.told c.args.site.now) (g.S.Dir.told c.write_edges.new.dir) c.in_err-write_edges.field-0.0 c.in_ok-folder.ensures (λ q. g.met.S.Dir.now_allowed c.write_edges.new.dir q tells) (c.requires.unmarked tells) (refuses c.from_residual-in_err-write_edges.result (of_ingest c.in_err-write_edges.field-0.0) c.from_residual-in_err-write_edges.ensures.1 refusal) (c.in_err-write_edges.ensures.refused tells)

pub returns-in_err-folder-clause-opened : goal.returns-in_err-folder-clause-opened
returns-in_err-folder-clause-opened g c =
    exits (λ (bytes : List ℕ) (outcome : Outcome). (state : State) → mark_of Edges state ≡ None → IsOpened c.args.conf.now state bytes outcome) (g.E.Source.left c.args.edges.now) c.from_residual.result NoMemory c.from_residual.ensures.1 (λ bytes state none. tt)

pub returns-in_err-write_edges-clause-opened : goal.returns-in_err-write_edges-clause-opened
returns-in_err-write_edges-clause-opened g c =
    exits_by (λ (bytes : List ℕ) (outcome : Outcome). (state : State) → mark_of Edges state ≡ None → IsOpened c.args.conf.now state bytes outcome) (λ bytes. IsReasonOf (edges_of c.args.conf.now.nodes bytes) c.in_err-write_edges.field-0.0) (g.E.Source.left c.args.edges.now) c.from_residual-in_err-write_edges.result (of_ingest c.in_err-write_edges.field-0.0) c.from_residual-in_err-write_edges.ensures.1 (λ bytes reason state none. of_reading c.args.conf.now (found_in state) (edges_of c.args.conf.now.nodes bytes) c.in_err-write_edges.field-0.0 none reason) c.in_err-write_edges.ensures.reason

pub returns-clause-opened : goal.returns-clause-opened
returns-clause-opened g c =
    both_told (λ bytes. (edges_of c.args.conf.now.nodes bytes).refusal ≡ None) (λ bytes. (λ (bytes : List ℕ) (outcome : Outcome). (state : State) → mark_of Edges state ≡ None → IsOpened c.args.conf.now state bytes outcome) bytes Done) (g.E.Source.left c.args.edges.now) (λ bytes fine state none. inl (none, fine)) c.in_ok-write_edges.ensures.fine

pub returns-in_err-folder-clause-steps : goal.returns-in_err-folder-clause-steps
returns-in_err-folder-clause-steps g c =
    λ tells.
    let d : Told = g.S.Dir.told c.args.site.now in
    if_told (λ bytes. Through (Makes (folder_of Edges) (edges_text (edges_of c.args.conf.now.nodes bytes).edges) (files d)) d d) (g.E.Source.left c.args.edges.now) (λ bytes. started (Makes (folder_of Edges) (edges_text (edges_of c.args.conf.now.nodes bytes).edges) (files d)) d)

pub write_edges-requires-clause-unmarked : goal.write_edges-requires-clause-unmarked
write_edges-requires-clause-unmarked g c =
    λ tells. subst (λ (f : Names). IsUnmarked f (files (g.S.Dir.told c.args.site.now))) (sym c.in_ok-folder.ensures) (c.requires.unmarked tells)

pub write_edges-requires-clause-is_open : goal.write_edges-requires-clause-is_open
write_edges-requires-clause-is_open g c =
    λ tells.
    let d : Told = g.S.Dir.told c.args.site.now in
    subst (λ (f : Names). IsOpen (files d) f) (sym c.in_ok-folder.ensures) (open_top Edges (files d) (g.met.S.Dir.top_is_no_file c.args.site.now (files d []).now tells (g.met.S.Dir.now_allowed c.args.site.now [] tells)))

pub returns-in_err-write_edges-clause-steps : goal.returns-in_err-write_edges-clause-steps
returns-in_err-write_edges-clause-steps g c =
    λ tells.
    let d : Told = g.S.Dir.told c.args.site.now in
    let e : Told = g.S.Dir.told c.write_edges.new.dir in
    subst (λ (f : Names). IfSome (g.E.Source.left c.args.edges.now) (λ bytes. Through (Makes f (edges_text (edges_of c.args.conf.now.nodes bytes).edges) (files d)) d e)) c.in_ok-folder.ensures (c.write_edges.ensures.steps tells)

pub returns-clause-steps : goal.returns-clause-steps
returns-clause-steps g c =
    λ tells.
    let d : Told = g.S.Dir.told c.args.site.now in
    let e : Told = g.S.Dir.told c.write_edges.new.dir in
    subst (λ (f : Names). IfSome (g.E.Source.left c.args.edges.now) (λ bytes. Through (Makes f (edges_text (edges_of c.args.conf.now.nodes bytes).edges) (files d)) d e)) c.in_ok-folder.ensures (c.write_edges.ensures.steps tells)

pub returns-clause-made : goal.returns-clause-made
returns-clause-made g c =
    λ tells.
    let e : Told = g.S.Dir.told c.write_edges.new.dir in
    subst (λ (f : Names). IfSome (g.E.Source.left c.args.edges.now) (λ bytes. IsMade f (edges_text (edges_of c.args.conf.now.nodes bytes).edges) (files e))) c.in_ok-folder.ensures (c.in_ok-write_edges.ensures.made tells)

pub returns-in_err-write_edges-clause-outside : goal.returns-in_err-write_edges-clause-outside
returns-in_err-write_edges-clause-outside g c =
    λ tells.
    let d : Told = g.S.Dir.told c.args.site.now in
    subst (λ (f : Names). Through (Both (StandsOutside f (files d))) d (g.S.Dir.told c.write_edges.new.dir)) c.in_ok-folder.ensures (c.write_edges.ensures.outside tells)

pub returns-clause-outside : goal.returns-clause-outside
returns-clause-outside g c =
    λ tells.
    let d : Told = g.S.Dir.told c.args.site.now in
    subst (λ (f : Names). Through (Both (StandsOutside f (files d))) d (g.S.Dir.told c.write_edges.new.dir)) c.in_ok-folder.ensures (c.write_edges.ensures.outside tells)

pub returns-clause-whole : goal.returns-clause-whole
returns-clause-whole g c =
    λ tells.
    subst (λ (f : Names). files (g.S.Dir.told c.write_edges.new.dir) (success_of f) ≡ fixed (Some [])) c.in_ok-folder.ensures (c.in_ok-write_edges.ensures.whole tells)

pub returns-in_err-write_edges-clause-no_store : goal.returns-in_err-write_edges-clause-no_store
returns-in_err-write_edges-clause-no_store g c =
    err_is (λ path line. ⊥) c.from_residual-in_err-write_edges.result (of_ingest c.in_err-write_edges.field-0.0) c.from_residual-in_err-write_edges.ensures.1 (ingest_names_none (λ path line. ⊥) c.in_err-write_edges.field-0.0)
