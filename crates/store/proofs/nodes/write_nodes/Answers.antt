use Rattle.std.proofs.Common.{◌≡◌, ◌∙◌, ◌++◌, ℕ, List, OnOk, sym, subst, arith, rules}
use Rattle.peg_base.specs.Names.{Names}
use Rattle.dir_disk.specs.Moments.{Through, files}
use Rattle.committer.specs.Folders.{Writes}
use Rattle.store.specs.Sealed.{IsGathering, IsMade, IsWriting, Makes, node_line, nodes_text}
use Rattle.store.proofs.SealedLemmas.{gathering_more, gathering_sent, nodes_more, steps_of_writing}
use Rattle.store.proofs.nodes.write_nodes.Goals as goal

pub returns-in_err-sealing-clause-steps : goal.returns-in_err-sealing-clause-steps
returns-in_err-sealing-clause-steps g c =
    λ tells. steps_of_writing c.args.folder.now (nodes_text c.args.nodes) (g.D.Dir.told c.args.dir.now) (g.D.Dir.told c.begin_sealed.new.dir) (c.begin_sealed.ensures.steps tells)

pub returns-in_err-append_node-clause-steps : goal.returns-in_err-append_node-clause-steps
returns-in_err-append_node-clause-steps g c =
    λ tells. steps_of_writing c.args.folder.now (nodes_text c.args.nodes) (g.D.Dir.told c.args.dir.now) (g.D.Dir.told c.loop-node.dir) (c.loop-node.invariant.gathering tells).writing.steps

pub returns-in_err-send_full-clause-steps : goal.returns-in_err-send_full-clause-steps
returns-in_err-send_full-clause-steps g c =
    λ tells.
    let a = g.D.Dir.told c.args.dir.now in
    let b = g.D.Dir.told c.loop-node.dir in
    let d = g.D.Dir.told c.send_full.new.dir in
    let node = c.loop-node.node in
    let same = c.loop-node.invariant.folder in
    let more = gathering_more c.args.folder.now (nodes_text node) c.loop-node.held.items (node_line node) c.append_node.new.out.items a b (c.loop-node.invariant.gathering tells) c.in_ok-append_node.ensures in
    let steps = c.send_full.ensures.steps tells a (nodes_text node ++ node_line node) (subst (λ (f : Names). IsGathering f (nodes_text node ++ node_line node) c.append_node.new.out.items a b) (sym same) more) in
    steps_of_writing c.args.folder.now (nodes_text c.args.nodes) a d (subst (λ (f : Names). Through (Writes f (files a)) a d) same steps)

pub loop-node-preserved : goal.loop-node-preserved
loop-node-preserved g c =
    record {
      folder = c.in_ok-send_full.ensures.folder ∙ c.loop-node.invariant.folder;
      gathering =
          λ tells.
          let a = g.D.Dir.told c.args.dir.now in
          let b = g.D.Dir.told c.loop-node.dir in
          let d = g.D.Dir.told c.send_full.new.dir in
          let node = c.loop-node.node in
          let same = c.loop-node.invariant.folder in
          let more = gathering_more c.args.folder.now (nodes_text node) c.loop-node.held.items (node_line node) c.append_node.new.out.items a b (c.loop-node.invariant.gathering tells) c.in_ok-append_node.ensures in
          let sent = c.in_ok-send_full.ensures.gathering tells a (nodes_text node ++ node_line node) (subst (λ (f : Names). IsGathering f (nodes_text node ++ node_line node) c.append_node.new.out.items a b) (sym same) more) in
          subst (λ (l : List ℕ). IsGathering c.args.folder.now l c.send_full.new.held.items a d) (sym (nodes_more node)) (subst (λ (f : Names). IsGathering f (nodes_text node ++ node_line node) c.send_full.new.held.items a d) same sent);
      lent = search rules;
      beside = search rules;
      later = search rules;
    }

pub returns-in_err-send-clause-steps : goal.returns-in_err-send-clause-steps
returns-in_err-send-clause-steps g c =
    λ tells.
    let a = g.D.Dir.told c.args.dir.now in
    let b = g.D.Dir.told c.loop-node.dir in
    let d = g.D.Dir.told c.send.new.dir in
    let same = c.loop-node.invariant.folder in
    let gathering = c.loop-node.invariant.gathering tells in
    let steps = c.send.ensures.steps tells a gathering.sofar (subst (λ (f : Names). IsWriting f gathering.sofar a b) (sym same) gathering.writing) in
    steps_of_writing c.args.folder.now (nodes_text c.args.nodes) a d (subst (λ (f : Names). Through (Writes f (files a)) a d) same steps)

pub returns-clause-made : goal.returns-clause-made
returns-clause-made g c =
    λ tells.
    let a = g.D.Dir.told c.args.dir.now in
    let b = g.D.Dir.told c.loop-node.dir in
    let d = g.D.Dir.told c.send.new.dir in
    let e = g.D.Dir.told c.seal.new.dir in
    let same = c.loop-node.invariant.folder in
    let after : c.send.new.sealing ≡ c.args.folder.now = c.in_ok-send.ensures.folder ∙ same in
    let text : List ℕ = nodes_text c.loop-node.node in
    let gathering = c.loop-node.invariant.gathering tells in
    let sent = c.in_ok-send.ensures.writing tells a gathering.sofar (subst (λ (f : Names). IsWriting f gathering.sofar a b) (sym same) gathering.writing) in
    let all : IsWriting c.loop-node.sealing text a d = gathering_sent c.loop-node.sealing text c.loop-node.held.items c.deref.result.now a d gathering.sofar gathering.all c.deref.ensures.value sent in
    let made = c.seal.ensures.made tells a text (subst (λ (f : Names). IsWriting f text a d) (sym c.in_ok-send.ensures.folder) all) in
    let end : c.loop-node.node ≡ c.args.nodes = omega arith in
    subst (λ (n : ℕ). OnOk c.seal.result (IsMade c.args.folder.now (nodes_text n) (files e))) end (subst (λ (f : Names). OnOk c.seal.result (IsMade f text (files e))) after made)

pub returns-clause-steps : goal.returns-clause-steps
returns-clause-steps g c =
    λ tells.
    let a = g.D.Dir.told c.args.dir.now in
    let b = g.D.Dir.told c.loop-node.dir in
    let d = g.D.Dir.told c.send.new.dir in
    let e = g.D.Dir.told c.seal.new.dir in
    let same = c.loop-node.invariant.folder in
    let after : c.send.new.sealing ≡ c.args.folder.now = c.in_ok-send.ensures.folder ∙ same in
    let text : List ℕ = nodes_text c.loop-node.node in
    let gathering = c.loop-node.invariant.gathering tells in
    let sent = c.in_ok-send.ensures.writing tells a gathering.sofar (subst (λ (f : Names). IsWriting f gathering.sofar a b) (sym same) gathering.writing) in
    let all : IsWriting c.loop-node.sealing text a d = gathering_sent c.loop-node.sealing text c.loop-node.held.items c.deref.result.now a d gathering.sofar gathering.all c.deref.ensures.value sent in
    let steps = c.seal.ensures.steps tells a text (subst (λ (f : Names). IsWriting f text a d) (sym c.in_ok-send.ensures.folder) all) in
    let end : c.loop-node.node ≡ c.args.nodes = omega arith in
    subst (λ (n : ℕ). Through (Makes c.args.folder.now (nodes_text n) (files a)) a e) end (subst (λ (f : Names). Through (Makes f text (files a)) a e) after steps)
