use Rattle.mining.proofs.DueLemmas.{drops_firm, drops_keep, drops_stay}
use Rattle.mining.proofs.iterate.drop_messages.Goals as goal

pub returns-in_err-drop_folder-clause-stays : goal.returns-in_err-drop_folder-clause-stays
returns-in_err-drop_folder-clause-stays g c =
    λ tells.
    drops_stay c.args.k c.in_ok-folder.folder c.in_ok-folder.ensures (g.S.Dir.told c.args.site.now) (g.S.Dir.told c.drop_folder.new.dir) (λ q. g.met.S.Dir.now_allowed c.args.site.now q tells) (c.requires.some, c.requires.few) (c.drop_folder.ensures.steps tells)

pub returns-clause-stays : goal.returns-clause-stays
returns-clause-stays g c =
    λ tells.
    drops_stay c.args.k c.in_ok-folder.folder c.in_ok-folder.ensures (g.S.Dir.told c.args.site.now) (g.S.Dir.told c.drop_folder.new.dir) (λ q. g.met.S.Dir.now_allowed c.args.site.now q tells) (c.requires.some, c.requires.few) (c.drop_folder.ensures.steps tells)

pub returns-in_err-drop_folder-clause-kept : goal.returns-in_err-drop_folder-clause-kept
returns-in_err-drop_folder-clause-kept g c =
    λ mining tells kept next.
    drops_keep c.args.k c.in_ok-folder.folder c.in_ok-folder.ensures (g.S.Dir.told c.args.site.now) (g.S.Dir.told c.drop_folder.new.dir) (λ q. g.met.S.Dir.now_allowed c.args.site.now q tells) (c.requires.some, c.requires.few) (c.drop_folder.ensures.steps tells) mining kept next

pub returns-clause-kept : goal.returns-clause-kept
returns-clause-kept g c =
    λ mining tells kept next.
    drops_keep c.args.k c.in_ok-folder.folder c.in_ok-folder.ensures (g.S.Dir.told c.args.site.now) (g.S.Dir.told c.drop_folder.new.dir) (λ q. g.met.S.Dir.now_allowed c.args.site.now q tells) (c.requires.some, c.requires.few) (c.drop_folder.ensures.steps tells) mining kept next

pub returns-clause-firm : goal.returns-clause-firm
returns-clause-firm g c =
    λ tells.
    drops_firm c.args.k c.in_ok-folder.folder c.in_ok-folder.ensures (g.S.Dir.told c.args.site.now) (g.S.Dir.told c.drop_folder.new.dir) (λ q. g.met.S.Dir.now_allowed c.args.site.now q tells) (c.requires.some, c.requires.few) (c.drop_folder.ensures.steps tells) (c.requires.firm tells) (c.in_ok-drop_folder.ensures.empty tells)
