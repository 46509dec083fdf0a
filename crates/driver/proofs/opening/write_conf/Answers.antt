use Rattle.std.proofs.Common.{[], ◌∷◌, sym, subst}
use Rattle.peg_base.specs.Names.{Names}
use Rattle.peg_base.proofs.Under.{under-append}
use Rattle.dir_disk.specs.State.{StandsOutside}
use Rattle.dir_disk.specs.Moments.{Both, Through, Told, files}
use Rattle.dir_disk.proofs.Keeping.{stands_then}
use Rattle.dir_disk.specs.Calls.{IsOpen}
use Rattle.committer.specs.Paths.{success_name}
use Rattle.committer.proofs.FolderLemmas.{empty_is_unmarked}
use Rattle.mining.specs.declared.place.Place.TheVariants.{Conf}
use Rattle.store.specs.Sealed.{IsMade}
use Rattle.driver.proofs.Settling.{open_top}
use Rattle.driver.proofs.Sealing.{drops_outside, makes_outside}
use Rattle.driver.proofs.opening.write_conf.Goals as goal

pub returns-in_err-drop_folder-clause-outside : goal.returns-in_err-drop_folder-clause-outside
returns-in_err-drop_folder-clause-outside g c =
    λ tells.
    let d : Told = g.S.Dir.told c.args.site.now in
    let e : Told = g.S.Dir.told c.drop_folder.new.dir in
    subst (λ (f : Names). Through (Both (StandsOutside f (files d))) d e) c.requires.folder (drops_outside c.args.folder.now d e (c.drop_folder.ensures.steps tells))

pub write_text-requires-clause-unmarked : goal.write_text-requires-clause-unmarked
write_text-requires-clause-unmarked g c =
    λ tells. empty_is_unmarked c.args.folder.now c.args.folder.now (files (g.S.Dir.told c.drop_folder.new.dir)) (under-append c.args.folder.now (success_name ∷ [])) (c.in_ok-drop_folder.ensures.empty tells)

pub write_text-requires-clause-is_open : goal.write_text-requires-clause-is_open
write_text-requires-clause-is_open g c =
    λ tells.
    let e : Told = g.S.Dir.told c.drop_folder.new.dir in
    subst (λ (f : Names). IsOpen (files e) f) (sym c.requires.folder) (open_top Conf (files e) (g.met.S.Dir.top_is_no_file c.drop_folder.new.dir (files e []).now tells (g.met.S.Dir.now_allowed c.drop_folder.new.dir [] tells)))

pub returns-in_err-write_text-clause-outside : goal.returns-in_err-write_text-clause-outside
returns-in_err-write_text-clause-outside g c =
    λ tells.
    let d : Told = g.S.Dir.told c.args.site.now in
    let e : Told = g.S.Dir.told c.drop_folder.new.dir in
    let f : Told = g.S.Dir.told c.write_text.new.dir in
    subst (λ (n : Names). Through (Both (StandsOutside n (files d))) d f) c.requires.folder (stands_then c.args.folder.now d e f (drops_outside c.args.folder.now d e (c.drop_folder.ensures.steps tells)) (makes_outside c.args.folder.now c.args.text.now e f (c.write_text.ensures.steps tells)))

pub returns-clause-outside : goal.returns-clause-outside
returns-clause-outside g c =
    λ tells.
    let d : Told = g.S.Dir.told c.args.site.now in
    let e : Told = g.S.Dir.told c.drop_folder.new.dir in
    let f : Told = g.S.Dir.told c.write_text.new.dir in
    subst (λ (n : Names). Through (Both (StandsOutside n (files d))) d f) c.requires.folder (stands_then c.args.folder.now d e f (drops_outside c.args.folder.now d e (c.drop_folder.ensures.steps tells)) (makes_outside c.args.folder.now c.args.text.now e f (c.write_text.ensures.steps tells)))

pub returns-clause-made : goal.returns-clause-made
returns-clause-made g c =
    λ tells. subst (λ (n : Names). IsMade n c.args.text.now (files (g.S.Dir.told c.write_text.new.dir))) c.requires.folder (c.in_ok-write_text.ensures.made tells)
