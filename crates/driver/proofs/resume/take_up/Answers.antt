use Rattle.std.proofs.Common.{◌^◌, ◌<◌, arith}
use Rattle.mining.specs.Flow.{Mining, mining_of}
use Rattle.mining.proofs.EnsureLemmas.{looks_keep, looks_stay, stays_then}
use Rattle.driver.proofs.TakenUp.{taken_kept}
use Rattle.dir_disk.specs.Moments.{files}
use Rattle.mining.specs.Stored.{IsNotAsMade}
use Rattle.mining.proofs.StoredLemmas.{err_is}
use Rattle.driver.proofs.Stored.{exits_none}
use Rattle.mining.proofs.EnsureLemmas.{stays_after}
use Rattle.mining.proofs.ReadLemmas.{vector_stays}
use Rattle.driver.proofs.resume.take_up.Goals as goal

pub returns-in_err-changed-clause-stays : goal.returns-in_err-changed-clause-stays
returns-in_err-changed-clause-stays g c =
    λ tells. looks_stay (g.S.Dir.told c.args.site.now) (g.S.Dir.told c.read_count.new.site) (c.read_count.ensures.stands tells)

pub returns-in_err-changed-clause-kept : goal.returns-in_err-changed-clause-kept
returns-in_err-changed-clause-kept g c =
    λ edges tells kept sure. looks_keep (mining_of g.S.Site.gives c.args.conf.now edges) (g.S.Dir.told c.args.site.now) (g.S.Dir.told c.read_count.new.site) kept (c.read_count.ensures.stands tells)

pub returns-in_err-drop_messages-clause-stays : goal.returns-in_err-drop_messages-clause-stays
returns-in_err-drop_messages-clause-stays g c =
    λ tells. stays_then (g.S.Dir.told c.args.site.now) (g.S.Dir.told c.read_count.new.site) (g.S.Dir.told c.drop_messages.new.site) (looks_stay (g.S.Dir.told c.args.site.now) (g.S.Dir.told c.read_count.new.site) (c.read_count.ensures.stands tells)) (c.drop_messages.ensures.stays tells)

pub returns-in_err-drop_messages-clause-kept : goal.returns-in_err-drop_messages-clause-kept
returns-in_err-drop_messages-clause-kept g c =
    λ edges tells kept sure.
    let mining : Mining = mining_of g.S.Site.gives c.args.conf.now edges in
    let few : c.args.k < 10 ^ 10 = (let most = c.requires.few in omega (arith, most)) in
    taken_kept mining c.args.k (g.S.Dir.told c.args.site.now) (g.S.Dir.told c.read_count.new.site) (g.S.Dir.told c.drop_messages.new.site) (λ q. g.met.S.Dir.now_allowed c.read_count.new.site q tells) c.requires.some few kept sure (c.read_count.ensures.stands tells) (λ there next. c.drop_messages.ensures.kept mining tells there next)

pub returns-clause-stays : goal.returns-clause-stays
returns-clause-stays g c =
    λ tells. stays_then (g.S.Dir.told c.args.site.now) (g.S.Dir.told c.read_count.new.site) (g.S.Dir.told c.drop_messages.new.site) (looks_stay (g.S.Dir.told c.args.site.now) (g.S.Dir.told c.read_count.new.site) (c.read_count.ensures.stands tells)) (c.drop_messages.ensures.stays tells)

pub returns-clause-kept : goal.returns-clause-kept
returns-clause-kept g c =
    λ edges tells kept sure.
    let mining : Mining = mining_of g.S.Site.gives c.args.conf.now edges in
    let few : c.args.k < 10 ^ 10 = (let most = c.requires.few in omega (arith, most)) in
    taken_kept mining c.args.k (g.S.Dir.told c.args.site.now) (g.S.Dir.told c.read_count.new.site) (g.S.Dir.told c.drop_messages.new.site) (λ q. g.met.S.Dir.now_allowed c.read_count.new.site q tells) c.requires.some few kept sure (c.read_count.ensures.stands tells) (λ there next. c.drop_messages.ensures.kept mining tells there next)

pub returns-in_err-changed-clause-stored : goal.returns-in_err-changed-clause-stored
returns-in_err-changed-clause-stored g c =
    λ tells sure. err_is (IsNotAsMade c.args.conf.now (files (g.S.Dir.told c.read_count.new.site))) c.from_residual.result c.in_err-changed.field-0.0 c.from_residual.ensures.1 (c.in_err-changed.ensures.stored tells sure)

pub returns-in_err-drop_messages-clause-stored : goal.returns-in_err-drop_messages-clause-stored
returns-in_err-drop_messages-clause-stored g c =
    λ tells sure. exits_none (IsNotAsMade c.args.conf.now (files (g.S.Dir.told c.drop_messages.new.site))) c.from_residual-in_err-drop_messages.result c.in_err-drop_messages.field-0.0 c.from_residual-in_err-drop_messages.ensures.1 c.in_err-drop_messages.ensures.no_store

pub returns-clause-read : goal.returns-clause-read
returns-clause-read g c =
    λ tells sure ends.
    let few : c.args.k < 10 ^ 10 = (let most = c.requires.few in omega (arith, most)) in
    vector_stays c.args.conf.now c.args.k (files (g.S.Dir.told c.read_count.new.site)) (files (g.S.Dir.told c.drop_messages.new.site)) few (stays_after (g.S.Dir.told c.read_count.new.site) (g.S.Dir.told c.drop_messages.new.site) (c.drop_messages.ensures.stays tells)) (c.in_ok-changed.ensures.read tells sure ends)
