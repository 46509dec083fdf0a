use Rattle.std.proofs.Common.{map}
use Rattle.std.specs.String.{string_bytes}
use Rattle.driver.proofs.Headline.{console_asked, done_asked, iterates_asked, kept_asked, said_asked, unblamed_asked, written_asked}
use Rattle.driver.proofs.Causes.{opened_asked}
use Rattle.driver.proofs.commands.run.Goals as goal

pub returns-clause-opened : goal.returns-clause-opened
returns-clause-opened g c =
    λ conf accepted asks tells. opened_asked g.S.Dir.tells (g.S.Dir.told c.args.site.now) c.carry_out.result (map string_bytes c.args.words.now) (g.E.Source.left c.args.edges.now) conf accepted asks (c.carry_out.ensures.opened conf asks.mean asks.mines asks.form) tells

pub returns-clause-kept : goal.returns-clause-kept
returns-clause-kept g c =
    λ conf accepted asks told kept. (kept, kept_asked g.S.Site.gives g.S.Dir.tells (g.S.Dir.told c.args.site.now) (g.S.Dir.told c.carry_out.new.site) (g.S.Console.said c.args.site.now) (g.S.Console.said c.carry_out.new.site) c.carry_out.result (map string_bytes c.args.words.now) (g.E.Source.left c.args.edges.now) conf accepted asks (c.carry_out.ensures.kept conf asks.mean) told kept)

pub returns-clause-said : goal.returns-clause-said
returns-clause-said g c =
    λ conf accepted k l asks. said_asked g.S.Site.gives g.S.Dir.tells (g.S.Dir.told c.args.site.now) (g.S.Dir.told c.carry_out.new.site) (g.S.Console.said c.args.site.now) (g.S.Console.said c.carry_out.new.site) c.carry_out.result (map string_bytes c.args.words.now) (g.E.Source.left c.args.edges.now) conf accepted asks (c.carry_out.ensures.said conf asks.mean) k l

pub returns-clause-done : goal.returns-clause-done
returns-clause-done g c =
    λ conf accepted k asks. done_asked g.S.Site.gives g.S.Dir.tells (g.S.Dir.told c.args.site.now) (g.S.Dir.told c.carry_out.new.site) (g.S.Console.said c.args.site.now) (g.S.Console.said c.carry_out.new.site) c.carry_out.result (map string_bytes c.args.words.now) (g.E.Source.left c.args.edges.now) conf accepted asks (c.carry_out.ensures.done conf asks.mean) k

pub returns-clause-iterates : goal.returns-clause-iterates
returns-clause-iterates g c =
    λ conf accepted asks told children kept. iterates_asked g.S.Site.gives g.S.Dir.tells (g.S.Dir.told c.args.site.now) (g.S.Dir.told c.carry_out.new.site) (g.S.Console.said c.args.site.now) (g.S.Console.said c.carry_out.new.site) c.carry_out.result (map string_bytes c.args.words.now) (g.E.Source.left c.args.edges.now) conf accepted asks children (c.meanings_are_within_limits.ensures _ _ asks.mean) kept
    (kept_asked g.S.Site.gives g.S.Dir.tells (g.S.Dir.told c.args.site.now) (g.S.Dir.told c.carry_out.new.site) (g.S.Console.said c.args.site.now) (g.S.Console.said c.carry_out.new.site) c.carry_out.result (map string_bytes c.args.words.now) (g.E.Source.left c.args.edges.now) conf accepted asks (c.carry_out.ensures.kept conf asks.mean) told kept)

pub returns-clause-lines : goal.returns-clause-lines
returns-clause-lines g c =
    λ conf accepted k last asks told children kept from first. console_asked g.S.Site.gives g.S.Dir.tells (g.S.Dir.told c.args.site.now) (g.S.Dir.told c.carry_out.new.site) (g.S.Console.said c.args.site.now) (g.S.Console.said c.carry_out.new.site) c.carry_out.result (map string_bytes c.args.words.now) (g.E.Source.left c.args.edges.now) conf accepted asks children (c.meanings_are_within_limits.ensures _ _ asks.mean) k last first
    (said_asked g.S.Site.gives g.S.Dir.tells (g.S.Dir.told c.args.site.now) (g.S.Dir.told c.carry_out.new.site) (g.S.Console.said c.args.site.now) (g.S.Console.said c.carry_out.new.site) c.carry_out.result (map string_bytes c.args.words.now) (g.E.Source.left c.args.edges.now) conf accepted asks (c.carry_out.ensures.said conf asks.mean) k last told kept from)

pub returns-clause-written : goal.returns-clause-written
returns-clause-written g c =
    λ conf accepted k asks told children kept from is. written_asked g.S.Site.gives g.S.Dir.tells (g.S.Dir.told c.args.site.now) (g.S.Dir.told c.carry_out.new.site) (g.S.Console.said c.args.site.now) (g.S.Console.said c.carry_out.new.site) c.carry_out.result (map string_bytes c.args.words.now) (g.E.Source.left c.args.edges.now) conf accepted asks children (c.meanings_are_within_limits.ensures _ _ asks.mean) k kept
    (kept_asked g.S.Site.gives g.S.Dir.tells (g.S.Dir.told c.args.site.now) (g.S.Dir.told c.carry_out.new.site) (g.S.Console.said c.args.site.now) (g.S.Console.said c.carry_out.new.site) c.carry_out.result (map string_bytes c.args.words.now) (g.E.Source.left c.args.edges.now) conf accepted asks (c.carry_out.ensures.kept conf asks.mean) told kept)
    (done_asked g.S.Site.gives g.S.Dir.tells (g.S.Dir.told c.args.site.now) (g.S.Dir.told c.carry_out.new.site) (g.S.Console.said c.args.site.now) (g.S.Console.said c.carry_out.new.site) c.carry_out.result (map string_bytes c.args.words.now) (g.E.Source.left c.args.edges.now) conf accepted asks (c.carry_out.ensures.done conf asks.mean) k told kept from is)

pub returns-clause-unblamed : goal.returns-clause-unblamed
returns-clause-unblamed g c =
    λ conf accepted path line asks told children kept. unblamed_asked g.S.Site.gives g.S.Dir.tells (g.S.Dir.told c.args.site.now) (g.S.Dir.told c.carry_out.new.site) (g.S.Console.said c.args.site.now) (g.S.Console.said c.carry_out.new.site) c.carry_out.result (map string_bytes c.args.words.now) (g.E.Source.left c.args.edges.now) conf accepted asks children (c.meanings_are_within_limits.ensures _ _ asks.mean) (λ q. g.met.S.Dir.now_allowed c.carry_out.new.site q told) kept
    (kept_asked g.S.Site.gives g.S.Dir.tells (g.S.Dir.told c.args.site.now) (g.S.Dir.told c.carry_out.new.site) (g.S.Console.said c.args.site.now) (g.S.Console.said c.carry_out.new.site) c.carry_out.result (map string_bytes c.args.words.now) (g.E.Source.left c.args.edges.now) conf accepted asks (c.carry_out.ensures.kept conf asks.mean) told kept) path line (c.carry_out.ensures.stored conf path line asks.mean told)
