use Rattle.driver.proofs.Logging.{none_run, quiet_answer, run_after, run_within, there_few}
use Rattle.mining.proofs.Failures.{begun_answer}
use Rattle.mining.proofs.LastLemmas.{most_small}
use Rattle.mining.specs.Flow.{most_of}
use Rattle.mining.specs.Jobs.{rank_after, rank_behind}
use Rattle.driver.specs.Logged.{RunsJobs}
use Rattle.std.proofs.Common.{Some, arith}
use Rattle.driver.proofs.Finished.{whole_finished}
use Rattle.mining.proofs.EnsureLemmas.{stays_then}
use Rattle.std.proofs.Common.{ap}
use Rattle.dir_disk.specs.Moments.{EachImage, Through, Told, files}
use Rattle.dir_disk.proofs.Through.{then_goes}
use Rattle.conf.specs.Rules.{is_clustered}
use Rattle.mining.specs.Flow.{Mining, mining_of}
use Rattle.mining.specs.Kept.{Kept}
use Rattle.mining.proofs.EnsureLemmas.{kept_after}
use Rattle.std.proofs.Common.{List, ℕ, subst}
use Rattle.std.specs.Prelude.{unwrap_or}
use Rattle.dir_disk.specs.Moments.{files}
use Rattle.dir_disk.specs.Streams.{AddsPart}
use Rattle.mining.specs.Kept.{AllKept}
use Rattle.mining.specs.Iterations.{IsDone, console_after}
use Rattle.mining.proofs.EnsureLemmas.{on_ok}
use Rattle.mining.proofs.LastLemmas.{part_longer, part_then}
use Rattle.driver.specs.Opening.{HasRun, from_text}
use Rattle.driver.proofs.Starting.{console_is, has_run}
use Rattle.mining.specs.Stored.{IsNotAsMade}
use Rattle.std.proofs.Common.{refl, sym}
use Rattle.conf.specs.declared.commands.Form.{Form}
use Rattle.mining.specs.Table.{matrix_for}
use Rattle.mining.specs.Between.{IsSure}
use Rattle.mining.specs.declared.place.Place.TheVariants.{Matrix}
use Rattle.mining.proofs.EnsureLemmas.{stays_after, sure_kept}
use Rattle.mining.proofs.StoredLemmas.{err_is}
use Rattle.driver.specs.Opening.{first_read}
use Rattle.std.proofs.Common.{◌^◌, ◌<◌}
use Rattle.driver.proofs.Vectors.{joined}
use Rattle.driver.proofs.mining_run.go_on.Goals as goal

pub returns-in_err-from-clause-kept : goal.returns-in_err-from-clause-kept
returns-in_err-from-clause-kept g c = λ edges tells kept form. c.start.ensures.kept edges tells kept

pub returns-clause-kept : goal.returns-clause-kept
returns-clause-kept g c =
    λ edges tells kept form.
    let mining : Mining = mining_of g.S.Site.gives c.args.conf.now edges in
    let d : Told = g.S.Dir.told c.args.site.now in
    let e : Told = g.S.Dir.told c.start.new.site in
    let first : Through (EachImage (Kept mining)) d e = c.start.ensures.kept edges tells kept in
    then_goes (EachImage (Kept mining)) d e (g.S.Dir.told c.mine_on.new.site) first (c.mine_on.ensures.kept edges tells (kept_after mining d e kept first) (c.in_ok-from.ensures.at edges tells kept) (ap is_clustered form))

pub returns-in_err-from-clause-stays : goal.returns-in_err-from-clause-stays
returns-in_err-from-clause-stays g c = λ tells. whole_finished (g.S.Dir.told c.args.site.now) (g.S.Dir.told c.start.new.site) (c.start.ensures.stays tells)

pub returns-clause-stays : goal.returns-clause-stays
returns-clause-stays g c =
    λ tells. whole_finished (g.S.Dir.told c.args.site.now) (g.S.Dir.told c.mine_on.new.site) (stays_then (g.S.Dir.told c.args.site.now) (g.S.Dir.told c.start.new.site) (g.S.Dir.told c.mine_on.new.site) (c.start.ensures.stays tells) (c.mine_on.ensures.stays tells))

pub returns-clause-acked : goal.returns-clause-acked
returns-clause-acked g c =
    λ entry had tells acks. c.mine_on.ensures.acked entry had tells (c.start.ensures.acked entry had tells acks)

pub returns-in_err-from-clause-part : goal.returns-in_err-from-clause-part
returns-in_err-from-clause-part g c =
    λ edges k l tells kept form from last.
    let mining : Mining = mining_of g.S.Site.gives c.args.conf.now edges in
    subst (λ (text : List ℕ). AddsPart (g.S.Console.said c.args.site.now) (g.S.Console.said c.start.new.site) text) (console_is mining k l) (part_longer (g.S.Console.said c.args.site.now) (g.S.Console.said c.start.new.site) (from_text mining k) (console_after mining (unwrap_or k 0) l) (c.start.ensures.part edges k tells kept from))

pub returns-clause-part : goal.returns-clause-part
returns-clause-part g c =
    λ edges k l tells kept form from last.
    let mining : Mining = mining_of g.S.Site.gives c.args.conf.now edges in
    let d : Told = (g.S.Dir.told c.args.site.now) in
    let e : Told = (g.S.Dir.told c.start.new.site) in
    let first : Through (EachImage (Kept mining)) d e = c.start.ensures.kept edges tells kept in
    let then_kept : AllKept mining (files e) = kept_after mining d e kept first in
    let rest = c.mine_on.ensures.part edges l tells then_kept (c.in_ok-from.ensures.at edges tells kept) (ap is_clustered form) last in
    subst (λ (text : List ℕ). AddsPart (g.S.Console.said c.args.site.now) (g.S.Console.said c.mine_on.new.site) text) (console_is mining k l) (part_then (g.S.Console.said c.args.site.now) (g.S.Console.said c.start.new.site) (g.S.Console.said c.mine_on.new.site) (from_text mining k) (console_after mining (unwrap_or k 0) l) (c.in_ok-from.ensures.ok edges k tells kept from) (subst (λ (j : ℕ). AddsPart (g.S.Console.said c.start.new.site) (g.S.Console.said c.mine_on.new.site) (console_after mining j l)) (c.in_ok-from.ensures.is k tells from) rest))

pub returns-clause-done : goal.returns-clause-done
returns-clause-done g c =
    λ edges k tells kept form from.
    let mining : Mining = mining_of g.S.Site.gives c.args.conf.now edges in
    let d : Told = (g.S.Dir.told c.args.site.now) in
    let e : Told = (g.S.Dir.told c.start.new.site) in
    let first : Through (EachImage (Kept mining)) d e = c.start.ensures.kept edges tells kept in
    let then_kept : AllKept mining (files e) = kept_after mining d e kept first in
    let rest = c.mine_on.ensures.done edges tells then_kept (c.in_ok-from.ensures.at edges tells kept) (ap is_clustered form) in
    on_ok (IsDone mining c.in_ok-from.from.k (g.S.Console.said c.start.new.site) (g.S.Console.said c.mine_on.new.site) (files (g.S.Dir.told c.mine_on.new.site))) (HasRun mining k (g.S.Console.said c.args.site.now) (g.S.Console.said c.mine_on.new.site) (files (g.S.Dir.told c.mine_on.new.site))) c.mine_on.result (has_run mining k c.in_ok-from.from.k (g.S.Console.said c.args.site.now) (g.S.Console.said c.start.new.site) (g.S.Console.said c.mine_on.new.site) (files (g.S.Dir.told c.mine_on.new.site)) (c.in_ok-from.ensures.is k tells from) (c.in_ok-from.ensures.ok edges k tells kept from)) rest

pub returns-in_err-from-clause-jobs : goal.returns-in_err-from-clause-jobs
returns-in_err-from-clause-jobs g c =
    none_run g.S.Dir.tells g.S.Site.gives c.args.conf.now (rank_after 0) rank_behind (g.S.Site.seen c.args.site.now) (g.S.Site.seen c.start.new.site) (g.S.Site.given c.args.site.now) (g.S.Site.given c.start.new.site) (g.S.Dir.told c.start.new.site) c.from_residual.result (omega arith) c.start.ensures.seen c.start.ensures.given

pub returns-in_err-from-clause-past : goal.returns-in_err-from-clause-past
returns-in_err-from-clause-past g c =
    λ k tells from.
    let small = most_small c.args.conf.now c.requires.limits in
    let few = there_few c.args.had_first (most_of c.args.conf.now c.args.conf.now.command) k (files (g.S.Dir.told c.args.site.now)) from in
    none_run g.S.Dir.tells g.S.Site.gives c.args.conf.now (rank_after k) rank_behind (g.S.Site.seen c.args.site.now) (g.S.Site.seen c.start.new.site) (g.S.Site.given c.args.site.now) (g.S.Site.given c.start.new.site) (g.S.Dir.told c.start.new.site) c.from_residual.result (omega (arith, small, few)) c.start.ensures.seen c.start.ensures.given

pub returns-in_err-from-clause-answers : goal.returns-in_err-from-clause-answers
returns-in_err-from-clause-answers g c =
    quiet_answer (g.S.Site.seen c.args.site.now) (g.S.Site.seen c.start.new.site) c.from_residual.result c.in_err-from.field-0.0 c.start.ensures.seen c.from_residual.ensures.1 c.in_err-from.ensures.no_task

pub returns-clause-jobs : goal.returns-clause-jobs
returns-clause-jobs g c =
    let small = most_small c.args.conf.now c.requires.limits in
    let few = c.in_ok-from.ensures.few in
    run_after g.S.Dir.tells g.S.Site.gives c.args.conf.now (g.S.Site.seen c.args.site.now) (g.S.Site.seen c.start.new.site) (g.S.Site.seen c.mine_on.new.site) (g.S.Site.given c.args.site.now) (g.S.Site.given c.start.new.site) (g.S.Site.given c.mine_on.new.site) (rank_after 0) rank_behind (g.S.Dir.told c.mine_on.new.site) c.mine_on.result (omega (arith, small, few)) c.start.ensures.seen c.start.ensures.given (run_within g.S.Dir.tells g.S.Site.gives c.args.conf.now (rank_after 0) (rank_after c.in_ok-from.from.k) rank_behind rank_behind (g.S.Site.seen c.start.new.site) (g.S.Site.seen c.mine_on.new.site) (g.S.Site.given c.start.new.site) (g.S.Site.given c.mine_on.new.site) (g.S.Dir.told c.mine_on.new.site) c.mine_on.result (omega arith) (omega arith) c.mine_on.ensures.log c.mine_on.ensures.logged)

pub returns-clause-past : goal.returns-clause-past
returns-clause-past g c =
    λ k tells from.
    let small = most_small c.args.conf.now c.requires.limits in
    let few = c.in_ok-from.ensures.few in
    subst (λ (j : ℕ). RunsJobs g.S.Dir.tells g.S.Site.gives c.args.conf.now (rank_after j) rank_behind (g.S.Site.seen c.args.site.now) (g.S.Site.seen c.mine_on.new.site) (g.S.Site.given c.args.site.now) (g.S.Site.given c.mine_on.new.site) (g.S.Dir.told c.mine_on.new.site) c.mine_on.result) (c.in_ok-from.ensures.is (Some k) tells from) (run_after g.S.Dir.tells g.S.Site.gives c.args.conf.now (g.S.Site.seen c.args.site.now) (g.S.Site.seen c.start.new.site) (g.S.Site.seen c.mine_on.new.site) (g.S.Site.given c.args.site.now) (g.S.Site.given c.start.new.site) (g.S.Site.given c.mine_on.new.site) (rank_after c.in_ok-from.from.k) rank_behind (g.S.Dir.told c.mine_on.new.site) c.mine_on.result (omega (arith, small, few)) c.start.ensures.seen c.start.ensures.given (run_within g.S.Dir.tells g.S.Site.gives c.args.conf.now (rank_after c.in_ok-from.from.k) (rank_after c.in_ok-from.from.k) rank_behind rank_behind (g.S.Site.seen c.start.new.site) (g.S.Site.seen c.mine_on.new.site) (g.S.Site.given c.start.new.site) (g.S.Site.given c.mine_on.new.site) (g.S.Dir.told c.mine_on.new.site) c.mine_on.result (omega arith) (omega arith) c.mine_on.ensures.log c.mine_on.ensures.logged))

pub returns-clause-answers : goal.returns-clause-answers
returns-clause-answers g c =
    begun_answer (Unit {0}) (g.S.Site.seen c.args.site.now) (g.S.Site.seen c.start.new.site) (g.S.Site.seen c.mine_on.new.site) c.mine_on.result c.start.ensures.seen c.mine_on.ensures.answers

pub returns-in_err-from-clause-stored : goal.returns-in_err-from-clause-stored
returns-in_err-from-clause-stored g c =
    λ tells form sure. err_is (IsNotAsMade c.args.conf.now (files (g.S.Dir.told c.start.new.site))) c.from_residual.result c.in_err-from.field-0.0 c.from_residual.ensures.1 (c.in_err-from.ensures.stored tells)

pub returns-clause-stored : goal.returns-clause-stored
returns-clause-stored g c =
    λ tells form sure.
    let d : Told = g.S.Dir.told c.args.site.now in
    let e : Told = g.S.Dir.told c.start.new.site in
    let matrix = sure_kept Matrix (files d) (files e) tt refl (stays_after d e (c.start.ensures.stays tells)) sure in
    c.mine_on.ensures.stored tells (ap is_clustered form) (subst (λ (f : Form). IsSure (matrix_for f) (files e)) (sym form) matrix)

pub returns-clause-read : goal.returns-clause-read
returns-clause-read g c =
    λ k tells from.
    let conf = c.args.conf.now in
    let few : c.in_ok-from.from.k < 10 ^ 10 = (let small = most_small conf c.requires.limits in let most = c.in_ok-from.ensures.few in omega (arith, small, most)) in
    joined conf (first_read conf.command k) c.in_ok-from.from.k (g.S.Console.said c.mine_on.new.site) (g.S.Dir.told c.start.new.site) (g.S.Dir.told c.mine_on.new.site) c.mine_on.result few (c.mine_on.ensures.stays tells) (c.in_ok-from.ensures.read k tells from) (c.mine_on.ensures.read tells)
