use Rattle.std.proofs.Common.{rules, ◌≡◌, ◌∙◌, List, length, sym, ap, subst, arith}
use Rattle.std.specs.List.{All}
use Rattle.std.proofs.lemmas.List.{take_all}
use Rattle.std.proofs.lemmas.List.Elements.{All-more}
use Rattle.peg_base.specs.Names.{Names}
use Rattle.dir_disk.specs.State.{Held}
use Rattle.dir_disk.specs.Moments.{files}
use Rattle.dir_disk.specs.Calls.{HasFile}
use Rattle.mining.specs.Making.{IsAsAt}
use Rattle.mining.proofs.Looks.{one_more_look, same_after, there_by_length}
use Rattle.mining.proofs.check.check_parts.Goals as goal

pub returns-in_err-size-clause-stands : goal.returns-in_err-size-clause-stands
returns-in_err-size-clause-stands g c =
    λ tells.
    one_more_look _ (g.D.Dir.told c.args.dir.now) (g.D.Dir.told c.loop-path.dir) (g.D.Dir.told c.size.new.self) c.size.result (c.loop-path.invariant.stands tells) (c.size.ensures.call tells) (λ q. g.met.D.Dir.now_allowed c.loop-path.dir q tells)

pub returns-in_err-path-clause-stands : goal.returns-in_err-path-clause-stands
returns-in_err-path-clause-stands g c =
    λ tells.
    one_more_look _ (g.D.Dir.told c.args.dir.now) (g.D.Dir.told c.loop-path.dir) (g.D.Dir.told c.size.new.self) c.size.result (c.loop-path.invariant.stands tells) (c.size.ensures.call tells) (λ q. g.met.D.Dir.now_allowed c.loop-path.dir q tells)

pub returns-then-is_none-clause-stands : goal.returns-then-is_none-clause-stands
returns-then-is_none-clause-stands g c =
    λ tells.
    one_more_look _ (g.D.Dir.told c.args.dir.now) (g.D.Dir.told c.loop-path.dir) (g.D.Dir.told c.size.new.self) c.size.result (c.loop-path.invariant.stands tells) (c.size.ensures.call tells) (λ q. g.met.D.Dir.now_allowed c.loop-path.dir q tells)

pub loop-path-preserved : goal.loop-path-preserved
loop-path-preserved g c =
    record {
      lent = c.size.ensures.lent ∙ c.loop-path.invariant.lent;
      faults = search rules;
      beside = c.size.ensures.beside ∙ c.loop-path.invariant.beside;
      stands = λ tells. one_more_look _ (g.D.Dir.told c.args.dir.now) (g.D.Dir.told c.loop-path.dir) (g.D.Dir.told c.size.new.self) c.size.result (c.loop-path.invariant.stands tells) (c.size.ensures.call tells) (λ q. g.met.D.Dir.now_allowed c.loop-path.dir q tells);
      there = λ tells. let same : IsAsAt (files (g.D.Dir.told c.args.dir.now)) (files (g.D.Dir.told c.loop-path.dir)) = same_after (g.D.Dir.told c.args.dir.now) (g.D.Dir.told c.loop-path.dir) (c.loop-path.invariant.stands tells) in let here = there_by_length _ c.in_ok-size.field-0 (c.in_ok-size.ensures.length tells) c.if-is_none.ensures in All-more (HasFile (files (g.D.Dir.told c.args.dir.now))) c.args.paths.now c.loop-path.path-index c.path-item.result c.loop-path-test.true (c.loop-path.invariant.there tells) (subst (λ (p : Names). HasFile (files (g.D.Dir.told c.args.dir.now)) p) c.path-item.is (here.0, ap (λ (h : Held). h.now) (sym (same c.path-item.result)) ∙ here.1));
    }

pub returns-clause-there : goal.returns-clause-there
returns-clause-there g c =
    λ tells.
    let ends : length c.args.paths.now ≡ c.loop-path.path-index = omega arith in
    subst (λ (paths : List Names). All (HasFile (files (g.D.Dir.told c.args.dir.now))) paths) (take_all c.loop-path.path-index c.args.paths.now (omega arith)) (c.loop-path.invariant.there tells)
