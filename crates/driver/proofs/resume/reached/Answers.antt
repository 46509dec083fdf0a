use Rattle.std.proofs.Common.{◌∙◌, rules, arith, subst, sym}
use Rattle.mining.specs.declared.place.Place.TheVariants.{Vector}
use Rattle.mining.specs.Between.{IsSure}
use Rattle.mining.proofs.Wholes.{same_state, same_then}
use Rattle.dir_disk.specs.Moments.{files}
use Rattle.driver.proofs.Starting.{up_to}
use Rattle.driver.proofs.resume.reached.Goals as goal

pub returns-in_err-goes_further-clause-stands : goal.returns-in_err-goes_further-clause-stands
returns-in_err-goes_further-clause-stands g c =
    λ tells. same_then (g.S.Dir.told c.args.site.now) (g.S.Dir.told c.loop-k.site) (g.S.Dir.told c.goes_further.new.site) (c.loop-k.invariant.stands tells) (c.goes_further.ensures.stands tells)

pub returns-clause-sure : goal.returns-clause-sure
returns-clause-sure g c =
    λ tells j below. subst (IsSure (Vector j)) (sym (same_state (g.S.Dir.told c.loop-k.site) (g.S.Dir.told c.goes_further.new.site) (c.goes_further.ensures.stands tells))) (c.loop-k.invariant.sure tells j below)

pub returns-clause-stands : goal.returns-clause-stands
returns-clause-stands g c =
    λ tells. same_then (g.S.Dir.told c.args.site.now) (g.S.Dir.told c.loop-k.site) (g.S.Dir.told c.goes_further.new.site) (c.loop-k.invariant.stands tells) (c.goes_further.ensures.stands tells)

pub loop-k-preserved : goal.loop-k-preserved
loop-k-preserved g c =
    record {
      few = search rules;
      none_running = search rules;
      seen = search rules;
      given = λ tells. c.goes_further.ensures.given tells ∙ c.loop-k.invariant.given tells;
      stands = λ tells. same_then (g.S.Dir.told c.args.site.now) (g.S.Dir.told c.loop-k.site) (g.S.Dir.told c.goes_further.new.site) (c.loop-k.invariant.stands tells) (c.goes_further.ensures.stands tells);
      firm = λ tells. c.goes_further.ensures.firm tells;
      sure = λ tells j below. up_to c.loop-k.k (files (g.S.Dir.told c.goes_further.new.site)) (λ i under. subst (IsSure (Vector i)) (sym (same_state (g.S.Dir.told c.loop-k.site) (g.S.Dir.told c.goes_further.new.site) (c.goes_further.ensures.stands tells))) (c.loop-k.invariant.sure tells i under)) (c.in_ok-goes_further.ensures.yes tells c.if-branch.true) j below;
      fresh = λ tells some. c.in_ok-goes_further.ensures.fresh tells (λ past. absurd (let less = c.in_ok-goes_further.ensures.few c.if-branch.true in omega (arith, past, less)));
      faults = search rules;
      said = search rules;
      says = search rules;
      say_faults = search rules;
    }
