use Rattle.std.proofs.Common.{◌∙◌, ap, List}
use Rattle.peg_base.specs.Names.{Names}
use Rattle.dir_mem.specs.Sound.{is_listed}
use Rattle.dir_mem.proofs.ListLemmas.{listed_last}
use Rattle.dir_mem.proofs.log.list_path.Goals as goal

pub returns-in_ok-push-clause-listed : goal.returns-in_ok-push-clause-listed
returns-in_ok-push-clause-listed c =
    ap (λ (paths : List Names). is_listed paths c.args.path.now) c.in_ok-push.ensures.items ∙ listed_last c.args.paths.now.items c.in_ok-copy.field-0 c.args.path.now c.in_ok-copy.ensures
