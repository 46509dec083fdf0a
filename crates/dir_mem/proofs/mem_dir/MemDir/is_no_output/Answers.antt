use Rattle.std.proofs.Common.{List, ◌∙◌, sym, subst}
use Rattle.dir_disk.specs.Lent.{IsNoOutput}
use Rattle.dir_mem.specs.declared.mem_dir.Lending.{Lending}
use Rattle.dir_mem.specs.Sound.{loans_of}
use Rattle.dir_mem.proofs.LookLemmas.{no_output_all}
use Rattle.dir_mem.proofs.LookBackLemmas.{all_no_output}
use Rattle.dir_mem.proofs.mem_dir.MemDir.is_no_output.Goals as goal

pub returns-clause-no_output : goal.returns-clause-no_output
returns-clause-no_output c = λ is.
    subst (λ (l : List Lending). IsNoOutput (loans_of l) c.args.path.now) c.deref.ensures.value (no_output_all c.deref.result.now c.args.path.now (sym c.is_no_output.ensures ∙ is))

pub returns-clause-output : goal.returns-clause-output
returns-clause-output c = λ none.
    c.is_no_output.ensures ∙ all_no_output c.deref.result.now c.args.path.now (subst (λ (l : List Lending). IsNoOutput (loans_of l) c.args.path.now) (sym c.deref.ensures.value) none)
