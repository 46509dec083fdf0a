use Rattle.std.proofs.Common.{List, ◌∙◌, sym, subst}
use Rattle.dir_disk.specs.Lent.{IsFree}
use Rattle.dir_mem.specs.declared.mem_dir.Lending.{Lending}
use Rattle.dir_mem.specs.Sound.{loans_of}
use Rattle.dir_mem.proofs.LookLemmas.{free_all}
use Rattle.dir_mem.proofs.LookBackLemmas.{all_free}
use Rattle.dir_mem.proofs.mem_dir.MemDir.is_free.Goals as goal

pub returns-clause-free : goal.returns-clause-free
returns-clause-free c = λ is.
    subst (λ (l : List Lending). IsFree (loans_of l) c.args.path.now) c.deref.ensures.value (free_all c.deref.result.now c.args.path.now (sym c.is_free.ensures ∙ is))

pub returns-clause-lent : goal.returns-clause-lent
returns-clause-lent c = λ free.
    c.is_free.ensures ∙ all_free c.deref.result.now c.args.path.now (subst (λ (l : List Lending). IsFree (loans_of l) c.args.path.now) (sym c.deref.ensures.value) free)
