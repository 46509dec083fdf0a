-- What a move of an attempt's folder makes of the folder of its task.
use Rattle.std.proofs.Common.{◌≡◌, ℕ, ◌+◌, false, [], ◌∷◌, ◌++◌, sym, ap, ◌∙◌, arith}
use Rattle.std.specs.Prelude.{Result, Ok, Err}
use Rattle.peg_base.specs.Names.{Names, same_path, after_top}
use Rattle.peg_base.proofs.Under.{under-append, under-split, same_path-append_left}
use Rattle.dir_disk.specs.State.{State, after_move}
use Rattle.dir_disk.proofs.Steps.{moved_into}
use Rattle.committer.specs.Commits.{HasNoFile}
use Rattle.committer.specs.Paths.{output_name}
use Rattle.committer.specs.Faults.{calls_of as committed}
use Rattle.committer.specs.declared.fault.CommitFault.{CommitFault}
use Rattle.committer.specs.declared.fault.CommitFault.TheVariants.{Disk, NoMemory}
use Rattle.job.specs.Going.{AreAsMany, IsExact}
use Rattle.job.specs.Work.{Work, TaskFolder, calls_at, folder_at, output_at, home_at, result_at}
use Rattle.job.specs.Standing.{HasOnly, IsMoved}

alone_moved : (w : Work) (t a : ℕ) (s u : State) → HasOnly (folder_at w t a) (output_at w t a) s → HasNoFile (home_at w t) s → u ≡ after_move (folder_at w t a) (home_at w t) s → HasOnly (home_at w t) (result_at w t) u
alone_moved w t a s u only empty moved q deeper proper =
    let rest = after_top (home_at w t) q in
    let name : Names = output_name w.phase t ∷ [] in
    let split : q ≡ home_at w t ++ rest = under-split (home_at w t) q deeper in
    let none = empty (home_at w t ++ rest) (under-append (home_at w t) rest) in
    let came : (u (home_at w t ++ rest)).now ≡ (s (folder_at w t a ++ rest)).now = ap (λ (x : State). (x (home_at w t ++ rest)).now) moved ∙ moved_into (folder_at w t a) (home_at w t) s rest none in
    let other : same_path (output_at w t a) (folder_at w t a ++ rest) ≡ false = same_path-append_left (folder_at w t a) name rest ∙ sym (same_path-append_left (home_at w t) name rest) ∙ ap (same_path (result_at w t)) (sym split) ∙ proper in
    ap (λ (p : Names). (u p).now) split ∙ came ∙ only (folder_at w t a ++ rest) (under-append (folder_at w t a) rest) other

-- a commit is one call, but where it found no memory
pub commit_counts : {T : Type 0} (result : Result T CommitFault) (m n : ℕ) → n ≡ m + committed result → AreAsMany (IsExact TaskFolder result) n (m + calls_at TaskFolder)
commit_counts (Ok value) m n is =
    record { most = omega (arith, is); exact = λ all. omega (arith, is) }
commit_counts (Err Disk) m n is =
    record { most = omega (arith, is); exact = λ all. omega (arith, is) }
commit_counts (Err NoMemory) m n is =
    record { most = omega (arith, is); exact = λ none. absurd none }

pub moved_is : (w : Work) (t a : ℕ) (s u : State) → HasOnly (folder_at w t a) (output_at w t a) s → HasNoFile (home_at w t) s → u ≡ after_move (folder_at w t a) (home_at w t) s → IsMoved w t a s u
moved_is w t a s u only empty moved =
    let name : Names = output_name w.phase t ∷ [] in
    let none = empty (home_at w t ++ name) (under-append (home_at w t) name) in
    record {
      output = ap (λ (x : State). (x (result_at w t)).now) moved ∙ moved_into (folder_at w t a) (home_at w t) s name none;
      alone = alone_moved w t a s u only empty moved;
    }
