-- Folders and parts of a job, and what a commit moves.
use Rattle.std.proofs.Common.{ap, ◌∙◌, ◌≡◌, ◌≢◌, ℕ, Bool, true, false, ◌||◌, List, [], ◌∷◌, ◌++◌, length, refl, sym, arith, length-append}
use Rattle.peg_base.specs.Names.{Names, under}
use Rattle.peg_base.specs.declared.tasks.Attempt.{Attempt}
use Rattle.peg_base.proofs.Under.{under-append, under-children}
use Rattle.dir_disk.specs.State.{after_move, State}
use Rattle.dir_disk.specs.Calls.{Move, CanMove, HasFile, IsOpen}
use Rattle.dir_disk.proofs.Steps.{Steps, moved_into}
use Rattle.committer.specs.Paths.{task_output_of, attempt_name, task_name, temporary_of, task_of, attempt_of, output_of, output_name}
use Rattle.committer.specs.Commits.{HasNoFile, HasShortPaths, StandsBeside}
use Rattle.committer.proofs.NamesApart.{attempt_not_task}

pub or_false : (a b : Bool) → a ≡ false → b ≡ false → (a || b) ≡ false
or_false true b first second = first
or_false false b first second = second

-- ---- one move

pub beside_start : (one other : Names) (s : State) → StandsBeside one other s s
beside_start one other s q first second = refl

pub beside_move : (from to : Names) (s t : State) → Steps (Move from to) s t → StandsBeside from to s t
beside_move from to s t steps q first second =
    steps.others q (or_false (under from q) (under to q) first second)

pub same_length : (folder : Names) (one other : List ℕ) (rest : Names) → length ((folder ++ other ∷ []) ++ rest) ≡ length ((folder ++ one ∷ []) ++ rest)
same_length folder one other rest =
    let a = length-append (folder ++ other ∷ []) rest in
    let b = length-append (folder ++ one ∷ []) rest in
    let c = length-append folder (other ∷ []) in
    let d = length-append folder (one ∷ []) in
    omega arith

pub can_commit_task : (folder : Names) (attempt : Attempt) (s : State) → HasFile s (output_of folder attempt) → HasShortPaths (attempt_of folder attempt) s → HasNoFile (task_of folder attempt.task.phase attempt.task.task) s → IsOpen s (task_of folder attempt.task.phase attempt.task.task) → CanMove s (attempt_of folder attempt) (task_of folder attempt.task.phase attempt.task.task)
can_commit_task folder attempt s output short empty is_open =
    let attempt_text = attempt_name attempt.task.phase attempt.task.task attempt.number in
    let task_text = task_name attempt.task.phase attempt.task.task in
    let differ : attempt_text ≢ task_text = attempt_not_task attempt.task.phase attempt.task.phase attempt.task.task attempt.task.task attempt.number in
    record {
      there = (output_of folder attempt, under-append (attempt_of folder attempt) (output_name attempt.task.phase attempt.task.task ∷ []), output);
      empty = empty;
      is_open = is_open;
      apart = (under-children (temporary_of folder) attempt_text task_text [] [] differ, under-children (temporary_of folder) task_text attempt_text [] [] (λ same. differ (sym same)));
      short = λ rest file. let long = same_length (temporary_of folder) attempt_text task_text rest in let few = short (attempt_of folder attempt ++ rest) (under-append (attempt_of folder attempt) rest) file in omega (arith, long, few);
    }

-- the output is where the task's folder has it then
pub task_has_output : (folder : Names) (attempt : Attempt) (s t : State) → HasNoFile (task_of folder attempt.task.phase attempt.task.task) s → t ≡ after_move (attempt_of folder attempt) (task_of folder attempt.task.phase attempt.task.task) s → (t (task_output_of folder attempt.task.phase attempt.task.task)).now ≡ (s (output_of folder attempt)).now
task_has_output folder attempt s t empty is =
    let rest : Names = output_name attempt.task.phase attempt.task.task ∷ [] in
    let none = empty (task_of folder attempt.task.phase attempt.task.task ++ rest) (under-append (task_of folder attempt.task.phase attempt.task.task) rest) in
    ap (λ (u : State). (u (task_output_of folder attempt.task.phase attempt.task.task)).now) is ∙ moved_into (attempt_of folder attempt) (task_of folder attempt.task.phase attempt.task.task) s rest none
