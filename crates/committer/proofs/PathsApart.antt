-- The paths below a job's `_temporary` lie apart.
use Rattle.std.proofs.Common.{◌≡◌, ◌≢◌, ℕ, ◌<◌, true, false, ◌⊎◌, ⊎_elim, List, [], ◌∷◌, ◌++◌, sym}
use Rattle.peg_base.specs.declared.tasks.Phase.{Phase}
use Rattle.peg_base.specs.declared.tasks.Attempt.{Attempt}
use Rattle.peg_base.specs.Names.{Names, under}
use Rattle.peg_base.proofs.Under.{under-append, children_apart}
use Rattle.committer.specs.Paths.{temporary_of, task_name, task_of, task_output_of, output_name, attempt_name, attempt_of, output_of, input_name, task_input_of, shuffle_name, shuffle_of}
use Rattle.committer.proofs.NamesApart.{attempt_not_task, attempt_not_input, attempt_not_shuffle, task_not_input, task_not_shuffle, input_not_shuffle, tasks_differ, attempts_differ, inputs_differ}

-- ---- what lies where

pub output_in_attempt : (folder : Names) (attempt : Attempt) → under (attempt_of folder attempt) (output_of folder attempt) ≡ true
output_in_attempt folder attempt =
    under-append (attempt_of folder attempt) (output_name attempt.task.phase attempt.task.task ∷ [])

pub output_in_task : (folder : Names) (phase : Phase) (task : ℕ) → under (task_of folder phase task) (task_output_of folder phase task) ≡ true
output_in_task folder phase task =
    under-append (task_of folder phase task) (output_name phase task ∷ [])

pub attempt_in_temporary : (folder : Names) (attempt : Attempt) → under (temporary_of folder) (attempt_of folder attempt) ≡ true
attempt_in_temporary folder attempt =
    under-append (temporary_of folder) (attempt_name attempt.task.phase attempt.task.task attempt.number ∷ [])

pub task_in_temporary : (folder : Names) (phase : Phase) (task : ℕ) → under (temporary_of folder) (task_of folder phase task) ≡ true
task_in_temporary folder phase task =
    under-append (temporary_of folder) (task_name phase task ∷ [])

pub input_in_temporary : (folder : Names) (phase : Phase) (task : ℕ) → under (temporary_of folder) (task_input_of folder phase task) ≡ true
input_in_temporary folder phase task =
    under-append (temporary_of folder) (input_name phase task ∷ [])

pub shuffle_in_temporary : (folder : Names) → under (temporary_of folder) (shuffle_of folder) ≡ true
shuffle_in_temporary folder = under-append (temporary_of folder) (shuffle_name ∷ [])

-- ---- kinds of paths

pub task_beside_attempt : (folder : Names) (attempt : Attempt) (kind : Phase) (other : ℕ) (q : Names) → under (attempt_of folder attempt) q ≡ true → under (task_of folder kind other) q ≡ false
task_beside_attempt folder attempt kind other q inside =
    children_apart (temporary_of folder) (attempt_name attempt.task.phase attempt.task.task attempt.number) (task_name kind other) q (attempt_not_task attempt.task.phase kind attempt.task.task other attempt.number) inside

pub attempt_beside_task : (folder : Names) (attempt : Attempt) (kind : Phase) (other : ℕ) (q : Names) → under (task_of folder kind other) q ≡ true → under (attempt_of folder attempt) q ≡ false
attempt_beside_task folder attempt kind other q inside =
    children_apart (temporary_of folder) (task_name kind other) (attempt_name attempt.task.phase attempt.task.task attempt.number) q (λ same. attempt_not_task attempt.task.phase kind attempt.task.task other attempt.number (sym same)) inside

pub attempt_beside_input : (folder : Names) (attempt : Attempt) (kind : Phase) (other : ℕ) (q : Names) → under (task_input_of folder kind other) q ≡ true → under (attempt_of folder attempt) q ≡ false
attempt_beside_input folder attempt kind other q inside =
    children_apart (temporary_of folder) (input_name kind other) (attempt_name attempt.task.phase attempt.task.task attempt.number) q (λ same. attempt_not_input attempt.task.phase kind attempt.task.task other attempt.number (sym same)) inside

pub attempt_beside_shuffle : (folder : Names) (attempt : Attempt) (q : Names) → under (shuffle_of folder) q ≡ true → under (attempt_of folder attempt) q ≡ false
attempt_beside_shuffle folder attempt q inside =
    children_apart (temporary_of folder) shuffle_name (attempt_name attempt.task.phase attempt.task.task attempt.number) q (λ same. attempt_not_shuffle attempt.task.phase attempt.task.task attempt.number (sym same)) inside

pub task_beside_input : (folder : Names) (phase : Phase) (task : ℕ) (kind : Phase) (other : ℕ) (q : Names) → under (task_input_of folder kind other) q ≡ true → under (task_of folder phase task) q ≡ false
task_beside_input folder phase task kind other q inside =
    children_apart (temporary_of folder) (input_name kind other) (task_name phase task) q (λ same. task_not_input phase kind task other (sym same)) inside

pub task_beside_shuffle : (folder : Names) (phase : Phase) (task : ℕ) (q : Names) → under (shuffle_of folder) q ≡ true → under (task_of folder phase task) q ≡ false
task_beside_shuffle folder phase task q inside =
    children_apart (temporary_of folder) shuffle_name (task_name phase task) q (λ same. task_not_shuffle phase task (sym same)) inside

pub input_beside_shuffle : (folder : Names) (phase : Phase) (task : ℕ) (q : Names) → under (shuffle_of folder) q ≡ true → under (task_input_of folder phase task) q ≡ false
input_beside_shuffle folder phase task q inside =
    children_apart (temporary_of folder) shuffle_name (input_name phase task) q (λ same. input_not_shuffle phase task (sym same)) inside

pub shuffle_beside_input : (folder : Names) (phase : Phase) (task : ℕ) (q : Names) → under (task_input_of folder phase task) q ≡ true → under (shuffle_of folder) q ≡ false
shuffle_beside_input folder phase task q inside =
    children_apart (temporary_of folder) (input_name phase task) shuffle_name q (input_not_shuffle phase task) inside

-- ---- numbers

pub tasks_apart : (folder : Names) (phase : Phase) (one other : ℕ) (q : Names) → one < 1000000 → other < 1000000 → one ≢ other → under (task_of folder phase one) q ≡ true → under (task_of folder phase other) q ≡ false
tasks_apart folder phase one other q small also differ inside =
    children_apart (temporary_of folder) (task_name phase one) (task_name phase other) q (λ same. differ (tasks_differ phase one other small also same)) inside

pub inputs_apart : (folder : Names) (phase : Phase) (one other : ℕ) (q : Names) → one < 1000000 → other < 1000000 → one ≢ other → under (task_input_of folder phase one) q ≡ true → under (task_input_of folder phase other) q ≡ false
inputs_apart folder phase one other q small also differ inside =
    children_apart (temporary_of folder) (input_name phase one) (input_name phase other) q (λ same. differ (inputs_differ phase one other small also same)) inside

attempt_names_apart : (phase : Phase) (one other a b : ℕ) → one < 1000000 → other < 1000000 → a < 10 → b < 10 → (one ≢ other) ⊎ (a ≢ b) → attempt_name phase one a ≢ attempt_name phase other b
attempt_names_apart phase one other a b small also few less differ same =
    let numbers = attempts_differ phase one other a b small also few less same in
    ⊎_elim (λ tasks. tasks numbers.0) (λ attempts. attempts numbers.1) differ

abbrev child_of : Names → List ℕ → Names
child_of folder name = temporary_of folder ++ name ∷ []

-- attempts of other tasks, or of other numbers
pub attempts_apart : (folder : Names) (phase : Phase) (one other a b : ℕ) (q : Names) → one < 1000000 → other < 1000000 → a < 10 → b < 10 → (one ≢ other) ⊎ (a ≢ b) → under (child_of folder (attempt_name phase one a)) q ≡ true → under (child_of folder (attempt_name phase other b)) q ≡ false
attempts_apart folder phase one other a b q small also few less differ inside =
    children_apart (temporary_of folder) (attempt_name phase one a) (attempt_name phase other b) q (attempt_names_apart phase one other a b small also few less differ) inside
