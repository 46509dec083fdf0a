-- The names within a job's folder are names, and differ.
use Rattle.std.proofs.Common.{◌≡◌, ◌≢◌, ◌∙◌, ℕ, ◌+◌, ◌%◌, ◌<◌, true, false, List, [], ◌∷◌, ◌++◌, length, get_or, codes, refl, ap, sym, arith, length-append}
use Rattle.std.proofs.lemmas.Bool.{false≢true}
use Rattle.std.proofs.lemmas.List.{append_cancel_left, append_cancel_right, same_from_push}
use Rattle.peg_base.specs.declared.tasks.Phase.{Phase}
use Rattle.peg_base.specs.declared.tasks.Phase.TheVariants.{Map, Combine, Reduce}
use Rattle.peg_base.specs.NameText.{IsName}
use Rattle.peg_base.specs.Tasks.{same_phase}
use Rattle.digit_names.specs.Digits.{digits, begins_name}
use Rattle.digit_names.proofs.DigitLemmas.{length-digits, digits_pass, digits_tell_numbers, begins_name-append, name_from_front}
use Rattle.committer.specs.Paths.{success_name, temporary_name, part_name, task_front, task_name, attempt_front, attempt_name, input_front, input_name, shuffle_name}

-- ---- names

pub task_front_begins_name : (phase : Phase) → begins_name (task_front phase) ≡ true
task_front_begins_name Map = refl
task_front_begins_name Combine = refl
task_front_begins_name Reduce = refl

pub length-task_front : (phase : Phase) → length (task_front phase) ≡ 7
length-task_front Map = refl
length-task_front Combine = refl
length-task_front Reduce = refl

-- what stands before the number of the attempt
abbrev pub attempt_text : Phase → ℕ → List ℕ
attempt_text phase task = attempt_front phase ++ digits 6 task ++ 45 ∷ []

attempt_front_begins_name : (phase : Phase) → begins_name (attempt_front phase) ≡ true
attempt_front_begins_name Map = refl
attempt_front_begins_name Combine = refl
attempt_front_begins_name Reduce = refl

length-attempt_front : (phase : Phase) → length (attempt_front phase) ≡ 10
length-attempt_front Map = refl
length-attempt_front Combine = refl
length-attempt_front Reduce = refl

pub attempt_text_begins_name : (phase : Phase) (task : ℕ) → begins_name (attempt_text phase task) ≡ true
attempt_text_begins_name phase task =
    begins_name-append (attempt_front phase ++ digits 6 task) (45 ∷ []) (begins_name-append (attempt_front phase) (digits 6 task) (attempt_front_begins_name phase) (digits_pass 6 task)) refl

pub length-attempt_text : (phase : Phase) (task : ℕ) → length (attempt_text phase task) ≡ 17
length-attempt_text phase task =
    let one = length-append (attempt_front phase) (digits 6 task) in
    let two = length-append (attempt_front phase ++ digits 6 task) (45 ∷ []) in
    omega (arith, length-attempt_front phase, length-digits 6 task)

input_front_begins_name : (phase : Phase) → begins_name (input_front phase) ≡ true
input_front_begins_name Map = refl
input_front_begins_name Combine = refl
input_front_begins_name Reduce = refl

length-input_front : (phase : Phase) → length (input_front phase) ≡ 2
length-input_front Map = refl
length-input_front Combine = refl
length-input_front Reduce = refl

pub input_is_name : (phase : Phase) (task : ℕ) → IsName (input_front phase ++ digits 6 task ++ codes ".in")
input_is_name phase task =
    let front = begins_name-append (input_front phase) (digits 6 task) (input_front_begins_name phase) (digits_pass 6 task) in
    let long = length-append (input_front phase) (digits 6 task) in
    name_from_front (input_front phase ++ digits 6 task) (codes ".in") front refl (omega (arith, length-input_front phase, length-digits 6 task))

-- ---- names of different kinds differ in their first or second byte

differ_at : (place : ℕ) (one other : List ℕ) → get_or one place 0 ≢ get_or other place 0 → one ≢ other
differ_at place one other differ same =
    differ (ap (λ (text : List ℕ). get_or text place 0) same)

pub part_not_success : (part : ℕ) → part_name part ≢ success_name
unfolding part_name success_name
part_not_success part =
    differ_at 0 (codes "part-" ++ digits 5 part) (codes "_SUCCESS") (omega arith)

pub part_not_temporary : (part : ℕ) → part_name part ≢ temporary_name
unfolding part_name temporary_name
part_not_temporary part =
    differ_at 0 (codes "part-" ++ digits 5 part) (codes "_temporary") (omega arith)

pub success_not_temporary : success_name ≢ temporary_name
unfolding success_name temporary_name
success_not_temporary = differ_at 1 (codes "_SUCCESS") (codes "_temporary") (omega arith)

attempt_begins : (phase : Phase) (task number : ℕ) → get_or (attempt_name phase task number) 0 0 ≡ 97
unfolding attempt_name
attempt_begins Map task number = refl
attempt_begins Combine task number = refl
attempt_begins Reduce task number = refl

task_begins : (phase : Phase) (task : ℕ) → get_or (task_name phase task) 0 0 ≡ 116
unfolding task_name
task_begins Map task = refl
task_begins Combine task = refl
task_begins Reduce task = refl

-- the letter of a phase
abbrev letter : Phase → ℕ
letter Map = 109
letter Combine = 99
letter Reduce = 114

input_begins : (phase : Phase) (task : ℕ) → get_or (input_name phase task) 0 0 ≡ letter phase
unfolding input_name
input_begins Map task = refl
input_begins Combine task = refl
input_begins Reduce task = refl

letters_between : (phase : Phase) → (97 < letter phase) × (letter phase < 115)
letters_between Map = (omega arith, omega arith)
letters_between Combine = (omega arith, omega arith)
letters_between Reduce = (omega arith, omega arith)

shuffle_begins : get_or shuffle_name 0 0 ≡ 115
unfolding shuffle_name
shuffle_begins = refl

pub attempt_not_task : (phase kind : Phase) (task other number : ℕ) → attempt_name phase task number ≢ task_name kind other
attempt_not_task phase kind task other number =
    differ_at 0 (attempt_name phase task number) (task_name kind other) (omega (arith, attempt_begins phase task number, task_begins kind other))

pub attempt_not_input : (phase kind : Phase) (task other number : ℕ) → attempt_name phase task number ≢ input_name kind other
attempt_not_input phase kind task other number =
    differ_at 0 (attempt_name phase task number) (input_name kind other) (omega (arith, attempt_begins phase task number, input_begins kind other, letters_between kind))

pub attempt_not_shuffle : (phase : Phase) (task number : ℕ) → attempt_name phase task number ≢ shuffle_name
attempt_not_shuffle phase task number =
    differ_at 0 (attempt_name phase task number) shuffle_name (omega (arith, attempt_begins phase task number, shuffle_begins))

pub task_not_input : (phase kind : Phase) (task other : ℕ) → task_name phase task ≢ input_name kind other
task_not_input phase kind task other =
    differ_at 0 (task_name phase task) (input_name kind other) (omega (arith, task_begins phase task, input_begins kind other, letters_between kind))

pub task_not_shuffle : (phase : Phase) (task : ℕ) → task_name phase task ≢ shuffle_name
task_not_shuffle phase task =
    differ_at 0 (task_name phase task) shuffle_name (omega (arith, task_begins phase task, shuffle_begins))

pub input_not_shuffle : (phase : Phase) (task : ℕ) → input_name phase task ≢ shuffle_name
input_not_shuffle phase task =
    differ_at 0 (input_name phase task) shuffle_name (omega (arith, input_begins phase task, letters_between phase, shuffle_begins))

-- ---- names of one kind tell their numbers

pub parts_differ : (m n : ℕ) → m < 100000 → n < 100000 → part_name m ≡ part_name n → m ≡ n
unfolding part_name
parts_differ m n small other same =
    digits_tell_numbers 5 m n small other (append_cancel_left (codes "part-") (digits 5 m) (digits 5 n) same)

pub tasks_differ : (phase : Phase) (m n : ℕ) → m < 1000000 → n < 1000000 → task_name phase m ≡ task_name phase n → m ≡ n
unfolding task_name
tasks_differ phase m n small other same =
    digits_tell_numbers 6 m n small other (append_cancel_left (task_front phase) (digits 6 m) (digits 6 n) same)

pub attempts_differ : (phase : Phase) (m n a b : ℕ) → m < 1000000 → n < 1000000 → a < 10 → b < 10 → attempt_name phase m a ≡ attempt_name phase n b → (m ≡ n) × (a ≡ b)
unfolding attempt_name digits
attempts_differ phase m n a b small other few less same =
    let numbers = same_from_push (attempt_text phase m) (attempt_text phase n) (48 + a % 10) (48 + b % 10) same in
    let dashes = same_from_push (attempt_front phase ++ digits 6 m) (attempt_front phase ++ digits 6 n) 45 45 numbers.0 in
    let last : 48 + a % 10 ≡ 48 + b % 10 = numbers.1 in
    (digits_tell_numbers 6 m n small other (append_cancel_left (attempt_front phase) (digits 6 m) (digits 6 n) dashes.0), omega arith)

pub inputs_differ : (phase : Phase) (m n : ℕ) → m < 1000000 → n < 1000000 → input_name phase m ≡ input_name phase n → m ≡ n
unfolding input_name
inputs_differ phase m n small other same =
    let fronts = append_cancel_right (input_front phase ++ digits 6 m) (input_front phase ++ digits 6 n) (codes ".in") same in
    digits_tell_numbers 6 m n small other (append_cancel_left (input_front phase) (digits 6 m) (digits 6 n) fronts)

-- ---- phases have names of their own

letters_differ : (one other : Phase) → same_phase one other ≡ false → letter one ≢ letter other
letters_differ Map Map other same = false≢true (sym other)
letters_differ Map Combine other same = omega (arith, same)
letters_differ Map Reduce other same = omega (arith, same)
letters_differ Combine Map other same = omega (arith, same)
letters_differ Combine Combine other same = false≢true (sym other)
letters_differ Combine Reduce other same = omega (arith, same)
letters_differ Reduce Map other same = omega (arith, same)
letters_differ Reduce Combine other same = omega (arith, same)
letters_differ Reduce Reduce other same = false≢true (sym other)

task_letter : (phase : Phase) (task : ℕ) → get_or (task_name phase task) 5 0 ≡ letter phase
unfolding task_name
task_letter Map task = refl
task_letter Combine task = refl
task_letter Reduce task = refl

attempt_letter : (phase : Phase) (task number : ℕ) → get_or (attempt_name phase task number) 8 0 ≡ letter phase
unfolding attempt_name
attempt_letter Map task number = refl
attempt_letter Combine task number = refl
attempt_letter Reduce task number = refl

module _ (one other : Phase) (differ : same_phase one other ≡ false) where
  pub task_phases_differ : (m n : ℕ) → task_name one m ≢ task_name other n
  task_phases_differ m n =
      differ_at 5 (task_name one m) (task_name other n) (λ same. letters_differ one other differ (sym (task_letter one m) ∙ same ∙ task_letter other n))

  pub attempt_phases_differ : (m n a b : ℕ) → attempt_name one m a ≢ attempt_name other n b
  attempt_phases_differ m n a b =
      differ_at 8 (attempt_name one m a) (attempt_name other n b) (λ same. letters_differ one other differ (sym (attempt_letter one m a) ∙ same ∙ attempt_letter other n b))

  pub input_phases_differ : (m n : ℕ) → input_name one m ≢ input_name other n
  input_phases_differ m n =
      differ_at 0 (input_name one m) (input_name other n) (λ same. letters_differ one other differ (sym (input_begins one m) ∙ same ∙ input_begins other n))
