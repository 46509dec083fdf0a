-- A set of numbers, and how a heap and a mark for each number are one.
use Rattle.std.specs.Prelude.{◌≡◌, ℕ, ◌<◌, ◌≤◌, Bool, true, false, List, length, slice_index_or, sum_by}
use Rattle.std.specs.BinaryHeap.{IsHeap, IsUpperBound}
use Rattle.std.specs.declared.cmp.Reverse.{Reverse}
use Rattle.task_core.specs.Sound.{least_first, entries_of}
use Rattle.twins.specs.declared.number_set.Mark.{Mark}
use Rattle.twins.specs.declared.number_set.Mark.TheVariants.{Out, Stale, In}

-- the number is in the set
abbrev pub contains : List Bool → ℕ → Bool
contains numbers t = slice_index_or numbers t false

abbrev pub is_in : Mark → Bool
is_in Out = false
is_in Stale = false
is_in In = true

-- how many entries of the heap a number has
abbrev pub entries_by : Mark → ℕ
entries_by Out = 0
entries_by Stale = 1
entries_by In = 1

-- the mark of this number; a number past the bound is out
abbrev pub mark_at : List Mark → ℕ → Mark
mark_at marks t = slice_index_or marks t Out

-- the heap has the entries of the numbers that their marks say
pub record IsHeapOf (marks : List Mark) (heap : List (Reverse ℕ)) : Type 0 where
  pub ordered : IsHeap least_first heap
  pub held : (t : ℕ) → entries_of t heap ≡ entries_by (mark_at marks t)
  pub size : length heap ≡ sum_by entries_by marks

-- x is the entry at the top of the heap, and none is below it
pub record IsTop (heap : List (Reverse ℕ)) (x : Reverse ℕ) : Type 0 where
  pub some : 0 < length heap
  pub is : x ≡ slice_index_or heap 0 x
  pub least : IsHeap least_first heap → IsUpperBound least_first x heap

-- the top of the heap is in the set
abbrev pub IsSettled : List Mark → List (Reverse ℕ) → Type 0
IsSettled marks heap = (x : Reverse ℕ) → 0 < length heap → x ≡ slice_index_or heap 0 x → mark_at marks x.0 ≡ In

pub record IsSetOf (marks : List Mark) (heap : List (Reverse ℕ)) (room : ℕ) : Type 0 where
  pub entries : IsHeapOf marks heap
  pub fits : length marks ≤ room
  pub settled : IsSettled marks heap
