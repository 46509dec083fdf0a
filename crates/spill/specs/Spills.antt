-- What contracts see of a spill.
use Rattle.std.specs.Prelude.{◌≡◌, ℕ, ◌+◌, ◌<◌, ◌≤◌, List, [], ◌∷◌, ◌++◌, All, length, replicate, slice_index_or}
use Rattle.std.specs.Global.{Vec}
use Rattle.std.specs.List.{sum_by}
use Rattle.peg_base.specs.Names.{Names}
use Rattle.dir_disk.specs.State.{State}
use Rattle.dir_disk.specs.Lent.{Loan, IsFree}
use Rattle.pairs.specs.Pairs.{Pair, IsPlain, pairs_text, pairs_in}
use Rattle.pieces.specs.Pieces.{IsVacant}
use Rattle.spill.specs.declared.entry.Entry.{Entry}
use Rattle.spill.specs.Chunks.{parts_of}
use Rattle.spill.specs.Lines.{AreEntries, lists_of}
use Rattle.spill.specs.Runs.{of_part, run_of, HasPairs}

-- the limit in bytes, the number of parts, the folder of the runs, the pairs held in the order in which they were pushed, how many flushes had pairs, and for each part the paths of its runs
pub record Held : Type 0 where
  pub limit : ℕ
  pub reducers : ℕ
  pub folder : Names
  pub pairs : List Pair
  pub flushes : ℕ
  pub runs : List (List Names)

-- nothing was pushed yet
abbrev pub empty_spill : ℕ → ℕ → Names → Held
empty_spill limit reducers folder =
    record { limit = limit; reducers = reducers; folder = folder; pairs = []; flushes = 0; runs = replicate reducers [] }

-- one pair more
abbrev pub with_pair : Pair → Held → Held
with_pair p spill = record spill { pairs = spill.pairs ++ p ∷ [] }

-- the bytes of the keys and values held
abbrev pub bytes_held : Held → ℕ
bytes_held spill = sum_by (λ p. length p.0 + length p.1) spill.pairs

-- the pairs held of one part
abbrev pub pairs_at : Held → ℕ → List Pair
pairs_at spill part = of_part spill.reducers part spill.pairs

-- the paths of a part's runs, in the order of their flushes
abbrev pub runs_at : Held → ℕ → List Names
runs_at spill part = slice_index_or spill.runs part []

-- the file that the next flush writes for a part
abbrev pub next_run : Held → ℕ → Names
next_run spill part = run_of spill.folder part spill.flushes

-- no path that the next flush writes is lent
abbrev pub AreFree : List Loan → Held → Type 0
AreFree lent spill = (part : ℕ) → part < spill.reducers → HasPairs spill.reducers part spill.pairs → IsFree lent (next_run spill part)

-- each path that the next flush writes is vacant
abbrev pub AreVacant : State → Held → Type 0
AreVacant state spill = (part : ℕ) → part < spill.reducers → HasPairs spill.reducers part spill.pairs → IsVacant (next_run spill part) state

-- the number of the flush after this one: without pairs it isn't numbered
abbrev pub number_after : List Pair → ℕ → ℕ
number_after [] flushes = flushes
number_after (p ∷ ps) flushes = flushes + 1

-- what is true of the fields: the text has the pairs held, each as a line, and the entries of a part have its pairs
pub record IsWell (text : List ℕ) (parts : List (Vec Entry)) (bytes reducers runs : ℕ) (folder : Names) : Type 0 where
  pub lines : pairs_text (pairs_in text) ≡ text
  pub plain : All IsPlain (pairs_in text)
  pub entries : AreEntries text parts
  pub dealt : lists_of text parts ≡ parts_of reducers (pairs_in text)
  pub counted : bytes ≡ sum_by (λ p. length p.0 + length p.1) (pairs_in text)
  pub some : 1 ≤ reducers
  pub few : reducers ≤ 100000
  pub each_part : runs ≡ reducers
  pub short : length folder < 8
