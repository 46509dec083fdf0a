-- Lines of a chunk, and their entries: where a line stands in the text, and the rank of its key.
use Rattle.std.specs.Prelude.{◌≡◌, ℕ, ◌+◌, ◌*◌, ◌%◌, ◌<◌, nat_lt, List, [], ◌∷◌, ◌++◌, All, length, map, min, take, drop, if◌then◌else◌}
use Rattle.std.specs.declared.cmp.Ordering.{Ordering}
use Rattle.std.specs.Ordering.{nat_cmp, ordering_then}
use Rattle.std.specs.Global.{Vec}
use Rattle.peg_text.specs.Pairs.{key_of, value_of, pair_text}
use Rattle.pairs.specs.Pairs.{Pair, pair_cmp, pair_of, sorted_pairs}
use Rattle.pairs.specs.Prefixes.{front_number, AreBytes}
use Rattle.spill.specs.declared.entry.Entry.{Entry}

-- how many bytes the line of a pair has, without its LF
abbrev pub line_length : Pair → ℕ
line_length p = length (pair_text p.0 p.1)

-- the first seven bytes of a key as a number, and behind them its length, as eight where it has more
abbrev pub rank_of : List ℕ → ℕ
rank_of key = front_number 7 key * 256 + min (length key) 8

-- the entry of a pair whose line is appended to a text
abbrev pub pushed_entry : List ℕ → Pair → Entry
pushed_entry text p = record { rank = rank_of p.0; start = length text; size = line_length p }

-- the line of an entry, without its LF
abbrev pub line_of_entry : List ℕ → Entry → List ℕ
line_of_entry text e = take e.size (drop e.start text)

-- the pair of an entry
abbrev pub pair_of_entry : List ℕ → Entry → Pair
pair_of_entry text e = pair_of (line_of_entry text e)

abbrev pub entry_pairs : List ℕ → List Entry → List Pair
entry_pairs text entries = map (pair_of_entry text) entries

-- the pairs of the entries of each part
abbrev pub lists_of : List ℕ → List (Vec Entry) → List (List Pair)
lists_of text parts = map (λ entries. entry_pairs text entries.items) parts

-- the same, each part sorted
abbrev pub sorted_lists : List ℕ → List (Vec Entry) → List (List Pair)
sorted_lists text parts = map sorted_pairs (lists_of text parts)

-- a line has a TAB, and its key this rank
pub record IsLine (line : List ℕ) (rank : ℕ) : Type 0 where
  pub is : rank ≡ rank_of (key_of line)
  pub bytes : AreBytes line
  pub whole : pair_text (key_of line) (value_of line) ≡ line

-- a line stands there, and behind it an LF
pub record IsEntry (text : List ℕ) (e : Entry) : Type 0 where
  pub inside : e.start + e.size < length text
  pub ended : take (e.size + 1) (drop e.start text) ≡ line_of_entry text e ++ 10 ∷ []
  pub has : IsLine (line_of_entry text e) e.rank

-- all entries of each part are entries of the text
abbrev pub AreEntries : List ℕ → List (Vec Entry) → Type 0
AreEntries text parts = All (λ entries. All (IsEntry text) entries.items) parts

-- what decides between entries of one rank: their lines where the keys are short, else their pairs
abbrev pub behind_rank : List ℕ → Entry → Pair
behind_rank text e =
    if nat_lt (e.rank % 256) 8 then (line_of_entry text e, []) else pair_of_entry text e

-- entries by their ranks, then by what is behind these
abbrev pub entry_cmp : List ℕ → Entry → Entry → Ordering
entry_cmp text e f =
    ordering_then (nat_cmp e.rank f.rank) (pair_cmp (behind_rank text e) (behind_rank text f))
