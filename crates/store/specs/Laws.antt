-- What texts, lines of vectors and totals come to, as laws and by example.
use Rattle.std.specs.Prelude.{◌≡◌, ℕ, false, List, [], ◌∷◌, Some, None, codes}
use Rattle.conf.specs.declared.commands.Command.TheVariants.{Hcc, Hadi, PageRank}
use Rattle.store.specs.declared.changes.Place.{Place}
use Rattle.store.specs.Differing.{parting_line}
use Rattle.store.specs.Parts.{Record, numbered}
use Rattle.store.specs.Totals.{change_of, changed, first_change, is_result, total_of}

-- texts part in the same line whichever of them comes first
abbrev pub TextsPartEitherWay : Type 0
TextsPartEitherWay = (one other : List ℕ) → parting_line one other ≡ parting_line other one

-- lines are counted from 1, an LF belongs to the line that it ends, and texts part in a line that only one has
abbrev pub TextsPartByExample : Type 0
TextsPartByExample =
    (parting_line (codes "0\t1\n0\t2\n") (codes "0\t1\n0\t3\n") ≡ 2)
    × (parting_line (codes "0\t1\n0\t2") (codes "0\t1\n0\t2\n") ≡ 2)
    × (parting_line (codes "0\t1\n0\t2\n") (codes "0\t1\n") ≡ 2)
    × (parting_line [] (codes "0\t1\n") ≡ 1)

-- a count has at most 256, and something stands behind it
abbrev pub ChangesByExample : Type 0
ChangesByExample =
    (change_of (codes "3\tV 1 0") ≡ Some 1)
    × (change_of (codes "0\tV 256 1,2") ≡ Some 256)
    × (change_of (codes "0\tV 257 1,2") ≡ None)
    × (change_of (codes "3\tV 1 ") ≡ None)
    × (change_of (codes "3\tV 1") ≡ None)
    × (change_of (codes "1\tX 0 0") ≡ None)
    × (change_of (codes "x\tV 0 0") ≡ None)

-- three lines of a vector's part 4
abbrev pub vector : List Record
vector = numbered 4 1 (codes "0\tV 0 0" ∷ codes "1\tV 1 0" ∷ codes "2\tV 3 1,1" ∷ [])

-- all changes are added up, and the place is that of the first line that has one
abbrev pub CountsByExample : Type 0
CountsByExample =
    (changed vector ≡ 4) × (first_change vector ≡ Some (let p : Place = record { part = 4; line = 2 } in p))

-- the lines of a result
abbrev pub result : List Record
result = numbered 0 1 (codes "0\t0" ∷ codes "1\t0" ∷ codes "2\t5" ∷ codes "3\t3" ∷ [])

-- the nodes that are their own label are as many as the components
abbrev pub TotalsByExample : Type 0
TotalsByExample =
    (total_of Hcc result ≡ 2)
    × (total_of Hadi result ≡ 5)
    × (total_of PageRank result ≡ 8)
    × (is_result (codes "1x") ≡ false)
