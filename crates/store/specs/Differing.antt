-- Where two texts differ.
use Rattle.std.specs.Prelude.{◌≡◌, ◌≢◌, ℕ, ◌+◌, ◌==◌, List, [], ◌∷◌, Option, Some, None, length, if◌then◌else◌}
use Rattle.peg_text.specs.Records.{cut_of}
use Rattle.dir_disk.specs.State.{Content}

-- how many LFs stand in these bytes
abbrev pub lfs : List ℕ → ℕ
lfs bytes = length (cut_of bytes).whole

-- what two texts have in common from their front on
abbrev pub common : List ℕ → List ℕ → List ℕ
common [] other = []
common (b ∷ bs) [] = []
common (b ∷ bs) (c ∷ cs) = if b == c then b ∷ common bs cs else []

-- the line in which two texts part: one more than the LFs before the first place where their bytes differ
-- or just one of them ends
abbrev pub parting_line : List ℕ → List ℕ → ℕ
parting_line one other = lfs (common one other) + 1

-- the answer to the question at which line two texts differ
abbrev pub IsDifferingLine : List ℕ → List ℕ → Option ℕ → Type 0
IsDifferingLine one other None = one ≡ other
IsDifferingLine one other (Some line) = (one ≢ other) × (line ≡ parting_line one other)

-- the same for a file; one that isn't there differs at line 1
abbrev pub DiffersFrom : Content → List ℕ → Option ℕ → Type 0
DiffersFrom None text found = found ≡ Some 1
DiffersFrom (Some bytes) text found = IsDifferingLine bytes text found
