-- Bytes as records that LFs end.
use Rattle.std.specs.Prelude.{◌≡◌, ◌≢◌, ℕ, List, [], ◌∷◌, ◌++◌, ◌==◌, All, if◌then◌else◌}
use Rattle.std.specs.List.{concat, flat_map}

-- the records that an LF ends, and what stands after the last LF
pub record Cut : Type 0 where
  pub whole : List (List ℕ)
  pub rest : List ℕ

-- a byte goes in front of the first of these records, or of the rest where there is none
abbrev pub onto_cut : ℕ → List (List ℕ) → List ℕ → Cut
onto_cut b [] rest = record { whole = []; rest = b ∷ rest }
onto_cut b (r ∷ rs) rest = record { whole = (b ∷ r) ∷ rs; rest = rest }

-- the bytes, cut at each LF
abbrev pub cut_of : List ℕ → Cut
cut_of [] = record { whole = []; rest = [] }
cut_of (b ∷ bs) =
    let later = cut_of bs in
    if b == 10 then record { whole = [] ∷ later.whole; rest = later.rest } else onto_cut b later.whole later.rest

-- the last record, which no LF ends: there is none where nothing stands after the last LF
abbrev pub unended : List ℕ → List (List ℕ)
unended [] = []
unended (b ∷ bs) = (b ∷ bs) ∷ []

-- the pieces between LFs, and what stands after the last LF unless that is nothing
abbrev pub records_of : List ℕ → List (List ℕ)
records_of bytes = (cut_of bytes).whole ++ unended (cut_of bytes).rest

-- no byte is an LF
abbrev pub HasNoLf : List ℕ → Type 0
HasNoLf bytes = All (λ b. b ≢ 10) bytes

-- the bytes begin with this record and its LF, and go on with the rest
pub record BeginsWithRecord (bytes line rest : List ℕ) : Type 0 where
  pub whole : bytes ≡ line ++ (10 ∷ rest)
  pub unbroken : HasNoLf line

-- however the bytes go on, their first record is this line, and the others are those of what is left
abbrev pub TakesFirstRecord : List ℕ → List ℕ → List ℕ → Type 0
TakesFirstRecord bytes line left = (more : List ℕ) → records_of (bytes ++ more) ≡ line ∷ records_of (left ++ more)

-- the records that come out where bytes are held, further pieces follow one by one, the whole records are taken after each piece, and the rest at the end
abbrev pub records_in_pieces : List ℕ → List (List ℕ) → List (List ℕ)
records_in_pieces held [] = unended held
records_in_pieces held (piece ∷ pieces) =
    let cut = cut_of (held ++ piece) in cut.whole ++ records_in_pieces cut.rest pieces

-- however bytes are cut into pieces, the records that come out are those of all the bytes
abbrev pub CuttingKeepsRecords : Type 0
CuttingKeepsRecords = (pieces : List (List ℕ)) → records_in_pieces [] pieces ≡ records_of (concat pieces)

-- the records of bytes, an LF and further bytes: what stands before the LF is cut for itself
abbrev pub LfParts : Type 0
LfParts =
    (front back : List ℕ)
    → records_of (front ++ (10 ∷ back)) ≡ (cut_of front).whole ++ ((cut_of front).rest ∷ records_of back)

-- lines without an LF, each followed by one, are read back
abbrev pub LinesReadBack : Type 0
LinesReadBack = (lines : List (List ℕ)) → All HasNoLf lines → records_of (flat_map (λ line. line ++ (10 ∷ [])) lines) ≡ lines
