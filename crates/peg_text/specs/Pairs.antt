-- Lines as pairs of a key and a value.
use Rattle.std.specs.Prelude.{◌≡◌, ◌≢◌, ℕ, Bool, List, [], ◌∷◌, ◌++◌, ◌==◌, All}
use Rattle.std.specs.List.{before_first, after_first}

abbrev pub is_tab : ℕ → Bool
is_tab b = b == 9

-- the key of a line stands before its first TAB: all of it where there is none
abbrev pub key_of : List ℕ → List ℕ
key_of line = before_first is_tab line

-- the value of a line stands after its first TAB: nothing where there is none
abbrev pub value_of : List ℕ → List ℕ
value_of line = after_first is_tab line

-- a pair as a line, without its LF
abbrev pub pair_text : List ℕ → List ℕ → List ℕ
pair_text key value = key ++ (9 ∷ value)

-- a pair as a line with its LF
abbrev pub pair_line : List ℕ → List ℕ → List ℕ
pair_line key value = pair_text key value ++ (10 ∷ [])

-- no byte is a TAB
abbrev pub HasNoTab : List ℕ → Type 0
HasNoTab bytes = All (λ b. b ≢ 9) bytes

-- a pair whose key has no TAB is read back from its line
abbrev pub PairsSplitBack : Type 0
PairsSplitBack =
    (key value : List ℕ) → HasNoTab key → (key_of (pair_text key value) ≡ key) × (value_of (pair_text key value) ≡ value)
