-- Algorithms together with what fits and with texts.
use Rattle.std.specs.Prelude.{ℕ, Bool, IsTrue, List, Option, All}
use Rattle.graph.specs.Entries.{Entry}
use Rattle.graph.specs.Steps.{Algorithm, Vector}

-- an algorithm, the values, messages and weights that fit its types and have a text, and their texts
pub record Algebra (Val Msg Weight : Type 0) : Type 0 where
  -- what is computed
  pub algorithm : Algorithm Val Msg Weight
  -- whether each number is in the range of its type, and there is a text for the whole
  pub fits_val : Val → Bool
  pub fits_msg : Msg → Bool
  pub fits_weight : Weight → Bool
  -- what is written for a value, and what a text is read as, if it is of the grammar
  pub val_text : Val → List ℕ
  pub val_of : List ℕ → Option Val
  pub msg_text : Msg → List ℕ
  pub msg_of : List ℕ → Option Msg
  pub weight_of : List ℕ → Option Weight

abbrev pub FitsVal : {Val Msg Weight : Type 0} → Algebra Val Msg Weight → Val → Type 0
FitsVal a v = IsTrue (a.fits_val v)

abbrev pub FitsMsg : {Val Msg Weight : Type 0} → Algebra Val Msg Weight → Msg → Type 0
FitsMsg a m = IsTrue (a.fits_msg m)

abbrev pub FitsWeight : {Val Msg Weight : Type 0} → Algebra Val Msg Weight → Weight → Type 0
FitsWeight a w = IsTrue (a.fits_weight w)

-- the values of these nodes fit
abbrev pub VectorFits : {Val Msg Weight : Type 0} → Algebra Val Msg Weight → (ℕ → Bool) → Vector Val → Type 0
VectorFits a nodes v = (i : ℕ) → IsTrue (nodes i) → FitsVal a (v i)

-- the entry stands between two of these nodes, and its weight fits
pub record EntryFits {Val Msg Weight : Type 0} (a : Algebra Val Msg Weight) (nodes : ℕ → Bool) (e : Entry Weight) : Type 0 where
  pub row_in : IsTrue (nodes e.row)
  pub column_in : IsTrue (nodes e.column)
  pub weight_fits : FitsWeight a e.weight

abbrev pub EntriesFit : {Val Msg Weight : Type 0} → Algebra Val Msg Weight → (ℕ → Bool) → List (Entry Weight) → Type 0
EntriesFit a nodes entries = All (EntryFits a nodes) entries
