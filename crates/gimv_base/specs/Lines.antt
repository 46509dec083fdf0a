-- The lines that roles write, each without its LF as a text.
use Rattle.std.specs.Prelude.{ℕ, List, [], ◌∷◌, ◌++◌, decimal}
use Rattle.peg_text.specs.Pairs.{pair_text}
use Rattle.gimv_core.specs.Algebras.{Algebra}

abbrev pub with_lf : List ℕ → List ℕ
with_lf text = text ++ (10 ∷ [])

-- `i TAB number`
abbrev pub number_text : ℕ → ℕ → List ℕ
number_text i number = pair_text (decimal i) (decimal number)

abbrev pub number_line : ℕ → ℕ → List ℕ
number_line i number = with_lf (number_text i number)

-- `column TAB W SP row SP weight`, from its three texts
abbrev pub entry_text_of : List ℕ → List ℕ → List ℕ → List ℕ
entry_text_of column row weight = pair_text column (87 ∷ 32 ∷ (row ++ (32 ∷ weight)))

abbrev pub entry_text : ℕ → ℕ → ℕ → List ℕ
entry_text column row weight = entry_text_of (decimal column) (decimal row) (decimal weight)

abbrev pub entry_line : ℕ → ℕ → ℕ → List ℕ
entry_line column row weight = with_lf (entry_text column row weight)

-- `i TAB V SP c SP value`
abbrev pub value_text : {Val Msg Weight : Type 0} → Algebra Val Msg Weight → ℕ → ℕ → Val → List ℕ
value_text a i c v = pair_text (decimal i) (86 ∷ 32 ∷ (decimal c ++ (32 ∷ a.val_text v)))

abbrev pub value_line : {Val Msg Weight : Type 0} → Algebra Val Msg Weight → ℕ → ℕ → Val → List ℕ
value_line a i c v = with_lf (value_text a i c v)

-- `row TAB Y SP message`
abbrev pub message_text : {Val Msg Weight : Type 0} → Algebra Val Msg Weight → ℕ → Msg → List ℕ
message_text a row m = pair_text (decimal row) (89 ∷ 32 ∷ a.msg_text m)

abbrev pub message_line : {Val Msg Weight : Type 0} → Algebra Val Msg Weight → ℕ → Msg → List ℕ
message_line a row m = with_lf (message_text a row m)
