-- What is written reads back.
use Rattle.std.specs.Prelude.{◌≡◌, ℕ, ◌<◌, ◌≤◌, ◌^◌, List, Some, decimal}
use Rattle.peg_text.specs.Records.{HasNoLf}
use Rattle.gimv_core.specs.Algebras.{Algebra, FitsVal, FitsMsg}
use Rattle.gimv_core.specs.Laws.{IsLawful}
use Rattle.gimv_base.specs.Records.{value_record_of, entry_record_of, message_record_of}
use Rattle.gimv_base.specs.Lines.{value_text, entry_text, message_text}

-- a text is one record, and is read as this
pub record ReadsAs {A : Type 0} (read : List ℕ → A) (text : List ℕ) (found : A) : Type 0 where
  pub one_record : HasNoLf text
  pub is : read text ≡ found

-- a node below n with its value, of which at most 256 nodes changed
abbrev pub ValuesReadBack : Type 0 → Type 0 → Type 0 → Type 0
ValuesReadBack Val Msg Weight =
    (a : Algebra Val Msg Weight) → IsLawful a
    → (n i c : ℕ) (v : Val) → i < n → n ≤ 2 ^ 32 → c ≤ 256 → FitsVal a v
    → ReadsAs (value_record_of a n) (value_text a i c v) (Some (i, v))

-- an entry whose row is below n, with a weight that the algorithm reads from its decimal
abbrev pub EntriesReadBack : Type 0 → Type 0 → Type 0 → Type 0
EntriesReadBack Val Msg Weight =
    (a : Algebra Val Msg Weight)
    → (n column row weight : ℕ) (w : Weight) → column < 2 ^ 32 → row < n → n ≤ 2 ^ 32 → weight < 2 ^ 64 → a.weight_of (decimal weight) ≡ Some w
    → ReadsAs (entry_record_of a n) (entry_text column row weight) (Some (row, w))

abbrev pub MessagesReadBack : Type 0 → Type 0 → Type 0 → Type 0
MessagesReadBack Val Msg Weight =
    (a : Algebra Val Msg Weight) → IsLawful a
    → (row : ℕ) (m : Msg) → row < 2 ^ 32 → FitsMsg a m
    → ReadsAs (message_record_of a) (message_text a row m) (Some m)
