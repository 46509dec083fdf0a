-- The text of a name is ASCII.
use Rattle.std.proofs.Common.{◌≡◌, ℕ, ◌<◌, true, List, length, get_or, IsUtf8, arith}
use Rattle.std.proofs.lemmas.Bool.Decides.{nat_tests}
use Rattle.std.proofs.lemmas.Str.{IsUtf8-from_ascii}
use Rattle.std.proofs.lemmas.Str.Ascii.{IsAscii-from_reads}
use Rattle.peg_base.specs.NameText.{is_name_byte, IsName}

below_128 : (b : ℕ) → is_name_byte b ≡ true → b < 128
below_128 b h = grind (arith, nat_tests)

pub IsUtf8-from_name : (text : List ℕ) → IsName text → IsUtf8 text
IsUtf8-from_name text h =
    IsUtf8-from_ascii text (IsAscii-from_reads text (length text) (omega arith) (λ k in_text. below_128 (get_or text k 0) (h.bytes k 0 in_text)))
