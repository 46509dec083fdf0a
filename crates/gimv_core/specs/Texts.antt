-- Bytes that texts must not have, since lines are cut at them.
use Rattle.std.specs.Prelude.{◌≢◌, ℕ, List, All}
use Rattle.peg_text.specs.Pairs.{HasNoTab}
use Rattle.peg_text.specs.Records.{HasNoLf}

abbrev pub HasNoBlank : List ℕ → Type 0
HasNoBlank text = All (λ b. b ≢ 32) text

abbrev pub HasNoComma : List ℕ → Type 0
HasNoComma text = All (λ b. b ≢ 44) text

abbrev pub HasNoColon : List ℕ → Type 0
HasNoColon text = All (λ b. b ≢ 58) text

-- a value's text can stand in a line between blanks, and in a list between commas
pub record IsPlainVal (text : List ℕ) : Type 0 where
  pub no_tab : HasNoTab text
  pub no_lf : HasNoLf text
  pub no_blank : HasNoBlank text
  pub no_comma : HasNoComma text

-- a message's or a weight's can also be one of several items, of which each is cut at its colons
pub record IsPlainItem (text : List ℕ) : Type 0 where
  pub as_val : IsPlainVal text
  pub no_colon : HasNoColon text
