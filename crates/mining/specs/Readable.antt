-- A flow of which all that a run reads is of its grammar.
use Rattle.std.specs.Prelude.{◌≡◌, ℕ, Some}
use Rattle.mining.specs.declared.place.Place.TheVariants.{Results}
use Rattle.mining.specs.Flow.{Mining, count_of, flow, last_of, total_in}

-- it has a last iteration, and each line of its vectors and of its result is of the folder's grammar
pub record IsReadable (mining : Mining) : Type 0 where
  pub last : ℕ
  pub is_last : last_of mining ≡ Some last
  pub count : ℕ → ℕ
  pub counts : (k : ℕ) → count_of mining k ≡ Some (count k)
  pub total : ℕ
  pub totals : total_in mining.conf.command (flow mining Results) ≡ Some total
