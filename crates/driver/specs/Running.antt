-- What a run reads its edges from, and the words that it doesn't carry out yet.
use Rattle.std.specs.Prelude.{◌≢◌, ℕ, List, Option, Some, None}
use Rattle.conf.specs.declared.commands.Form.TheVariants.{Base}
use Rattle.conf.specs.declared.reading.Conf.{Conf as Settings}
use Rattle.conf.specs.Meaning.{Mean}
use Rattle.report.specs.Generated.{generated_text}

-- the bytes that edges are read from: generated ones, or those that the source has left
abbrev pub chosen : Option (ℕ × ℕ) → ℕ → Option (List ℕ) → Option (List ℕ)
chosen None nodes left = left
chosen (Some gen) nodes left = Some (generated_text gen.0 gen.1 nodes)

abbrev pub bytes_for : Settings → Option (List ℕ) → Option (List ℕ)
bytes_for conf left = chosen conf.generated conf.nodes left

-- the words have a form other than the base form, which no run carries out yet
pub record IsUnmade (words : List (List ℕ)) : Type 0 where
  pub conf : Settings
  pub mean : Mean words conf
  pub form : conf.form ≢ Base
