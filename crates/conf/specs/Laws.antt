-- What the text of a conf tells of it, and what every conf that words mean keeps to.
use Rattle.std.specs.Prelude.{◌≡◌, ◌≢◌, ℕ, ◌↔◌, ◌^◌, ◌<◌, List}
use Rattle.conf.specs.declared.commands.Command.TheVariants.{Hadi, PageRank}
use Rattle.conf.specs.declared.commands.Form.TheVariants.{Base}
use Rattle.conf.specs.declared.reading.Conf.{Conf}
use Rattle.conf.specs.Limits.{IsWithinLimits}
use Rattle.conf.specs.Meaning.{Mean}
use Rattle.conf.specs.Texts.{text_of}

-- the numbers are those of the types of a conf's fields
pub record FitsTypes (conf : Conf) : Type 0 where
  pub nodes : conf.nodes < 2 ^ 64
  pub reducers : conf.reducers < 2 ^ 64
  pub split : conf.split < 2 ^ 64
  pub block : conf.block < 2 ^ 64
  pub iters : conf.iters < 2 ^ 64
  pub hops : conf.hops < 2 ^ 64
  pub seed : conf.seed < 2 ^ 64

-- the confs are the same in all that the text shows, which is all but `slots`, `spill`, `backup`, the generator, and the
-- options that the form or the command doesn't have
pub record ShowTheSame (a b : Conf) : Type 0 where
  pub command : a.command ≡ b.command
  pub nodes : a.nodes ≡ b.nodes
  pub reducers : a.reducers ≡ b.reducers
  pub split : a.split ≡ b.split
  pub form : a.form ≡ b.form
  pub block : a.form ≢ Base → a.block ≡ b.block
  pub iters : a.command ≡ PageRank → a.iters ≡ b.iters
  pub hops : a.command ≡ Hadi → a.hops ≡ b.hops
  pub seed : a.command ≡ Hadi → a.seed ≡ b.seed
  pub sym : a.command ≡ Hadi → a.sym ≡ b.sym

-- two confs have one text exactly where they are the same in all that it shows
abbrev pub TextsTellConfs : Type 0
TextsTellConfs = (a b : Conf) → FitsTypes a → FitsTypes b → (text_of a ≡ text_of b) ↔ ShowTheSame a b

-- what accepted words mean is within the limits of each setting
abbrev pub MeaningsAreWithinLimits : Type 0
MeaningsAreWithinLimits = (words : List (List ℕ)) (conf : Conf) → Mean words conf → IsWithinLimits conf
