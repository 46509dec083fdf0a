-- What accepted words mean.
use Rattle.std.specs.Prelude.{◌≡◌, ℕ, Bool, false, List, Option, Some, option_and_then, unwrap_or}
use Rattle.conf.specs.declared.commands.Command.{Command}
use Rattle.conf.specs.declared.commands.Form.TheVariants.{Base}
use Rattle.conf.specs.declared.reading.Conf.{Conf}
use Rattle.conf.specs.declared.settings.Number.{Number}
use Rattle.conf.specs.declared.settings.Number.TheVariants.{Nodes, Reducers, Split, Slots, Spill, BlockLength, Iters, Hops, Seed}
use Rattle.conf.specs.declared.settings.Setting.{Setting}
use Rattle.conf.specs.declared.settings.Setting.TheVariants.{Numeric, Gen, Sym, Backup}
use Rattle.conf.specs.Settings.{choice_in, default_of, generator_in, number_for}
use Rattle.conf.specs.Options.{value_of}
use Rattle.conf.specs.Rules.{AreAccepted, command_of, form_of}

-- the number that the words give an option, and its default where none of them gives it one
abbrev pub number_of : List (List ℕ) → Number → ℕ
number_of words number = unwrap_or (option_and_then (number_for number) (value_of words (Numeric number))) (default_of number)

-- whether the words say `yes` to an option whose value is `yes` or `no`
abbrev pub choice_of : List (List ℕ) → Setting → Bool
choice_of words setting = unwrap_or (option_and_then choice_in (value_of words setting)) false

-- the number of edges and the seed that the words give
abbrev pub generated_of : List (List ℕ) → Option (ℕ × ℕ)
generated_of words = option_and_then generator_in (value_of words Gen)

-- what words say to a command
abbrev pub conf_of : List (List ℕ) → Command → Conf
conf_of words command = record {
  command = command;
  nodes = number_of words Nodes;
  reducers = number_of words Reducers;
  split = number_of words Split;
  slots = number_of words Slots;
  spill = number_of words Spill;
  backup = choice_of words Backup;
  form = unwrap_or (form_of words command) Base;
  block = number_of words BlockLength;
  iters = number_of words Iters;
  hops = number_of words Hops;
  seed = number_of words Seed;
  sym = choice_of words Sym;
  generated = generated_of words;
}

-- none of the words is refused, and this is what they say
pub record Mean (words : List (List ℕ)) (conf : Conf) : Type 0 where
  pub accepted : AreAccepted words
  pub command_named : command_of words ≡ Some conf.command
  pub is : conf ≡ conf_of words conf.command
