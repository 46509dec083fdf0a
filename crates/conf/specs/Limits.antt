-- The limits within which each setting of a conf lies.
use Rattle.std.specs.Prelude.{◌≡◌, ◌≢◌, ℕ, ◌≤◌, true, IfSome}
use Rattle.conf.specs.declared.commands.Command.TheVariants.{Plain}
use Rattle.conf.specs.declared.commands.Form.TheVariants.{Base, Clustered}
use Rattle.conf.specs.declared.reading.Conf.{Conf}
use Rattle.conf.specs.declared.settings.Number.{Number}
use Rattle.conf.specs.declared.settings.Number.TheVariants.{Nodes, Reducers, Split, Slots, Spill, BlockLength, Iters, Hops, Seed}
use Rattle.conf.specs.Commands.{has_form}
use Rattle.conf.specs.Rules.{most_nodes_at_once}
use Rattle.conf.specs.Settings.{least_of, most_edges, most_of}

-- a number is from the least to the greatest value of its option
abbrev pub IsInLimits : Number → ℕ → Type 0
IsInLimits number n = (least_of number ≤ n) × (n ≤ most_of number)

-- each setting is in its limits, also those that the command doesn't have
pub record IsWithinLimits (conf : Conf) : Type 0 where
  pub nodes : IsInLimits Nodes conf.nodes
  pub reducers : IsInLimits Reducers conf.reducers
  pub split : IsInLimits Split conf.split
  pub slots : IsInLimits Slots conf.slots
  pub spill : IsInLimits Spill conf.spill
  pub block : IsInLimits BlockLength conf.block
  pub iters : IsInLimits Iters conf.iters
  pub hops : IsInLimits Hops conf.hops
  pub seed : IsInLimits Seed conf.seed
  pub generated : IfSome conf.generated (λ g. g.0 ≤ most_edges)
  -- a form other than the base form is one that the command has
  pub form : conf.form ≢ Base → has_form conf.command conf.form ≡ true
  -- `plain` and the clustered form hold something of each node in memory
  pub plain : conf.command ≡ Plain → conf.nodes ≤ most_nodes_at_once
  pub clustered : conf.form ≡ Clustered → conf.nodes ≤ most_nodes_at_once
