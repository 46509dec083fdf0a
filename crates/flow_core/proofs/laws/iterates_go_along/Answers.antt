use Rattle.flow_core.proofs.Renaming.{iterates_placed, placed_degrees, placed_entries}
use Rattle.flow_core.proofs.laws.iterates_go_along.Goals as goal

pub returns-clause-entries : goal.returns-clause-entries
returns-clause-entries g c place both edges = placed_entries place both edges

pub returns-clause-degrees : goal.returns-clause-degrees
returns-clause-degrees g c n place id places edges below = placed_degrees n place id places edges below

pub returns-clause-iterates : goal.returns-clause-iterates
returns-clause-iterates g c n place id places a entries inside = iterates_placed n place id places a entries inside
