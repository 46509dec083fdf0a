-- The job that makes a folder, and what it makes of what its inputs have.
use Rattle.std.specs.Prelude.{◌≡◌, ℕ, List}
use Rattle.peg_base.specs.Names.{Names}
use Rattle.dir_disk.specs.State.{State}
use Rattle.conf.specs.declared.reading.Conf.{Conf as Settings}
use Rattle.job.specs.Inputs.{bytes_at_each}
use Rattle.job.specs.Output.{job_parts}
use Rattle.job.specs.declared.spec.JobSpec.{JobSpec}
use Rattle.mining.specs.declared.place.Place.{Place}
use Rattle.mining.specs.Places.{folder_of}
use Rattle.mining.specs.Table.{map_words, paths_read, reduce_words}
use Rattle.mining.specs.Flow.{plan_for}

pub record IsJobOf (conf : Settings) (last : ℕ) (place : Place) (spec : JobSpec) : Type 0 where
  pub folder : spec.folder ≡ folder_of place
  pub inputs : spec.inputs.items ≡ paths_read conf last place
  pub map : spec.map ≡ map_words conf place
  pub reduce : spec.reduce ≡ reduce_words conf place
  pub reducers : spec.reducers ≡ conf.reducers
  pub split : spec.split ≡ conf.split
  pub slots : spec.slots ≡ conf.slots
  pub spill : spec.spill ≡ conf.spill

-- the parts that the folder's job makes of what its inputs have now
abbrev pub parts_from : (List (List ℕ) → List ℕ → List ℕ) → Settings → ℕ → Place → State → List (List ℕ)
parts_from gives conf last place state =
    job_parts gives (plan_for conf place (bytes_at_each state (paths_read conf last place)))

-- nothing has changed
abbrev pub IsAsAt : State → State → Type 0
IsAsAt entry state = (path : Names) → state path ≡ entry path
