-- What the further records of a place's group give.
use Rattle.std.specs.Prelude.{◌≢◌, ℕ, List, ◌∷◌, Some}
use Rattle.gimv_base.specs.declared.place.Placing.{Placing}
use Rattle.gimv_base.specs.declared.place.Placing.TheVariants.{Wants, Settled}
use Rattle.gimv_base.specs.Parts.{Part}
use Rattle.gimv_base.specs.BaseRules.{placed_part, settled_part}
use Rattle.gimv_base.specs.Blame.{placed_blames_the_end, settled_blames_the_end}

abbrev pub placing_part : Placing → List (List ℕ) → Part
placing_part (Wants id) = placed_part id
placing_part Settled = settled_part

pub placing_blames_the_end : (state : Placing) (r : List ℕ) (rs : List (List ℕ)) → (placing_part state (r ∷ rs)).bad ≢ Some 0
placing_blames_the_end (Wants id) = placed_blames_the_end id
placing_blames_the_end Settled = settled_blames_the_end
