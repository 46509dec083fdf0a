-- What is always true of a work folder, wherever the machine stops.
use Rattle.std.specs.Prelude.{◌≡◌, ◌≢◌, ℕ, ◌<◌, ◌≤◌, true, false, Option, IfSome, IsSome}
use Rattle.dir_disk.specs.State.{State, Image, Fits}
use Rattle.committer.specs.Folders.{IsWhole}
use Rattle.job.specs.Whole.{HasOutput, HasOutputIfWhole}
use Rattle.mining.specs.declared.place.Place.{Place}
use Rattle.mining.specs.declared.place.Place.TheVariants.{Conf, Edges, Messages, Vector, Joined, Results}
use Rattle.mining.specs.Places.{folder_of, IsInTable, is_made, is_messages, rank_of}
use Rattle.mining.specs.Flow.{Mining, flow, last_of}

abbrev pub Has : Place → Image → Type 0
Has place image = IsWhole (folder_of place) image

-- a vector up to the last iteration, or any other folder
abbrev pub IsUpTo : Option ℕ → Place → Type 0
IsUpTo last (Vector k) = IfSome last (λ l. k ≤ l)
IsUpTo last _ = Unit {0}

-- a folder that is to be whole where another one is, which comes after it
pub record Precedes (mining : Mining) (earlier place : Place) : Type 0 where
  pub before : rank_of earlier < rank_of place
  pub is_there : IsInTable earlier
  pub made : is_made mining.conf.form earlier ≡ true
  pub stays : is_messages earlier ≡ false
  pub up_to : IsUpTo (last_of mining) earlier

-- a folder that may be whole at all: iterations go up to the last one, and behind them all is made once there is a last one
abbrev pub MayBeWhole : Option ℕ → Place → Type 0
MayBeWhole last (Messages k) = IfSome last (λ l. k ≤ l)
MayBeWhole last (Vector k) = IfSome last (λ l. k ≤ l)
MayBeWhole last Joined = IsSome last
MayBeWhole last Results = IsSome last
MayBeWhole last _ = Unit {0}

pub record Kept (mining : Mining) (image : Image) : Type 0 where
  -- where `edges` is whole, `conf` is whole, with the text of these settings
  pub conf : Has Edges image → Has Conf image × HasOutput (folder_of Conf) (flow mining Conf) image
  -- each whole folder but `conf` has just the parts of the flow
  pub contents : (place : Place) → IsInTable place → place ≢ Conf → HasOutputIfWhole (folder_of place) (flow mining place) image
  -- where a folder of the form is whole, so are those before it, but messages and vectors after the last iteration
  pub order : (place earlier : Place) → IsInTable place → is_made mining.conf.form place ≡ true → Precedes mining earlier place → Has place image → Has earlier image
  -- nothing is whole that the last iteration excludes
  pub bounds : (place : Place) → IsInTable place → Has place image → MayBeWhole (last_of mining) place

-- whatever a stop leaves now
abbrev pub AllKept : Mining → State → Type 0
AllKept mining state = (image : Image) → Fits state image → Kept mining image
