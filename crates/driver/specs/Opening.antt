-- How a run opens its work folder.
use Rattle.std.specs.Prelude.{◌≡◌, ℕ, ◌+◌, ◌^◌, ◌<◌, ◌≤◌, nat_le, ◌&&◌, if◌then◌else◌, Bool, true, false, ⊤, List, Option, Some, None, IsSome, Result, Ok, Err}
use Rattle.peg_base.specs.Names.{Names, under}
use Rattle.mining.specs.declared.place.Place.{Place}
use Rattle.mining.specs.declared.place.Place.TheVariants.{Conf, Edges, Results, Vector}
use Rattle.mining.specs.Places.{folder_of, IsInTable, is_messages}
use Rattle.mining.specs.Between.{IsSure}
use Rattle.dir_disk.specs.State.{Allows, Content, Fits, Image, State}
use Rattle.committer.specs.Folders.{fixed}
use Rattle.committer.specs.Paths.{success_of}
use Rattle.conf.specs.declared.commands.Command.{Command}
use Rattle.mining.specs.Flow.{Mining, ends_unchanged, last_of}
use Rattle.mining.specs.Kept.{Has}
use Rattle.dir_disk.specs.Streams.{added}
use Rattle.mining.specs.Iterations.{console, line_at}
use Rattle.report.specs.Lines.{resumed_text}
use Rattle.mining.specs.declared.stop.Stop.{Stop}
use Rattle.mining.specs.declared.stop.Stop.TheVariants.{TaskFailed, BadStore, BadEdge, BigNode, TooLarge, OtherJob, OtherEdges, Disk, Read, Say, NoMemory}
use Rattle.store.specs.Differing.{DiffersFrom}

-- all is as it was, and a stop leaves just that
abbrev pub IsSettled : State → State → Type 0
IsSettled entry state = (path : Names) → state path ≡ fixed (entry path).now

-- how the settings are judged against those that a work folder has
abbrev pub IsJudgedJob : Content → List ℕ → Result (Unit {0}) Stop → Type 0
IsJudgedJob content text (Ok done) = DiffersFrom content text None
IsJudgedJob content text (Err (TaskFailed task)) = ⊥
IsJudgedJob content text (Err (BadStore path line)) = ⊥
IsJudgedJob content text (Err (BadEdge line)) = ⊥
IsJudgedJob content text (Err (BigNode line id)) = ⊥
IsJudgedJob content text (Err TooLarge) = ⊥
IsJudgedJob content text (Err (OtherJob line)) = DiffersFrom content text (Some line)
IsJudgedJob content text (Err (OtherEdges line)) = ⊥
IsJudgedJob content text (Err Disk) = ⊤
IsJudgedJob content text (Err Read) = ⊥
IsJudgedJob content text (Err Say) = ⊥
IsJudgedJob content text (Err NoMemory) = ⊤

-- each folder that is whole in each image, messages aside, is just as at entry; `conf` only where `edges` is so too
abbrev pub KeepsFinished : State → State → Type 0
KeepsFinished entry state =
    (place : Place) → IsInTable place → is_messages place ≡ false → (place ≡ Conf → IsSure Edges entry) → IsSure place entry → (path : Names) → under (folder_of place) path ≡ true → state path ≡ entry path

-- the folder is whole, with the same bytes, in each image
pub record IsOne (place : Place) (state : State) : Type 0 where
  pub whole : IsSure place state
  pub one : (path : Names) → under (folder_of place) path ≡ true → (content : Content) → Allows (state path).may content → content ≡ (state path).now

-- each such folder, messages aside, has just these bytes in each image; `conf` only where `edges` is such a one
abbrev pub StaysOne : State → State → Type 0
StaysOne entry state =
    (place : Place) → IsInTable place → is_messages place ≡ false → (place ≡ Conf → IsOne Edges entry) → IsOne place entry → (path : Names) → under (folder_of place) path ≡ true → (image : Image) → Fits state image → image path ≡ (entry path).now

-- the mark of a folder now
abbrev pub mark_of : Place → State → Content
mark_of place state = (state (success_of (folder_of place))).now

-- no vector after the first has another mark
abbrev pub StandsLater : State → State → Type 0
StandsLater entry state =
    (k : ℕ) → 1 ≤ k → k < 10 ^ 10 → state (success_of (folder_of (Vector k))) ≡ entry (success_of (folder_of (Vector k)))

-- the greatest iteration, of so many at most, up to which all are whole now
pub record IsGreatest (most : ℕ) (state : State) (k : ℕ) : Type 0 where
  pub few : k ≤ most
  pub whole : (j : ℕ) → j ≤ k → IsSome (mark_of (Vector j) state)
  pub last : k < most → mark_of (Vector (k + 1)) state ≡ None

-- the iteration that a run goes on after, by what is whole when it begins: none where the first one isn't
abbrev pub IsFrom : ℕ → State → Option ℕ → Type 0
IsFrom most state None = mark_of (Vector 0) state ≡ None
IsFrom most state (Some k) = IsGreatest most state k

-- what is so once the first iteration is there, which was there before or was made just now
abbrev pub IsFromThere : Bool → ℕ → State → Option ℕ → Type 0
IsFromThere true most state (Some k) = IsGreatest most state k
IsFromThere false most state None = mark_of (Vector 1) state ≡ None
IsFromThere true most state None = ⊥
IsFromThere false most state (Some k) = ⊥

-- the same whatever else is there: none where neither the first iteration nor the second is whole
abbrev pub IsFromAny : ℕ → State → Option ℕ → Type 0
IsFromAny most state None = (mark_of (Vector 0) state ≡ None) × (mark_of (Vector 1) state ≡ None)
IsFromAny most state (Some k) = IsGreatest most state k

-- the first iteration whose vector a run reads: that which it goes on after where its count matters, else the next
abbrev pub first_read : Command → Option ℕ → ℕ
first_read command None = 0
first_read command (Some k) = if nat_le 1 k && ends_unchanged command then k else k + 1

-- the line that says where a run goes on
abbrev pub from_text : Mining → Option ℕ → List ℕ
from_text mining None = line_at mining 0
from_text mining (Some k) = resumed_text k

-- each vector that is whole in each image of a state is whole in this one
abbrev pub HasVectors : State → Image → Type 0
HasVectors entry image = (k : ℕ) → k < 10 ^ 10 → IsSure (Vector k) entry → Has (Vector k) image

-- there is a last iteration, all that a run from there says was said, and its vector and the result are whole in each image
pub record HasRun (mining : Mining) (k : Option ℕ) (before now : Option (List ℕ)) (state : State) : Type 0 where
  pub last : ℕ
  pub is : last_of mining ≡ Some last
  pub said : now ≡ added before (console mining k last)
  pub vector : IsSure (Vector last) state
  pub result : IsSure Results state
