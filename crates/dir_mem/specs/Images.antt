-- Images that are held in memory: what a directory made from one has, and which are shown of a moment.
use Rattle.std.specs.Prelude.{◌≡◌, ℕ, ◌^◌, ◌<◌, ◌≤◌, Bool, true, ◌&&◌, List, [], ◌∷◌, length, Option, Some, None, option_map, All, if◌then◌else◌}
use Rattle.std.specs.Global.{Vec}
use Rattle.std.specs.BTreeMap.{BTreeMap, get}
use Rattle.peg_base.specs.Names.{Names, same_path}
use Rattle.peg_base.specs.Order.{path_cmp}
use Rattle.dir_disk.specs.State.{Member, Anything, Content, Held, State, Image, Fits, just}
use Rattle.dir_disk.specs.Moments.{Told}
use Rattle.dir_mem.specs.declared.images.View.{View}
use Rattle.dir_mem.specs.declared.images.View.TheVariants.{Now, Oldest, Newest}
use Rattle.dir_mem.specs.Sound.{allows, is_short_content}
use Rattle.dir_mem.specs.Traces.{garbage, newest, shown}

-- files in memory, by their paths
abbrev pub Files : Type 0
Files = BTreeMap Names (Vec ℕ)

abbrev pub bytes_in : Option (Vec ℕ) → Content
bytes_in = option_map (λ bytes. bytes.items)

-- the files as an image
abbrev pub image_of : Files → Image
image_of files path = bytes_in (get path_cmp files path)

-- ---- a directory that is made from an image

-- no file is too long, and none is at the path without names
pub record CanBegin (image : Image) : Type 0 where
  pub short : (path : Names) (bytes : List ℕ) → image path ≡ Some bytes → length bytes ≤ 2 ^ 50
  pub no_top : image [] ≡ None

-- this content, and a stop leaves just that
abbrev pub settled_as : Content → Held
settled_as content = record { now = content; may = just content ∷ [] }

-- each file of the image is there for good, and nothing else is or may be there
abbrev pub settled_files : Image → State
settled_files image path = settled_as (image path)

-- the state with one more file, which is settled
abbrev pub with_settled : Names → List ℕ → State → State
with_settled place bytes state path = if same_path place path then settled_as (Some bytes) else state path

-- ---- images of a moment

-- the moment right before the call of this number, or the present one where that call wasn't made yet
pub record IsRightBefore (call place : ℕ) (told : Told) : Type 0 where
  pub within : place ≤ told.count
  pub calls : (told.at place).calls ≡ call
  pub last : (later : ℕ) → place < later → later ≤ told.count → call < (told.at later).calls

-- what the last member shows, which is the oldest
abbrev pub oldest : List Member → Content
oldest [] = None
oldest (member ∷ []) = shown member
oldest (member ∷ (older ∷ may)) = oldest (older ∷ may)

-- the image of what is there now comes first, then the one of the oldest that a stop may leave at each path, and the one of the newest
pub record HasViewsFirst (state : State) (images : List Files) : Type 0 where
  pub first : Files
  pub second : Files
  pub third : Files
  pub others : List Files
  pub are : images ≡ first ∷ second ∷ third ∷ others
  pub now : (path : Names) → image_of first path ≡ (state path).now
  pub of_oldest : (path : Names) → image_of second path ≡ oldest (state path).may
  pub of_newest : (path : Names) → image_of third path ≡ newest (state path).may

-- images of the state right before the call of this number: each fits it, and a directory can be made from each
pub record Shows (call : ℕ) (told : Told) (images : List Files) : Type 0 where
  pub place : ℕ
  pub before : IsRightBefore call place told
  pub fits : All (λ files. Fits (told.at place).state (image_of files)) images
  pub starts : All (λ files. CanBegin (image_of files)) images
  pub views : HasViewsFirst (told.at place).state images

-- ---- how an image is chosen

-- what a view has of a path
abbrev pub seen : View → Held → Content
seen Now held = held.now
seen Oldest held = oldest held.may
seen Newest held = newest held.may

-- the image with this at one path
abbrev pub with_file : Names → Content → Image → Image
with_file place content image path = if same_path place path then content else image path

-- a stop may leave this, and it isn't too long
abbrev pub is_fair : Held → Content → Bool
is_fair held content = allows held.may content && is_short_content content

abbrev pub IsFair : State → Image → Type 0
IsFair state image = (path : Names) → is_fair (state path) (image path) ≡ true

-- all that is shown of a member passes the test; any file is shown as an empty one, and as one of `garbage`
abbrev pub Passes : (Content → Bool) → Member → Type 0
Passes test Anything = (test (Some []) ≡ true) × (test (Some garbage) ≡ true)
Passes test member = test (shown member) ≡ true
