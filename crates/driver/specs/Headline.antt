-- The headline of a mining run: what it stands on, and what it leaves wherever the machine stops and where it is done.
use Rattle.std.specs.Prelude.{◌≡◌, ℕ, true, List, Option, Some}
use Rattle.dir_disk.specs.Moments.{EachImage, Through, Told, files}
use Rattle.dir_disk.specs.State.{Fits, Image, State}
use Rattle.dir_disk.specs.Streams.{added}
use Rattle.graph.specs.declared.edges.Edge.{Edge}
use Rattle.edge_text.specs.Edges.{edges_of}
use Rattle.conf.specs.Commands.{is_mining}
use Rattle.conf.specs.Meaning.{Mean}
use Rattle.conf.specs.declared.commands.Form.TheVariants.{Base}
use Rattle.conf.specs.declared.reading.Conf.{Conf as Settings}
use Rattle.flow.specs.Held.{HoldsResult, iterates_console}
use Rattle.flow.specs.Iterates.{IsLast, changed_of}
use Rattle.driver.specs.Running.{bytes_for}

-- the words ask for a mining run of the base form with these settings, and these are the edges that are accepted of the bytes
-- that it reads
pub record Asks (words : List (List ℕ)) (left : Option (List ℕ)) (conf : Settings) (accepted : List Edge) : Type 0 where
  pub mean : Mean words conf
  pub mines : is_mining conf.command ≡ true
  pub form : conf.form ≡ Base
  pub bytes : List ℕ
  pub read : bytes_for conf left ≡ Some bytes
  pub edges : accepted ≡ (edges_of conf.nodes bytes).edges

-- each image that a stop may leave has P: at the beginning, at each moment of the call, within each of its steps, and at its end
abbrev pub WhereverItStops : (Image → Type 0) → Told → Told → Type 0
WhereverItStops P old new =
    ((image : Image) → Fits (files old) image → P image) × Through (EachImage P) old new

-- all that a run from iteration k on has to say was said, with the counts and the total of the plain iteration, and each image has
-- all iterations and the result of it
pub record HasWritten (conf : Settings) (accepted : List Edge) (k : Option ℕ) (before now : Option (List ℕ)) (state : State) : Type 0 where
  pub last : ℕ
  pub is_last : IsLast conf (changed_of conf accepted) last
  pub said : now ≡ added before (iterates_console conf accepted k last)
  pub held : (image : Image) → Fits state image → HoldsResult conf accepted image
