-- The folders of a work folder: their names and their order.
use Rattle.std.specs.Prelude.{ℕ, ◌+◌, ◌*◌, ◌^◌, ◌<◌, ◌≤◌, Bool, true, false, not, List, [], ◌∷◌, ◌++◌, codes}
use Rattle.peg_base.specs.Names.{Names}
use Rattle.digit_names.specs.Digits.{digits}
use Rattle.conf.specs.declared.commands.Form.{Form}
use Rattle.conf.specs.Rules.{is_base, is_clustered}
use Rattle.mining.specs.declared.place.Place.{Place}
use Rattle.mining.specs.declared.place.Place.TheVariants.{Conf, Edges, Nodes, Placed, Matrix, Blocks, Messages, Vector, Joined, Results}

-- the name of a folder; numbers have ten digits
unfoldable pub name_of : Place → List ℕ
name_of Conf = codes "conf"
name_of Edges = codes "edges"
name_of Nodes = codes "nodes"
name_of Placed = codes "placed"
name_of Matrix = codes "matrix"
name_of Blocks = codes "blocks"
name_of (Messages k) = codes "s-" ++ digits 10 k
name_of (Vector k) = codes "v-" ++ digits 10 k
name_of Joined = codes "joined"
name_of Results = codes "result"

abbrev pub folder_of : Place → Names
folder_of place = name_of place ∷ []

-- the folders that there are: a number has ten digits, and messages are numbered from 1
abbrev pub IsInTable : Place → Type 0
IsInTable (Messages k) = (1 ≤ k) × (k < 10 ^ 10)
IsInTable (Vector k) = k < 10 ^ 10
IsInTable _ = Unit {0}

-- where the folder stands in the table: the messages of an iteration, then its vector, and behind all of them the last two
unfoldable pub rank_of : Place → ℕ
rank_of Conf = 0
rank_of Edges = 1
rank_of Nodes = 2
rank_of Placed = 3
rank_of Matrix = 4
rank_of Blocks = 5
rank_of (Messages k) = 6 + 2 * k
rank_of (Vector k) = 7 + 2 * k
rank_of Joined = 10 ^ 11
rank_of Results = 10 ^ 11 + 1

-- the folders that a form makes
abbrev pub is_made : Form → Place → Bool
is_made form Placed = is_clustered form
is_made form Blocks = not (is_base form)
is_made form Joined = is_clustered form
is_made form _ = true

-- the folders that are dropped again
abbrev pub is_messages : Place → Bool
is_messages (Messages k) = true
is_messages _ = false

-- the folders that the driver writes itself; each other one is made by a job
abbrev pub is_sealed : Place → Bool
is_sealed Conf = true
is_sealed Edges = true
is_sealed Nodes = true
is_sealed Placed = true
is_sealed _ = false
