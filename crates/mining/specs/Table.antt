-- The table of jobs: what each of them reads, and the words of its children.
use Rattle.std.specs.Prelude.{ℕ, zero, suc, Bool, false, List, [], ◌∷◌, ◌++◌, codes, decimal, map, if◌then◌else◌}
use Rattle.std.specs.List.{flat_map, range_with_len}
use Rattle.peg_base.specs.Names.{Names}
use Rattle.committer.specs.Paths.{part_of}
use Rattle.conf.specs.declared.commands.Command.{Command}
use Rattle.conf.specs.declared.commands.Command.TheVariants.{Plain, Hcc, Hadi, PageRank}
use Rattle.conf.specs.declared.commands.Form.{Form}
use Rattle.conf.specs.declared.commands.Form.TheVariants.{Base, Clustered, Diagonal}
use Rattle.conf.specs.declared.reading.Conf.{Conf as Settings}
use Rattle.mining.specs.declared.place.Place.{Place}
use Rattle.mining.specs.declared.place.Place.TheVariants.{Edges, Nodes, Placed, Matrix, Blocks, Messages, Vector, Joined, Results}
use Rattle.mining.specs.Places.{folder_of, is_sealed}

-- ---- inputs

-- what a form takes its matrix from, what a step multiplies by, and what the result is read from
abbrev pub edges_for : Form → Place
edges_for Clustered = Placed
edges_for _ = Edges

abbrev pub matrix_for : Form → Place
matrix_for Base = Matrix
matrix_for _ = Blocks

abbrev pub numbers_for : Form → ℕ → Place
numbers_for Clustered last = Joined
numbers_for _ last = Vector last

-- the folders that a job reads, in order, where this is the last iteration
abbrev pub inputs_of : Form → ℕ → Place → List Place
inputs_of form last Matrix = edges_for form ∷ []
inputs_of form last Blocks = Matrix ∷ []
inputs_of form last (Messages zero) = []
inputs_of form last (Messages (suc k)) = matrix_for form ∷ Vector k ∷ []
inputs_of form last (Vector zero) = Nodes ∷ []
inputs_of form last (Vector (suc k)) = Messages (suc k) ∷ []
inputs_of form last Joined = Nodes ∷ Vector last ∷ []
inputs_of form last Results = numbers_for form last ∷ []
inputs_of form last _ = []

-- the folders that the driver writes have one part, and all others as many as there are reducers
abbrev pub part_count : Settings → Place → ℕ
part_count conf place = if is_sealed place then 1 else conf.reducers

abbrev pub part_paths : Place → ℕ → List Names
part_paths place count = map (part_of (folder_of place)) (range_with_len 0 count)

-- the files that a job reads, in order
unfoldable pub paths_read : Settings → ℕ → Place → List Names
paths_read conf last place = flat_map (λ input. part_paths input (part_count conf input)) (inputs_of conf.form last place)

-- ---- words

-- the algorithm, as children are told it
abbrev pub algorithm_word : Settings → Command → List ℕ
algorithm_word conf Plain = []
algorithm_word conf Hcc = codes "hcc"
algorithm_word conf Hadi = codes "hadi=" ++ decimal conf.seed
algorithm_word conf PageRank = codes "pagerank"

-- a role over all nodes, and one over blocks of them
abbrev pub over_nodes : Settings → List ℕ → List (List ℕ)
over_nodes conf role = role ∷ algorithm_word conf conf.command ∷ decimal conf.nodes ∷ []

abbrev pub over_blocks : Settings → List ℕ → List (List ℕ)
over_blocks conf role = over_nodes conf role ++ decimal conf.block ∷ []

abbrev pub id_role : List (List ℕ)
id_role = codes "id" ∷ []

-- the mapper and the reducer that make a matrix of edges
abbrev pub matrix_map : Command → Bool → List (List ℕ)
matrix_map Hadi false = codes "entries" ∷ codes "one" ∷ []
matrix_map PageRank sym = id_role
matrix_map _ sym = codes "entries" ∷ codes "both" ∷ []

abbrev pub matrix_reduce : Command → List (List ℕ)
matrix_reduce PageRank = codes "degrees" ∷ []
matrix_reduce _ = id_role

abbrev pub first_map : Settings → Form → List (List ℕ)
first_map conf Base = id_role
first_map conf _ = codes "group" ∷ decimal conf.block ∷ []

abbrev pub first_reduce : Settings → Form → List (List ℕ)
first_reduce conf Base = over_nodes conf (codes "first")
first_reduce conf _ = over_blocks conf (codes "firstb")

abbrev pub messages_reduce : Settings → Form → List (List ℕ)
messages_reduce conf Base = over_nodes conf (codes "stage1")
messages_reduce conf Diagonal = codes "diag1" ∷ decimal conf.nodes ∷ decimal conf.block ∷ []
messages_reduce conf _ = over_blocks conf (codes "block1")

abbrev pub vector_reduce : Settings → Form → List (List ℕ)
vector_reduce conf Base = over_nodes conf (codes "stage2")
vector_reduce conf _ = over_blocks conf (codes "block2")

abbrev pub numbers_map : Settings → Form → List (List ℕ)
numbers_map conf Base = over_nodes conf (codes "number")
numbers_map conf Clustered = id_role
numbers_map conf _ = over_blocks conf (codes "unblock")

abbrev pub map_role : Settings → Place → List (List ℕ)
map_role conf Matrix = matrix_map conf.command conf.sym
map_role conf Blocks = codes "cut" ∷ decimal conf.block ∷ []
map_role conf (Vector zero) = first_map conf conf.form
map_role conf Joined = over_blocks conf (codes "unplace")
map_role conf Results = numbers_map conf conf.form
map_role conf _ = id_role

abbrev pub reduce_role : Settings → Place → List (List ℕ)
reduce_role conf Matrix = matrix_reduce conf.command
reduce_role conf Blocks = codes "blocks" ∷ []
reduce_role conf (Messages k) = messages_reduce conf conf.form
reduce_role conf (Vector zero) = first_reduce conf conf.form
reduce_role conf (Vector (suc k)) = vector_reduce conf conf.form
reduce_role conf Joined = codes "place" ∷ []
reduce_role conf _ = id_role

-- the words of a child
unfoldable pub map_words : Settings → Place → List (List ℕ)
map_words conf place = codes "pegchild" ∷ map_role conf place

unfoldable pub reduce_words : Settings → Place → List (List ℕ)
reduce_words conf place = codes "pegchild" ∷ reduce_role conf place
