-- What each folder of a work folder holds, whatever the children are.
use Rattle.std.specs.Prelude.{ℕ, zero, suc, ◌+◌, ◌*◌, Bool, true, false, ◌&&◌, ◌||◌, ◌==◌, nat_le, if◌then◌else◌, List, [], ◌∷◌, ◌++◌, Option, Some, None, unwrap_or}
use Rattle.std.specs.List.{find, flat_map, range_with_len}
use Rattle.graph.specs.declared.edges.Edge.{Edge}
use Rattle.edge_text.specs.Edges.{text_of as edges_text}
use Rattle.conf.specs.declared.commands.Command.{Command}
use Rattle.conf.specs.declared.commands.Command.TheVariants.{Plain, Hcc, Hadi, PageRank}
use Rattle.conf.specs.declared.reading.Conf.{Conf as Settings}
use Rattle.conf.specs.Texts.{text_of as conf_text}
use Rattle.job.specs.Output.{Plan, job_parts}
use Rattle.mining.specs.declared.place.Place.{Place}
use Rattle.mining.specs.declared.place.Place.TheVariants.{Conf, Edges, Nodes, Placed, Matrix, Blocks, Messages, Vector, Joined, Results}
use Rattle.store.specs.Sealed.{nodes_text}
use Rattle.store.specs.Parts.{Record, numbered}
use Rattle.store.specs.Totals.{changed, is_result, is_value, total_of}
use Rattle.peg_text.specs.Records.{records_of}
use Rattle.std.specs.List.{list_all}
use Rattle.mining.specs.Places.{is_sealed}
use Rattle.mining.specs.Table.{inputs_of, map_words, reduce_words}

-- what is mined: the settings, the edges, and what a child of some words writes for an input
pub record Mining : Type 0 where
  pub gives : List (List ℕ) → List ℕ → List ℕ
  pub conf : Settings
  pub edges : List Edge

-- ---- folders that the driver writes

-- the edges by their places: a stand-in, until the clustered form has its permutation
unfoldable pub placed_text : Mining → List ℕ
placed_text mining = []

abbrev pub sealed_parts : Mining → Place → List (List ℕ)
sealed_parts mining Conf = conf_text mining.conf ∷ []
sealed_parts mining Edges = edges_text mining.edges ∷ []
sealed_parts mining Nodes = nodes_text mining.conf.nodes ∷ []
sealed_parts mining Placed = placed_text mining ∷ []
sealed_parts mining _ = []

-- ---- folders that jobs make

-- the job of a folder, over these bytes
abbrev pub plan_for : Settings → Place → List (List ℕ) → Plan
plan_for conf place inputs =
    record {
      inputs = inputs;
      map_words = map_words conf place;
      reduce_words = reduce_words conf place;
      split = conf.split;
      reducers = conf.reducers;
    }

-- the parts that a job makes, from those of the folders that it reads
abbrev pub made : Mining → ℕ → Place → (Place → List (List ℕ)) → List (List ℕ)
made mining last place parts =
    job_parts mining.gives (plan_for mining.conf place (flat_map parts (inputs_of mining.conf.form last place)))

-- over how many jobs a folder stands
unfoldable pub depth_of : ℕ → Place → ℕ
depth_of last Matrix = 1
depth_of last Blocks = 2
depth_of last (Messages k) = 2 + 2 * k
depth_of last (Vector k) = 3 + 2 * k
depth_of last Joined = 4 + 2 * last
depth_of last Results = 5 + 2 * last
depth_of last _ = 0

-- the parts of a folder that stands over at most so many jobs
unfoldable pub parts_within : Mining → ℕ → ℕ → Place → List (List ℕ)
parts_within mining last zero place = sealed_parts mining place
parts_within mining last (suc depth) place =
    if is_sealed place then sealed_parts mining place else made mining last place (parts_within mining last depth)

-- the parts of each folder, where this is the last iteration
abbrev pub flow_to : Mining → ℕ → Place → List (List ℕ)
flow_to mining last place = parts_within mining last (depth_of last place) place

-- ---- iterations

-- the records of parts, in the order of the parts, of which the first one has this number
abbrev pub records_from : ℕ → List (List ℕ) → List Record
records_from part [] = []
records_from part (bytes ∷ parts) = numbered part 1 (records_of bytes) ++ records_from (part + 1) parts

abbrev pub when_good : (List ℕ → Bool) → List Record → ℕ → Option ℕ
when_good good records n = if list_all (λ (r : Record). good r.text) records then Some n else None

-- how many nodes changed, by the lines of a vector: `None` where one of them has another form
unfoldable pub changes_in : List (List ℕ) → Option ℕ
changes_in parts = when_good is_value (records_from 0 parts) (changed (records_from 0 parts))

-- what the lines of a result say together: `None` where one of them has another form
unfoldable pub total_in : Command → List (List ℕ) → Option ℕ
total_in command parts = when_good is_result (records_from 0 parts) (total_of command (records_from 0 parts))

-- no vector depends on which iteration is the last one
abbrev pub count_of : Mining → ℕ → Option ℕ
count_of mining k = changes_in (flow_to mining 0 (Vector k))

-- the most iterations of a command
abbrev pub most_of : Settings → Command → ℕ
most_of conf Plain = 0
most_of conf Hcc = conf.nodes
most_of conf Hadi = conf.hops
most_of conf PageRank = conf.iters

-- a command may end where no node changed, or after its most iterations
abbrev pub ends_unchanged : Command → Bool
ends_unchanged Hcc = true
ends_unchanged Hadi = true
ends_unchanged _ = false

abbrev pub ends_at_most : Command → Bool
ends_at_most Hadi = true
ends_at_most PageRank = true
ends_at_most _ = false

abbrev pub is_unchanged : Option ℕ → Bool
is_unchanged None = false
is_unchanged (Some count) = count == 0

-- iteration k, in which so many nodes changed, is one after which the command may end
abbrev pub is_end : Settings → ℕ → Option ℕ → Bool
is_end conf k count =
    nat_le 1 k && ((ends_unchanged conf.command && is_unchanged count) || (ends_at_most conf.command && k == most_of conf conf.command))

-- the first such iteration
unfoldable pub last_of : Mining → Option ℕ
last_of mining =
    find (λ k. is_end mining.conf k (count_of mining k)) (range_with_len 1 (most_of mining.conf mining.conf.command))

-- the parts of each folder
unfoldable pub flow : Mining → Place → List (List ℕ)
flow mining place = flow_to mining (unwrap_or (last_of mining) 0) place

abbrev pub mining_of : (List (List ℕ) → List ℕ → List ℕ) → Settings → List Edge → Mining
mining_of gives conf edges = record { gives = gives; conf = conf; edges = edges }
