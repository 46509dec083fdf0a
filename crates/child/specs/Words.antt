-- Which role words name, and what it writes.
use Rattle.std.specs.Prelude.{ℕ, ◌≤◌, ◌^◌, ⊤, ◌==◌, Bool, true, false, List, Option, Some, None, option_map, option_and_then, length, codes, if◌then◌else◌}
use Rattle.peg_text.specs.Decimal.{decimal_of}
use Rattle.words.specs.Words.{after_prefix, is_word, number_between, word_at}
use Rattle.gimv_core.specs.Algebras.{Algebra}
use Rattle.gimv_base.specs.Rules.{Rule}
use Rattle.gimv_base.specs.BaseRules.{id_rule, entries_rule, degrees_rule, place_rule, first_rule, stage1_rule, stage2_rule, number_rule}
use Rattle.gimv_block.specs.BlockRules.{group_rule, cut_rule, blocks_rule, firstb_rule, block1_rule, block2_rule, unblock_rule}
use Rattle.gimv_block.specs.Unplacing.{unplace_rule}
use Rattle.gimv_diag.specs.DiagonalRules.{diag1_rule}
use Rattle.hcc.specs.Components.{hcc_algebra, label_as_message}
use Rattle.pagerank.specs.Ranks.{page_rank_algebra}
use Rattle.hadi.specs.Hadi.{hadi_algebra}
use Rattle.child.specs.declared.roles.RoleName.{RoleName}
use Rattle.child.specs.declared.roles.RoleName.TheVariants as Role
use Rattle.child.specs.Roles.{role_named}
use Rattle.child.specs.Edges.{edges_rule}
use Rattle.child.specs.declared.kinds.Algorithm.{Algorithm}
use Rattle.child.specs.declared.kinds.Algorithm.TheVariants.{Hcc, PageRank, Hadi}
use Rattle.child.specs.declared.kinds.NodeRole.{NodeRole}
use Rattle.child.specs.declared.kinds.NodeRole.TheVariants.{First, Stage1, Stage2, Number}
use Rattle.child.specs.declared.kinds.BlockRole.{BlockRole}
use Rattle.child.specs.declared.kinds.BlockRole.TheVariants.{FirstB, Block1, Block2, Unblock, Unplace}
use Rattle.child.specs.declared.kinds.Kind.{Kind}
use Rattle.child.specs.declared.kinds.Kind.TheVariants as Asked

-- ---- what follows the name of a role

-- nothing
abbrev pub alone : Kind → List (List ℕ) → Option Kind
alone kind words = if length words == 1 then Some kind else None

-- `both` or `one`
abbrev pub sides_of : List ℕ → Option Bool
sides_of word = if is_word word (codes "both") then Some true else if is_word word (codes "one") then Some false else None

abbrev pub with_sides : List (List ℕ) → Option Kind
with_sides words = if length words == 2 then option_map Asked.Entries (sides_of (word_at words 1)) else None

-- the seed that the word `hadi=SEED` gives
abbrev pub seed_of : List ℕ → Option ℕ
seed_of word = option_and_then decimal_of (after_prefix (codes "hadi=") word)

abbrev pub algorithm_of : List ℕ → Option Algorithm
algorithm_of word =
    if is_word word (codes "hcc") then Some Hcc else if is_word word (codes "pagerank") then Some PageRank else option_map Hadi (seed_of word)

-- a number of nodes, from 1 to 2^30
abbrev pub node_count_of : List ℕ → Option ℕ
node_count_of word = number_between 1 (2 ^ 30) word

-- a number of nodes alone
abbrev pub only_nodes : List (List ℕ) → Option ℕ
only_nodes words = if length words == 2 then node_count_of (word_at words 1) else None

-- a number of nodes of a block, from 1 to 256
abbrev pub block_length_of : List ℕ → Option ℕ
block_length_of word = number_between 1 256 word

-- an algorithm and a number of nodes
abbrev pub over_nodes : NodeRole → List (List ℕ) → Option Kind
over_nodes role words =
    if length words == 3 then
    option_and_then (λ a. option_map (λ n. Asked.Nodes role a n) (node_count_of (word_at words 2))) (algorithm_of (word_at words 1))
    else None

-- the length of a block
abbrev pub only_length : List (List ℕ) → Option ℕ
only_length words = if length words == 2 then block_length_of (word_at words 1) else None

-- a number of nodes and the length of a block
abbrev pub closed_in_blocks : List (List ℕ) → Option Kind
closed_in_blocks words =
    if length words == 3 then
    option_and_then (λ n. option_map (λ b. Asked.Diagonal n b) (block_length_of (word_at words 2))) (node_count_of (word_at words 1))
    else None

-- an algorithm, a number of nodes and the length of a block
abbrev pub blocked : BlockRole → Algorithm → List (List ℕ) → Option Kind
blocked role algorithm words =
    option_and_then (λ n. option_map (λ b. Asked.InBlocks role algorithm n b) (block_length_of (word_at words 3))) (node_count_of (word_at words 2))

abbrev pub over_blocks : BlockRole → List (List ℕ) → Option Kind
over_blocks role words =
    if length words == 4 then option_and_then (λ a. blocked role a words) (algorithm_of (word_at words 1)) else None

-- the table: what words ask for, by the role that the first one names
abbrev pub asked_of : List (List ℕ) → RoleName → Option Kind
asked_of words Role.Id = alone Asked.Id words
asked_of words Role.Edges = option_map Asked.Edges (only_nodes words)
asked_of words Role.Entries = with_sides words
asked_of words Role.Degrees = alone Asked.Degrees words
asked_of words Role.First = over_nodes First words
asked_of words Role.Stage1 = over_nodes Stage1 words
asked_of words Role.Stage2 = over_nodes Stage2 words
asked_of words Role.Number = over_nodes Number words
asked_of words Role.Group = option_map Asked.Group (only_length words)
asked_of words Role.FirstB = over_blocks FirstB words
asked_of words Role.Cut = option_map Asked.Cut (only_length words)
asked_of words Role.Blocks = alone Asked.Blocks words
asked_of words Role.Block1 = over_blocks Block1 words
asked_of words Role.Diag1 = closed_in_blocks words
asked_of words Role.Block2 = over_blocks Block2 words
asked_of words Role.Unblock = over_blocks Unblock words
asked_of words Role.Unplace = over_blocks Unplace words
asked_of words Role.Place = alone Asked.Place words

abbrev pub kind_of : List (List ℕ) → Option Kind
kind_of words = option_and_then (asked_of words) (role_named (word_at words 0))

-- a role over nodes has at least one, and so has a block
abbrev pub HasNodes : Kind → Type 0
HasNodes Asked.Id = ⊤
HasNodes (Asked.Edges nodes) = 1 ≤ nodes
HasNodes (Asked.Entries both) = ⊤
HasNodes Asked.Degrees = ⊤
HasNodes Asked.Place = ⊤
HasNodes (Asked.Nodes role algorithm nodes) = 1 ≤ nodes
HasNodes (Asked.Group block) = 1 ≤ block
HasNodes (Asked.Cut block) = 1 ≤ block
HasNodes Asked.Blocks = ⊤
HasNodes (Asked.InBlocks role algorithm nodes block) = (1 ≤ nodes) × (1 ≤ block)
HasNodes (Asked.Diagonal nodes block) = 1 ≤ block

-- ---- how a role writes

abbrev pub rule_of_node_role : {Val Msg Weight : Type 0} → NodeRole → Algebra Val Msg Weight → ℕ → Rule
rule_of_node_role First a n = first_rule a n
rule_of_node_role Stage1 a n = stage1_rule a n
rule_of_node_role Stage2 a n = stage2_rule a n
rule_of_node_role Number a n = number_rule a n

abbrev pub rule_over_nodes : NodeRole → Algorithm → ℕ → Rule
rule_over_nodes role Hcc n = rule_of_node_role role hcc_algebra n
rule_over_nodes role PageRank n = rule_of_node_role role (page_rank_algebra n) n
rule_over_nodes role (Hadi seed) n = rule_of_node_role role (hadi_algebra seed) n

abbrev pub rule_of_block_role : {Val Msg Weight : Type 0} → BlockRole → Algebra Val Msg Weight → ℕ → ℕ → Rule
rule_of_block_role FirstB a n b = firstb_rule a b n
rule_of_block_role Block1 a n b = block1_rule a b n
rule_of_block_role Block2 a n b = block2_rule a b n
rule_of_block_role Unblock a n b = unblock_rule a b n
rule_of_block_role Unplace a n b = unplace_rule a b n

abbrev pub rule_over_blocks : BlockRole → Algorithm → ℕ → ℕ → Rule
rule_over_blocks role Hcc n b = rule_of_block_role role hcc_algebra n b
rule_over_blocks role PageRank n b = rule_of_block_role role (page_rank_algebra n) n b
rule_over_blocks role (Hadi seed) n b = rule_of_block_role role (hadi_algebra seed) n b

abbrev pub rule_of_kind : Kind → Rule
rule_of_kind Asked.Id = id_rule
rule_of_kind (Asked.Edges nodes) = edges_rule nodes
rule_of_kind (Asked.Entries both) = entries_rule both
rule_of_kind Asked.Degrees = degrees_rule
rule_of_kind Asked.Place = place_rule
rule_of_kind (Asked.Nodes role algorithm nodes) = rule_over_nodes role algorithm nodes
rule_of_kind (Asked.Group block) = group_rule block
rule_of_kind (Asked.Cut block) = cut_rule block
rule_of_kind Asked.Blocks = blocks_rule
rule_of_kind (Asked.InBlocks role algorithm nodes block) = rule_over_blocks role algorithm nodes block
rule_of_kind (Asked.Diagonal nodes block) = diag1_rule hcc_algebra label_as_message block nodes

-- how the role writes that words name
abbrev pub rule_of : List (List ℕ) → Option Rule
rule_of words = option_map rule_of_kind (kind_of words)
