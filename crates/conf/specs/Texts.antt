-- The text of a conf: one line for each thing that the committed bytes depend on.
use Rattle.std.specs.Prelude.{ℕ, Bool, true, false, List, [], ◌∷◌, ◌++◌, codes, decimal}
use Rattle.std.specs.List.{flat_map}
use Rattle.conf.specs.declared.commands.Command.{Command}
use Rattle.conf.specs.declared.commands.Command.TheVariants.{Plain, Hcc, Hadi, PageRank}
use Rattle.conf.specs.declared.commands.Form.{Form}
use Rattle.conf.specs.declared.commands.Form.TheVariants.{Base, Block, Clustered, Diagonal}
use Rattle.conf.specs.declared.reading.Conf.{Conf}
use Rattle.conf.specs.Commands.{form_name, name_of}

-- a line, without its LF: a name, and a number or a word
abbrev pub number_line : List ℕ → ℕ → List ℕ
number_line name number = name ++ (32 ∷ decimal number)

abbrev pub word_line : List ℕ → List ℕ → List ℕ
word_line name word = name ++ (32 ∷ word)

abbrev pub choice_name : Bool → List ℕ
choice_name true = codes "yes"
choice_name false = codes "no"

-- the block length, where the form has blocks
abbrev pub block_lines : Form → ℕ → List (List ℕ)
block_lines Base block = []
block_lines Block block = number_line (codes "block") block ∷ []
block_lines Clustered block = number_line (codes "block") block ∷ []
block_lines Diagonal block = number_line (codes "block") block ∷ []

-- the options that only one command has
abbrev pub own_lines : Command → Conf → List (List ℕ)
own_lines Plain conf = []
own_lines Hcc conf = []
own_lines Hadi conf =
    number_line (codes "hops") conf.hops ∷ number_line (codes "seed") conf.seed ∷ word_line (codes "sym") (choice_name conf.sym) ∷ []
own_lines PageRank conf = number_line (codes "iters") conf.iters ∷ []

abbrev pub lines_of : Conf → List (List ℕ)
lines_of conf =
    number_line (codes "pegmine") 1
    ∷ word_line (codes "command") (name_of conf.command)
    ∷ number_line (codes "nodes") conf.nodes
    ∷ number_line (codes "reducers") conf.reducers
    ∷ number_line (codes "split") conf.split
    ∷ word_line (codes "form") (form_name conf.form)
    ∷ (block_lines conf.form conf.block ++ own_lines conf.command conf)

-- the lines, each with its LF
abbrev pub text_of : Conf → List ℕ
text_of conf = flat_map (λ line. line ++ (10 ∷ [])) (lines_of conf)
