-- The options, the commands that take them, and the values that they take.
use Rattle.std.specs.Prelude.{ℕ, ◌+◌, ◌-◌, ◌^◌, ◌==◌, Bool, true, false, List, [], ◌∷◌, Option, Some, None, option_and_then, option_map, is_some, position, take, drop, codes, if◌then◌else◌}
use Rattle.peg_text.specs.Decimal.{decimal_of}
use Rattle.words.specs.Words.{is_word, number_between}
use Rattle.conf.specs.declared.commands.Command.{Command}
use Rattle.conf.specs.declared.commands.Command.TheVariants.{Plain, Hcc, Hadi, PageRank}
use Rattle.conf.specs.declared.settings.Number.{Number}
use Rattle.conf.specs.declared.settings.Number.TheVariants.{Nodes, Reducers, Split, Slots, Spill, BlockLength, Iters, Hops, Seed}
use Rattle.conf.specs.declared.settings.Setting.{Setting}
use Rattle.conf.specs.declared.settings.Setting.TheVariants.{Numeric, Gen, FormName, Sym, Backup}
use Rattle.conf.specs.Commands.{is_mining, form_named}

abbrev pub settings : List Setting
settings =
    Numeric Nodes ∷ Gen ∷ Numeric Reducers ∷ Numeric Split ∷ Numeric Slots ∷ Numeric Spill ∷ FormName ∷ Numeric BlockLength ∷ Numeric Iters ∷ Numeric Hops ∷ Numeric Seed ∷ Sym ∷ Backup ∷ []

-- what a word of this option begins with
abbrev pub prefix_of : Setting → List ℕ
prefix_of (Numeric Nodes) = codes "nodes="
prefix_of (Numeric Reducers) = codes "reducers="
prefix_of (Numeric Split) = codes "split="
prefix_of (Numeric Slots) = codes "slots="
prefix_of (Numeric Spill) = codes "spill="
prefix_of (Numeric BlockLength) = codes "block="
prefix_of (Numeric Iters) = codes "iters="
prefix_of (Numeric Hops) = codes "hops="
prefix_of (Numeric Seed) = codes "seed="
prefix_of Gen = codes "gen="
prefix_of FormName = codes "form="
prefix_of Sym = codes "sym="
prefix_of Backup = codes "backup="

abbrev pub is_hadi : Command → Bool
is_hadi Plain = false
is_hadi Hcc = false
is_hadi Hadi = true
is_hadi PageRank = false

abbrev pub is_pagerank : Command → Bool
is_pagerank Plain = false
is_pagerank Hcc = false
is_pagerank Hadi = false
is_pagerank PageRank = true

-- whether it is an option of this command
abbrev pub has_setting : Command → Setting → Bool
has_setting command (Numeric Nodes) = true
has_setting command (Numeric Reducers) = is_mining command
has_setting command (Numeric Split) = is_mining command
has_setting command (Numeric Slots) = is_mining command
has_setting command (Numeric Spill) = is_mining command
has_setting command (Numeric BlockLength) = is_mining command
has_setting command (Numeric Iters) = is_pagerank command
has_setting command (Numeric Hops) = is_hadi command
has_setting command (Numeric Seed) = is_hadi command
has_setting command Gen = true
has_setting command FormName = is_mining command
has_setting command Sym = is_hadi command
has_setting command Backup = is_mining command

-- the least, the greatest and the default value of an option that is a number
abbrev pub least_of : Number → ℕ
least_of Nodes = 1
least_of Reducers = 1
least_of Split = 1
least_of Slots = 1
least_of Spill = 1024
least_of BlockLength = 1
least_of Iters = 1
least_of Hops = 1
least_of Seed = 0

abbrev pub most_of : Number → ℕ
most_of Nodes = 2 ^ 30
most_of Reducers = 64
most_of Split = 2 ^ 40
most_of Slots = 16
most_of Spill = 2 ^ 30
most_of BlockLength = 256
most_of Iters = 9999
most_of Hops = 256
most_of Seed = 2 ^ 64 - 1

-- `nodes` has no default: where no word gives it, the words are refused
abbrev pub default_of : Number → ℕ
default_of Nodes = 1
default_of Reducers = 1
default_of Split = 2 ^ 26
default_of Slots = 4
default_of Spill = 2 ^ 24
default_of BlockLength = 16
default_of Iters = 10
default_of Hops = 64
default_of Seed = 1

-- the number that a text writes, if it is in the limits of the option
abbrev pub number_for : Number → List ℕ → Option ℕ
number_for number text = number_between (least_of number) (most_of number) text

-- the most edges that can be generated
abbrev pub most_edges : ℕ
most_edges = 100000000

-- the number of edges and the seed of a text `EDGES:SEED`
abbrev pub generator_at : List ℕ → ℕ → Option (ℕ × ℕ)
generator_at text colon =
    option_and_then
    (λ edges. option_map (λ seed. (edges, seed)) (decimal_of (drop (colon + 1) text)))
    (number_between 0 most_edges (take colon text))

-- the place of the first colon
abbrev pub colon_of : List ℕ → Option ℕ
colon_of text = position (λ b. b == 58) text

abbrev pub generator_in : List ℕ → Option (ℕ × ℕ)
generator_in text = option_and_then (generator_at text) (colon_of text)

-- a text `yes` or `no`
abbrev pub choice_in : List ℕ → Option Bool
choice_in text = if is_word text (codes "yes") then Some true else (if is_word text (codes "no") then Some false else None)

-- whether the text is a value of the option where this is the command
abbrev pub is_value : Command → Setting → List ℕ → Bool
is_value command (Numeric number) text = is_some (number_for number text)
is_value command Gen text = is_some (generator_in text)
is_value command FormName text = is_some (form_named command text)
is_value command Sym text = is_some (choice_in text)
is_value command Backup text = is_some (choice_in text)
