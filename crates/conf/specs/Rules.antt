-- Which words are refused. A word is refused for itself, or by a check that compares two words, neither of which is refused for itself.
use Rattle.std.specs.Prelude.{◌≡◌, ℕ, ◌^◌, ◌<◌, ◌==◌, Bool, true, false, not, ◌||◌, ◌&&◌, List, [], ◌∷◌, Option, Some, None, option_and_then, is_some, length, codes, nat_lt, if◌then◌else◌}
use Rattle.std.specs.Option.{option_map_or}
use Rattle.std.specs.List.{list_any}
use Rattle.words.specs.Words.{is_word, word_at}
use Rattle.conf.specs.declared.commands.Command.{Command}
use Rattle.conf.specs.declared.commands.Form.{Form}
use Rattle.conf.specs.declared.commands.Form.TheVariants.{Base, Block, Clustered, Diagonal}
use Rattle.conf.specs.declared.settings.Number.TheVariants.{Nodes, BlockLength}
use Rattle.conf.specs.declared.settings.Setting.{Setting}
use Rattle.conf.specs.declared.settings.Setting.TheVariants.{Numeric, Gen, FormName}
use Rattle.conf.specs.Commands.{command_named, form_named, is_mining}
use Rattle.conf.specs.Settings.{has_setting, is_value, number_for, settings}
use Rattle.conf.specs.Options.{is_first, place_of, value_in, value_of}

-- the command, where word 2 names one
abbrev pub command_of : List (List ℕ) → Option Command
command_of words = command_named (word_at words 2)

-- ---- for itself

-- word k gives this option of the command, for the first time, a value that it takes
unfoldable pub gives : List (List ℕ) → Command → ℕ → Setting → Bool
gives words command k setting =
    has_setting command setting
    && is_first words setting k
    && option_map_or (is_value command setting) (value_in setting (word_at words k)) false

-- word k is refused for itself: it is no option of the command, a repeat, or has a value out of range
abbrev pub is_bad_option : List (List ℕ) → Command → ℕ → Bool
is_bad_option words command k = not (list_any (gives words command k) settings)

-- ---- by checks that compare two words

-- an edge file is named: word 1 is neither empty nor `-`
abbrev pub names_file : List ℕ → Bool
names_file [] = false
names_file (b ∷ bs) = not (is_word (b ∷ bs) (codes "-"))

-- the command is there, and an option `gen`
abbrev pub has_gen : List (List ℕ) → Bool
has_gen words = is_some (command_of words) && is_some (place_of words Gen)

-- the form that the words give the command: none where the word of the form is refused for itself
abbrev pub form_of : List (List ℕ) → Command → Option Form
form_of words command = form_or_base command (value_of words FormName)
  where
    form_or_base : Command → Option (List ℕ) → Option Form
    form_or_base command None = Some Base
    form_or_base command (Some text) = form_named command text

abbrev pub is_base : Form → Bool
is_base Base = true
is_base Block = false
is_base Clustered = false
is_base Diagonal = false

abbrev pub is_clustered : Form → Bool
is_clustered Base = false
is_clustered Block = false
is_clustered Clustered = true
is_clustered Diagonal = false

-- the most nodes of `plain` and of the clustered form
abbrev pub most_nodes_at_once : ℕ
most_nodes_at_once = 2 ^ 27

-- the command or its form has the smaller limit on the nodes
abbrev pub has_small_limit : List (List ℕ) → Command → Bool
has_small_limit words command =
    not (is_mining command) || option_map_or is_clustered (form_of words command) false

-- the nodes are more than the smaller limit
abbrev pub has_many_nodes : List (List ℕ) → Bool
has_many_nodes words = option_map_or (nat_lt most_nodes_at_once) (option_and_then (number_for Nodes) (value_of words (Numeric Nodes))) false

-- word k doesn't go with another word: `block` with the base form, too many nodes for the command or the form, `gen` with an edge file
abbrev pub clashes : List (List ℕ) → Command → ℕ → Bool
clashes words command k =
    (is_first words (Numeric BlockLength) k && option_map_or is_base (form_of words command) false)
    || (is_first words (Numeric Nodes) k && has_small_limit words command && has_many_nodes words)
    || (is_first words Gen k && names_file (word_at words 1))

-- ---- all rules

-- an option is refused; where no command is there, no word is an option of it
abbrev pub refuses_option : List (List ℕ) → ℕ → Bool
refuses_option words k =
    option_map_or (λ command. is_bad_option words command k || clashes words command k) (command_of words) true

-- word k, which is there, is refused
abbrev pub refuses_word : List (List ℕ) → ℕ → Bool
refuses_word words k =
    if k == 0 then length (word_at words 0) == 0
    else (if k == 1 then (length (word_at words 1) == 0 || (is_word (word_at words 1) (codes "-") && not (has_gen words)))
    else (if k == 2 then not (is_some (command_of words))
    else refuses_option words k))

-- a word is missing: one of the first three, or the option `nodes`
abbrev pub lacks_word : List (List ℕ) → Bool
lacks_word words = nat_lt (length words) 3 || not (is_some (place_of words (Numeric Nodes)))

-- whether the number k is refused: that of a word, or the number of words where one is missing
abbrev pub is_refused : List (List ℕ) → ℕ → Bool
is_refused words k =
    if nat_lt k (length words) then refuses_word words k else (k == length words && lacks_word words)

-- the least number that is refused
pub record IsLeastRefused (words : List (List ℕ)) (k : ℕ) : Type 0 where
  pub refused : is_refused words k ≡ true
  pub before : (j : ℕ) → j < k → is_refused words j ≡ false

-- no number is refused
abbrev pub AreAccepted : List (List ℕ) → Type 0
AreAccepted words = (k : ℕ) → is_refused words k ≡ false
