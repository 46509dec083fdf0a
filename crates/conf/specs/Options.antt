-- Where the words of the command line give an option. They are numbered from 0: WORK EDGES COMMAND and options.
use Rattle.std.specs.Prelude.{ℕ, ◌+◌, ◌==◌, Bool, false, List, [], ◌∷◌, Option, Some, None, option_and_then, is_some, drop, if◌then◌else◌}
use Rattle.std.specs.Option.{option_map_or}
use Rattle.words.specs.Words.{after_prefix, word_at}
use Rattle.conf.specs.declared.settings.Setting.{Setting}
use Rattle.conf.specs.Settings.{prefix_of}

-- the value in a word of this option
abbrev pub value_in : Setting → List ℕ → Option (List ℕ)
value_in setting word = after_prefix (prefix_of setting) word

-- the number of the first word of this option among these, of which the first has the number k
abbrev pub place_from : Setting → ℕ → List (List ℕ) → Option ℕ
place_from setting k [] = None
place_from setting k (word ∷ words) =
    if is_some (value_in setting word) then Some k else place_from setting (k + 1) words

-- options come after the first three words
abbrev pub place_of : List (List ℕ) → Setting → Option ℕ
place_of words setting = place_from setting 3 (drop 3 words)

-- the value that the first word of this option gives
abbrev pub value_of : List (List ℕ) → Setting → Option (List ℕ)
value_of words setting = option_and_then (λ k. value_in setting (word_at words k)) (place_of words setting)

-- whether the word of this number is the first one of the option
abbrev pub is_first : List (List ℕ) → Setting → ℕ → Bool
is_first words setting k = option_map_or (λ place. place == k) (place_of words setting) false
