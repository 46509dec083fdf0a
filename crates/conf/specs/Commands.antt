-- The commands, the forms, and the words that name them.
use Rattle.std.specs.Prelude.{ℕ, Bool, true, false, ◌&&◌, List, [], ◌∷◌, Option, codes}
use Rattle.std.specs.List.{find}
use Rattle.words.specs.Words.{is_word}
use Rattle.conf.specs.declared.commands.Command.{Command}
use Rattle.conf.specs.declared.commands.Command.TheVariants.{Plain, Hcc, Hadi, PageRank}
use Rattle.conf.specs.declared.commands.Form.{Form}
use Rattle.conf.specs.declared.commands.Form.TheVariants.{Base, Block, Clustered, Diagonal}

abbrev pub commands : List Command
commands = Plain ∷ Hcc ∷ Hadi ∷ PageRank ∷ []

abbrev pub name_of : Command → List ℕ
name_of Plain = codes "plain"
name_of Hcc = codes "hcc"
name_of Hadi = codes "hadi"
name_of PageRank = codes "pagerank"

-- the command that a word names
abbrev pub command_named : List ℕ → Option Command
command_named word = find (λ command. is_word word (name_of command)) commands

-- whether a command runs jobs in a work folder
abbrev pub is_mining : Command → Bool
is_mining Plain = false
is_mining Hcc = true
is_mining Hadi = true
is_mining PageRank = true

abbrev pub forms : List Form
forms = Base ∷ Block ∷ Clustered ∷ Diagonal ∷ []

abbrev pub form_name : Form → List ℕ
form_name Base = codes "base"
form_name Block = codes "block"
form_name Clustered = codes "clustered"
form_name Diagonal = codes "diagonal"

-- the diagonal form is for components alone
abbrev pub has_form : Command → Form → Bool
has_form Plain form = false
has_form Hcc form = true
has_form Hadi Base = true
has_form Hadi Block = true
has_form Hadi Clustered = true
has_form Hadi Diagonal = false
has_form PageRank Base = true
has_form PageRank Block = true
has_form PageRank Clustered = true
has_form PageRank Diagonal = false

-- the form of this command that a text names
abbrev pub form_named : Command → List ℕ → Option Form
form_named command text = find (λ form. is_word text (form_name form) && has_form command form) forms
