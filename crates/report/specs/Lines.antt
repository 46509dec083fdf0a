-- The lines that a run says.
use Rattle.std.specs.Prelude.{ℕ, Bool, true, false, List, [], ◌++◌, codes, decimal}
use Rattle.conf.specs.declared.commands.Command.{Command}
use Rattle.conf.specs.declared.commands.Command.TheVariants.{Plain, Hcc, Hadi, PageRank}
use Rattle.conf.specs.declared.reading.Conf.{Conf}
use Rattle.conf.specs.Commands.{name_of}

-- so many nodes changed in this iteration
abbrev pub iteration_text : ℕ → ℕ → List ℕ
iteration_text k changed = codes "iteration " ++ decimal k ++ codes " changed " ++ decimal changed ++ codes "\n"

-- a run goes on after this iteration
abbrev pub resumed_text : ℕ → List ℕ
resumed_text k = codes "resumed after iteration " ++ decimal k ++ codes "\n"

-- what the total of a command is: the radius is settled where no node changed in the last iteration
abbrev pub total_name : Command → Bool → List ℕ
total_name Plain settled = []
total_name Hcc settled = codes " components "
total_name Hadi true = codes " settled radius "
total_name Hadi false = codes " capped radius "
total_name PageRank settled = codes " units "

-- a run has ended after this iteration, with this total
abbrev pub done_text : Conf → ℕ → Bool → ℕ → List ℕ
done_text conf last settled total =
    codes "done " ++ name_of conf.command ++ codes " iterations " ++ decimal last ++ total_name conf.command settled ++ decimal total ++ codes "\n"
