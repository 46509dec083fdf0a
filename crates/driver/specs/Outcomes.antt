-- The exit codes and the fault lines of the outcomes, and the outcomes of faults.
use Rattle.std.specs.Prelude.{ℕ, List, [], ◌∷◌, ◌++◌, codes, decimal}
use Rattle.dir_disk.specs.declared.streams.SourceFault.{SourceFault}
use Rattle.dir_disk.specs.declared.streams.SourceFault.TheVariants as Read
use Rattle.dir_disk.specs.declared.streams.SayFault as Console
use Rattle.dir_disk.specs.declared.streams.SayFault.TheVariants as Say
use Rattle.edge_text.specs.declared.fault.EdgeFault.{EdgeFault}
use Rattle.edge_text.specs.declared.fault.EdgeFault.TheVariants as Text
use Rattle.driver.specs.declared.outcome.Outcome.{Outcome}
use Rattle.driver.specs.declared.outcome.Outcome.TheVariants.{Done, Usage, BadEdge, BigNode, TooLarge, OtherJob, OtherEdges, BadStore, TaskFailed, DiskFault, ReadFault, SayFault, NoMemory}
use Rattle.std.specs.List.{flat_map}
use Rattle.peg_base.specs.Names.{Names}
use Rattle.peg_base.specs.declared.tasks.Phase.{Phase}
use Rattle.peg_base.specs.declared.tasks.Phase.TheVariants.{Map, Combine, Reduce}
use Rattle.mining.specs.declared.stop.Stop.{Stop}

abbrev pub code_of : Outcome → ℕ
code_of Done = 0
code_of (Usage word) = 2
code_of (BadEdge line) = 3
code_of (BigNode line id) = 3
code_of TooLarge = 3
code_of (OtherJob line) = 4
code_of (OtherEdges line) = 4
code_of (BadStore path line) = 4
code_of (TaskFailed task) = 5
code_of DiskFault = 6
code_of ReadFault = 7
code_of SayFault = 8
code_of NoMemory = 9

-- a fault's line: the program's name and what is wrong
abbrev pub fault_line : List ℕ → List ℕ
fault_line fault = codes "pegmine: " ++ fault ++ codes "\n"

abbrev pub slashed : List ℕ → List ℕ
slashed name = 47 ∷ name

-- the names of a path, with a slash between any two
abbrev pub path_text : Names → List ℕ
path_text [] = []
path_text (name ∷ names) = name ++ flat_map slashed names

abbrev pub phase_word : Phase → List ℕ
phase_word Map = codes " map "
phase_word Combine = codes " combine "
phase_word Reduce = codes " reduce "

abbrev pub line_of : Outcome → List ℕ
line_of Done = []
line_of (Usage word) = fault_line (codes "bad word " ++ decimal word)
line_of (BadEdge line) = fault_line (codes "bad edge at line " ++ decimal line)
line_of (BigNode line id) = fault_line (codes "node " ++ decimal id ++ codes " out of range at line " ++ decimal line)
line_of TooLarge = fault_line (codes "edge file too large")
line_of (OtherJob line) = fault_line (codes "another job at conf line " ++ decimal line)
line_of (OtherEdges line) = fault_line (codes "other edges at line " ++ decimal line)
line_of (BadStore path line) = fault_line (codes "bad store " ++ path_text path ++ codes " line " ++ decimal line)
line_of (TaskFailed task) = fault_line (codes "task failed " ++ path_text task.job ++ phase_word task.phase ++ decimal task.task)
line_of DiskFault = fault_line (codes "disk fault")
line_of ReadFault = fault_line (codes "read fault")
line_of SayFault = fault_line (codes "say fault")
line_of NoMemory = fault_line (codes "no memory")

-- the outcome of a refusal of the edges
abbrev pub outcome_of_edges : EdgeFault → Outcome
outcome_of_edges (Text.BadEdge line) = BadEdge line
outcome_of_edges (Text.BigNode line id) = BigNode line id
outcome_of_edges Text.TooLarge = TooLarge
outcome_of_edges Text.NoMemory = NoMemory

-- the outcome of a read that gave nothing
abbrev pub outcome_of_source : SourceFault → Outcome
outcome_of_source Read.Failed = ReadFault
outcome_of_source Read.NoMemory = NoMemory

-- the outcome of a line that wasn't said
abbrev pub outcome_of_console : Console.SayFault → Outcome
outcome_of_console Say.Failed = SayFault
outcome_of_console Say.NoMemory = NoMemory

-- the outcome of a mining run that stopped
abbrev pub outcome_of_stop : Stop → Outcome
outcome_of_stop (Stop.TaskFailed task) = TaskFailed task
outcome_of_stop (Stop.BadStore path line) = BadStore path line
outcome_of_stop (Stop.BadEdge line) = BadEdge line
outcome_of_stop (Stop.BigNode line id) = BigNode line id
outcome_of_stop Stop.TooLarge = TooLarge
outcome_of_stop (Stop.OtherJob line) = OtherJob line
outcome_of_stop (Stop.OtherEdges line) = OtherEdges line
outcome_of_stop Stop.Disk = DiskFault
outcome_of_stop Stop.Read = ReadFault
outcome_of_stop Stop.Say = SayFault
outcome_of_stop Stop.NoMemory = NoMemory
