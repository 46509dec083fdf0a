-- The exit statuses of a child, and the statuses of faults.
use Rattle.std.specs.Prelude.{ℕ}
use Rattle.dir_disk.specs.declared.streams.SourceFault.{SourceFault}
use Rattle.dir_disk.specs.declared.streams.SourceFault.TheVariants as Read
use Rattle.dir_disk.specs.declared.streams.SinkFault.{SinkFault}
use Rattle.dir_disk.specs.declared.streams.SinkFault.TheVariants as Write
use Rattle.child.specs.declared.status.ChildStatus.{ChildStatus}
use Rattle.child.specs.declared.status.ChildStatus.TheVariants as Status

abbrev pub code_of : ChildStatus → ℕ
code_of Status.Ok = 0
code_of Status.Usage = 2
code_of (Status.BadLine line) = 65
code_of Status.TooLarge = 66
code_of Status.NoMemory = 70
code_of Status.Fault = 74

-- the status after a read that gave nothing
abbrev pub status_of_source : SourceFault → ChildStatus
status_of_source Read.Failed = Status.Fault
status_of_source Read.NoMemory = Status.NoMemory

-- the status after a write that didn't take all
abbrev pub status_of_sink : SinkFault → ChildStatus
status_of_sink Write.Failed = Status.Fault
status_of_sink Write.NoMemory = Status.NoMemory
