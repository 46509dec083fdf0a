-- What a fault of the directory is to a caller of the committer.
use Rattle.std.specs.Prelude.{ℕ, Result, Ok, Err}
use Rattle.dir_disk.specs.declared.dir.DirFault.{DirFault}
use Rattle.dir_disk.specs.declared.dir.DirFault.TheVariants.{Failed, NoMemory}
use Rattle.committer.specs.declared.fault.CommitFault.{CommitFault}
use Rattle.committer.specs.declared.fault.CommitFault.TheVariants.{Disk, NoMemory as OutOfMemory}

abbrev pub fault_of : DirFault → CommitFault
fault_of Failed = Disk
fault_of NoMemory = OutOfMemory

-- how many calls of the directory a change by one call was: one that found no memory is none
abbrev pub calls_of : {T : Type 0} → Result T CommitFault → ℕ
calls_of (Ok value) = 1
calls_of (Err Disk) = 1
calls_of (Err OutOfMemory) = 0
