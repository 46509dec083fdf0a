-- What a fault of the directory is to a caller of the splits.
use Rattle.dir_disk.specs.declared.dir.DirFault.{DirFault}
use Rattle.dir_disk.specs.declared.dir.DirFault.TheVariants.{Failed, NoMemory}
use Rattle.splits.specs.declared.fault.SplitFault.{SplitFault}
use Rattle.splits.specs.declared.fault.SplitFault.TheVariants.{Disk, NoMemory as OutOfMemory}

abbrev pub fault_of : DirFault → SplitFault
fault_of Failed = Disk
fault_of NoMemory = OutOfMemory
