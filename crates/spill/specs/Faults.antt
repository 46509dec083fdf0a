-- What a fault of the directory is to a caller of a spill.
use Rattle.dir_disk.specs.declared.dir.DirFault.{DirFault}
use Rattle.dir_disk.specs.declared.dir.DirFault.TheVariants.{Failed, NoMemory}
use Rattle.spill.specs.declared.fault.SpillFault.{SpillFault}
use Rattle.spill.specs.declared.fault.SpillFault.TheVariants.{Disk, NoMemory as OutOfMemory}

abbrev pub fault_of : DirFault → SpillFault
fault_of Failed = Disk
fault_of NoMemory = OutOfMemory
