-- What a fault of the directory is to a caller of a merge.
use Rattle.dir_disk.specs.declared.dir.DirFault.{DirFault}
use Rattle.dir_disk.specs.declared.dir.DirFault.TheVariants.{Failed, NoMemory}
use Rattle.merge.specs.declared.fault.MergeFault.{MergeFault}
use Rattle.merge.specs.declared.fault.MergeFault.TheVariants.{Disk, NoMemory as OutOfMemory}

abbrev pub fault_of : DirFault → MergeFault
fault_of Failed = Disk
fault_of NoMemory = OutOfMemory
