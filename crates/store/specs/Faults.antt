-- What a fault of the directory is to a caller of the store.
use Rattle.std.specs.Prelude.{ℕ, Bool, List, ⊤}
use Rattle.peg_base.specs.Names.{Names}
use Rattle.dir_disk.specs.State.{State}
use Rattle.store.specs.Parts.{IsBadStore}
use Rattle.dir_disk.specs.declared.dir.DirFault.{DirFault}
use Rattle.dir_disk.specs.declared.dir.DirFault.TheVariants.{Failed, NoMemory}
use Rattle.dir_disk.specs.declared.streams.SourceFault.{SourceFault}
use Rattle.dir_disk.specs.declared.streams.SourceFault.TheVariants as Source
use Rattle.edge_text.specs.declared.fault.EdgeFault.{EdgeFault}
use Rattle.edge_text.specs.declared.fault.EdgeFault.TheVariants as Text
use Rattle.store.specs.declared.fault.IngestFault.{IngestFault}
use Rattle.store.specs.declared.fault.IngestFault.TheVariants as Ingest
use Rattle.committer.specs.declared.fault.CommitFault.{CommitFault}
use Rattle.committer.specs.declared.fault.CommitFault.TheVariants as Commit
use Rattle.store.specs.declared.fault.ReadingFault.{ReadingFault}
use Rattle.store.specs.declared.fault.ReadingFault.TheVariants as Reading
use Rattle.store.specs.declared.fault.StoreFault.{StoreFault}
use Rattle.store.specs.declared.fault.StoreFault.TheVariants.{Disk, NoMemory as OutOfMemory}

abbrev pub fault_of : DirFault → StoreFault
fault_of Failed = Disk
fault_of NoMemory = OutOfMemory

abbrev pub reading_fault_of : StoreFault → ReadingFault
reading_fault_of Disk = Reading.Disk
reading_fault_of OutOfMemory = Reading.NoMemory

abbrev pub reading_fault_from : DirFault → ReadingFault
reading_fault_from Failed = Reading.Disk
reading_fault_from NoMemory = Reading.NoMemory

-- the part that a fault names is the first one with which something is wrong
abbrev pub BadStoreOf : (List ℕ → Bool) → State → Names → ℕ → ReadingFault → Type 0
BadStoreOf good state folder parts (Reading.BadStore path line) =
    IsBadStore good state folder parts path line
BadStoreOf good state folder parts Reading.Disk = ⊤
BadStoreOf good state folder parts Reading.NoMemory = ⊤

-- ---- ingesting

abbrev pub ingest_fault_of : StoreFault → IngestFault
ingest_fault_of Disk = Ingest.Disk
ingest_fault_of OutOfMemory = Ingest.NoMemory

abbrev pub ingest_fault_of_source : SourceFault → IngestFault
ingest_fault_of_source Source.Failed = Ingest.Read
ingest_fault_of_source Source.NoMemory = Ingest.NoMemory

abbrev pub ingest_fault_of_edges : EdgeFault → IngestFault
ingest_fault_of_edges (Text.BadEdge line) = Ingest.BadEdge line
ingest_fault_of_edges (Text.BigNode line id) = Ingest.BigNode line id
ingest_fault_of_edges Text.TooLarge = Ingest.TooLarge
ingest_fault_of_edges Text.NoMemory = Ingest.NoMemory

abbrev pub ingest_fault_of_commit : CommitFault → IngestFault
ingest_fault_of_commit Commit.Disk = Ingest.Disk
ingest_fault_of_commit Commit.NoMemory = Ingest.NoMemory

abbrev pub fault_of_commit : CommitFault → StoreFault
fault_of_commit Commit.Disk = Disk
fault_of_commit Commit.NoMemory = OutOfMemory
