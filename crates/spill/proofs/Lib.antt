pub mod ChunkLemmas
pub mod EntryLemmas
pub mod LawLemmas
pub mod RunNames
pub mod SpillLemmas
pub mod WritingLemmas
