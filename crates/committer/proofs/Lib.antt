pub mod CommitLemmas
pub mod FolderLemmas
pub mod JobLemmas
pub mod LawLemmas
pub mod MoveLemmas
pub mod NamesApart
pub mod PathsApart
pub mod SealingLemmas
