pub mod Commits
pub mod Faults
pub mod Folders
pub mod Laws
pub mod Paths
