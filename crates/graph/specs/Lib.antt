pub mod Algorithms
pub mod Edges
pub mod Entries
pub mod Examples
pub mod Laws
pub mod Steps
pub mod Walks
