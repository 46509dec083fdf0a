pub mod Ranks
pub mod Sums
pub mod Lawful
