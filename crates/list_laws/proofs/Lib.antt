pub mod Alls
pub mod Images
pub mod Filters
pub mod Ranges
pub mod Orders
pub mod Permutations
pub mod Classes
pub mod Sums
