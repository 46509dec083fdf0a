pub mod Sorting
pub mod Pairs
pub mod Prefixes
pub mod Taking
pub mod Laws
