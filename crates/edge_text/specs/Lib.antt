pub mod Verdicts
pub mod Edges
pub mod Answers
pub mod Feeding
pub mod Plain
pub mod Unfinished
pub mod Laws
