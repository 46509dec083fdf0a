pub mod Algebras
pub mod Closings
pub mod Consequences
pub mod Laws
pub mod Texts
pub mod Weights
