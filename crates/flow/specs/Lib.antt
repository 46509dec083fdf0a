pub mod Children
pub mod Iterates
pub mod Laws
pub mod Held
pub mod Examples
