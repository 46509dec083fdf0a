pub mod Leaving
pub mod Choosing
