pub mod ExampleLemmas
pub mod Keeping
pub mod Lendings
pub mod Says
pub mod Sound
pub mod Steps
pub mod StreamLemmas
pub mod Through
