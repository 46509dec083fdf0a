pub mod Memory
pub mod Voices
pub mod Rosters
pub mod Ends
pub mod Plans
pub mod Reaps
