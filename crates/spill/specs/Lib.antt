pub mod Chunks
pub mod Faults
pub mod Laws
pub mod Lines
pub mod Runs
pub mod Spills
