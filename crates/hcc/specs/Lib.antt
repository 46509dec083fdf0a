pub mod Components
pub mod Lawful
