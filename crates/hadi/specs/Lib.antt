pub mod Hadi
pub mod Lawful
pub mod Radii
