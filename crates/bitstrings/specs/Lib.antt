pub mod Bitstrings
pub mod Options
pub mod Radius
pub mod Stream
pub mod Texts
pub mod Words
