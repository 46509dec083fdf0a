pub mod Commands
pub mod Settings
pub mod Options
pub mod Rules
pub mod Meaning
pub mod Limits
pub mod Texts
pub mod Laws
