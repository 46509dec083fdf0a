pub mod Names
pub mod NameText
pub mod Order
pub mod Tasks
pub mod WordText
