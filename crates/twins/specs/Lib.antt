pub mod Rules
pub mod Laws
pub mod Numbers
pub mod Tasks
