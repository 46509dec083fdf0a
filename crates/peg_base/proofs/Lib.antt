pub mod Under
pub mod PathOrder
pub mod NameLemmas
