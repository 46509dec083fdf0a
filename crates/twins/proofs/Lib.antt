pub mod TwinLemmas
pub mod TwinLaws
pub mod NumberLemmas
