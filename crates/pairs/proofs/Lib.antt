pub mod Sorting
pub mod PairLemmas
pub mod PrefixLemmas
pub mod HeadLemmas
pub mod TakingLemmas
