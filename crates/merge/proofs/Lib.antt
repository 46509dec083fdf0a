pub mod LawLemmas
pub mod LeaderLemmas
pub mod MergeLemmas
pub mod OpenLemmas
pub mod PassLemmas
pub mod SourceLemmas
pub mod StepLemmas
pub mod WriteLemmas
