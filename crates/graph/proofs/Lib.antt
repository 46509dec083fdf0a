pub mod AlgorithmLemmas
pub mod ChangeLemmas
pub mod GatherLemmas
pub mod Messages
pub mod Order
pub mod StepLemmas
pub mod WalkLemmas
