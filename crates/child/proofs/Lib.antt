pub mod CutLemmas
pub mod FrontLemmas
pub mod GroupLemmas
pub mod HandingLemmas
pub mod FeedingLemmas
pub mod WatchLemmas
pub mod RunLemmas
pub mod EdgesLemmas
