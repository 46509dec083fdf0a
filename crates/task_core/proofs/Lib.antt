pub mod Tasks
pub mod TriedLemmas
pub mod History
pub mod Queue
pub mod Sound
pub mod Alone
pub mod OneAtOnce
pub mod RuleLemmas
