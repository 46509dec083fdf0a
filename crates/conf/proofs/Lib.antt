pub mod FewWords
pub mod TextLemmas
pub mod LimitLemmas
