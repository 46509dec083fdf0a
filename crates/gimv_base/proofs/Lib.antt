pub mod PartLemmas
pub mod GroupLemmas
pub mod ReadingLemmas
pub mod ReadBackLemmas
pub mod LeadingZeros
pub mod EdgeTexts
pub mod IdFields
