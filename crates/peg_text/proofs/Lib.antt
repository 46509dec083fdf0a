pub mod CursorLemmas
pub mod ListLemmas
pub mod DecimalLemmas
pub mod RecordLemmas
pub mod PairLemmas
