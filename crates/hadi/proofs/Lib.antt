pub mod RadiusLemmas
