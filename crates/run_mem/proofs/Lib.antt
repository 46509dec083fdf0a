pub mod BundledLemmas
pub mod Empty
