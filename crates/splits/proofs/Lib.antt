pub mod CopyLemmas
pub mod CountLemmas
pub mod CutLemmas
pub mod LineLemmas
pub mod StartLemmas
pub mod TableLemmas
