pub mod JoinLemmas
pub mod SettledLemmas
pub mod ShortenLemmas
