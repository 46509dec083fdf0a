pub mod Cursor
pub mod Lists
pub mod Decimal
pub mod Records
pub mod Pairs
