pub mod Following
pub mod Parts
pub mod Jobs
pub mod Holding
pub mod Places
pub mod Laws
