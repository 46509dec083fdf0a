pub mod Closing
pub mod DiagonalRoles
pub mod Laws
