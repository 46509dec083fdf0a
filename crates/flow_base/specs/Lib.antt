pub mod Layouts
pub mod Roles
pub mod Matrices
pub mod Laws
