pub mod BlockLayouts
pub mod BlockRoles
pub mod BlockFolders
pub mod Laws
pub mod Placing
