pub mod Ends
pub mod AsBase
pub mod Held
pub mod BlockForm
pub mod DiagonalForm
pub mod Examples
