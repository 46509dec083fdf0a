pub mod InnerSteps
pub mod ClosedValues
pub mod DiagonalSends
pub mod DiagonalMakes
pub mod DiagonalChain
pub mod ClosedLabels
