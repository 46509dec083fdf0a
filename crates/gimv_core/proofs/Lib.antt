pub mod DecimalTexts
pub mod Falling
pub mod Fitting
pub mod Numbers
pub mod Rounds
pub mod WeightTexts
