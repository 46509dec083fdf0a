pub mod Lines
pub mod Blanks
pub mod RecordsBack
pub mod Stages
pub mod Matrices
pub mod MatrixFolders
pub mod SomeTexts
pub mod Chain
