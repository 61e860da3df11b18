pub mod Size
pub mod Pieces
pub mod Region
pub mod Content
