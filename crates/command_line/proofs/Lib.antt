pub mod Items
pub mod Fits
pub mod Turns
pub mod Commands
