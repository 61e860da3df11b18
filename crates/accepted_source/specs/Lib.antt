pub mod Sources
pub mod Calls
pub mod Laws
pub mod Sizes
