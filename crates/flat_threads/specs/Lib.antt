pub mod Ways
pub mod Along
pub mod Laws
pub mod Passed
