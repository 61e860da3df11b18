pub mod Turns
pub mod Recorded
pub mod Laws
pub mod Passed
