pub mod Running
pub mod Reaching
pub mod Following
pub mod Ending
pub mod Stepping
pub mod Behind
pub mod Ways
pub mod Turns
mod Examples
pub mod Passed
