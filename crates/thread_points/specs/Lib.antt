pub mod Points
pub mod Threads
pub mod Laws
pub mod Passed
