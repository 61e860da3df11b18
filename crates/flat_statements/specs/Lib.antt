pub mod Flat
pub mod Forward
pub mod Threads
pub mod Codes
pub mod Follows
pub mod Runs
pub mod Laws
pub mod Passed
