pub mod Ran
pub mod Passed
