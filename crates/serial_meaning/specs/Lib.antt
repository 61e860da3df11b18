pub mod Settings
pub mod Doing
pub mod Stacks
pub mod Writing
pub mod Runs
pub mod Ending
pub mod Underway
