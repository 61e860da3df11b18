pub mod Threads
pub mod GivenWords
pub mod Seeds
