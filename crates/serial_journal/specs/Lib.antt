pub mod Stops
pub mod Telling
pub mod Journals
