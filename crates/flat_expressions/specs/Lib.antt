pub mod Acts
pub mod Values
pub mod Codes
pub mod Meanings
pub mod Shown
pub mod Laws
pub mod Passed
