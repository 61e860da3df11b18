pub mod Sorting
pub mod Labels
pub mod Changes
pub mod Lists
pub mod Seats
pub mod Passed
