pub mod Listing
pub mod DequeLabels
pub mod Naming
pub mod Prefixes
