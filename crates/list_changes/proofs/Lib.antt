pub mod Putting
pub mod Leaving
pub mod Stealing
pub mod Seating
pub mod Cutting
pub mod Middles
