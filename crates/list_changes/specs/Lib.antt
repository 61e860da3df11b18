pub mod Shown
pub mod Seats
pub mod Events
pub mod Parts
