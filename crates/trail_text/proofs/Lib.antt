pub mod Joined
pub mod Fronts
pub mod Tails
pub mod Order
pub mod Phases
pub mod Readings
pub mod Deciding
