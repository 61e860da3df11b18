pub mod Places
pub mod Acting
pub mod Ending
pub mod Leaving
pub mod Owning
pub mod Deciding
pub mod Readying
pub mod TakingIn
pub mod Taking
pub mod Giving
mod Seated
pub mod Robbing
pub mod Victims
pub mod Wanting
pub mod Stepping
pub mod Filled
