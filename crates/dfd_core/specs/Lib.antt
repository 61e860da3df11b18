pub mod Running
pub mod Steps
pub mod GiveUps
pub mod Cores
pub mod Plays
pub mod Turns
pub mod Parts
