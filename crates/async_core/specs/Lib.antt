pub mod Running
pub mod Steps
pub mod Aside
pub mod Cores
pub mod Plays
