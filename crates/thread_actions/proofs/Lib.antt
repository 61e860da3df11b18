pub mod Acting
pub mod Seen
