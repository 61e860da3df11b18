pub mod Shown
pub mod Checked
pub mod Forks
pub mod Sought
pub mod Sets
