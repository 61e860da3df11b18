pub mod Programs
pub mod Entries
pub mod Lists
pub mod Running
pub mod Marking
