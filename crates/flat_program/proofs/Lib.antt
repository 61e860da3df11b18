pub mod Starts
pub mod Threads
pub mod Marks
pub mod Sizes
pub mod Lists
pub mod Entries
pub mod First
