pub mod Rows
pub mod Coded
pub mod Statements
pub mod Shown
mod Examples
pub mod Passed
