pub mod Gives
pub mod Counting
pub mod Answers
