pub mod Steps
pub mod Wanted
pub mod Results
pub mod Orders
pub mod Moves
pub mod Standing
pub mod Readiness
pub mod Passed
