pub mod Working
pub mod Trying
pub mod Spending
pub mod Crews
pub mod Closed
pub mod Reports
pub mod Passed
