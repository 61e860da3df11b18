pub mod Lists
pub mod Costs
pub mod Functions
