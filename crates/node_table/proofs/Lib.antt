pub mod Lists
pub mod Showing
pub mod Distinct
pub mod Finding
