pub mod Lists
pub mod Standing
pub mod Next
pub mod Acting
pub mod Forking
pub mod Ending
