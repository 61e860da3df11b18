pub mod Lists
pub mod Frames
pub mod Measure
pub mod Passed
