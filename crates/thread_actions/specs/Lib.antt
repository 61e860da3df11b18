pub mod Acts
pub mod Readiness
pub mod Results
