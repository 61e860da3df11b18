pub mod Tries
pub mod Working
