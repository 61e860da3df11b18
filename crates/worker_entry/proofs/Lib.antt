mod Keyed
mod Left
mod Closed
mod Thefts
pub mod Failed
pub mod HeldFrom
