pub mod Appended
pub mod Digits
pub mod Fronts
pub mod Orders
pub mod Phases
