pub mod Numbers
pub mod Scopes
pub mod Branches
pub mod Growing
pub mod Slotted
