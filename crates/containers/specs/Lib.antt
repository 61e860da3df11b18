pub mod BoundedList
pub mod Lends
