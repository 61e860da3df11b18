pub mod Sums
pub mod Counts
pub mod MovesList
pub mod BooksList
pub mod Numbers
pub mod NumberedList
