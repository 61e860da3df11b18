mod Inside
mod Tried
mod Chosen
pub mod Sought
mod RobbedLists
mod Over
mod PutOver
mod Beside
mod PutBeside
mod Parted
pub mod Stolen
pub mod Robbing
mod Causes
mod Ended
mod Known
mod SameLanes
mod Robbed
mod Slots
