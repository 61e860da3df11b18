pub mod Keeping
pub mod Reading
pub mod Lone
pub mod Pairing
pub mod Written
pub mod Putting
pub mod Noting
mod ClosedLists
mod Crews
pub mod Starting
mod Filling
pub mod Ends
pub mod Halts
pub mod Listed
mod EnteredLists
mod Split
mod Entered
pub mod Named
pub mod Left
mod Joined
mod Drawn
pub mod Stopped
mod Seen
mod Parts
mod OneRun
mod Told
pub mod Passed
