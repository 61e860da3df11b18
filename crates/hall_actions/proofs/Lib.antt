mod Within
pub mod Reading
mod Places
mod Awaiting
mod AtJoin
mod AtEnd
pub mod Listing
mod Topped
pub mod Joining
pub mod Ending
pub mod InUse
pub mod Notable
pub mod Returned
mod Answered
pub mod Readable
mod Coming
pub mod Readied
pub mod Roomier
pub mod Charging
mod Putting
pub mod Pooled
pub mod ListEvents
mod Handed
pub mod Leaving
