pub mod Hands
mod Rows
mod Steps
mod Fronts
mod PutBacks
mod Comings
mod Sits
mod Words
mod Wraps
mod Closing
pub mod NoteLaws
pub mod Left
pub mod Standing
pub mod Resting
pub mod Alone
pub mod Returning
mod Roomy
