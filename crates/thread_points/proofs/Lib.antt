pub mod Putting
pub mod Reaching
pub mod Walking
pub mod Alone
pub mod Placing
pub mod Single
pub mod Finishing
pub mod Telling
