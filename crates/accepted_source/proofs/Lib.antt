pub mod Passing
pub mod Naming
pub mod Functions
pub mod Costs
pub mod Pieces
pub mod Small
