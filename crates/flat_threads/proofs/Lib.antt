pub mod Fewer
pub mod Costs
pub mod Turns
pub mod Rows
pub mod Silent
pub mod Along
pub mod Bridge
pub mod Others
