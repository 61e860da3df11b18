pub mod Parts
pub mod Standing
pub mod Events
pub mod Laws
pub mod Cuts
