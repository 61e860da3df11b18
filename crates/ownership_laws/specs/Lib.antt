pub mod Counts
pub mod Needs
pub mod Laws
pub mod Holdings
pub mod PointLaws
