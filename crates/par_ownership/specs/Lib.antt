pub mod Environment
pub mod Ownership
pub mod Walk
pub mod Accepted
pub mod Laws
