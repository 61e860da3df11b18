pub mod Kept
pub mod KeptLends
pub mod Laws
