pub mod Rows
pub mod Sets
pub mod Named
pub mod Laws
