pub mod Tree
pub mod View
pub mod Laws
pub mod Names
