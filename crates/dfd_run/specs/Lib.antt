pub mod Program
pub mod Seeds
