pub mod Exact
pub mod Tests
pub mod Law
pub mod NewNames
