pub mod Tests
pub mod Rows
pub mod Listed
pub mod Found
pub mod Inserted
