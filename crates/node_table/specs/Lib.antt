pub mod Names
pub mod Table
pub mod Shown
pub mod Reading
pub mod Programs
pub mod Codes
pub mod Laws
