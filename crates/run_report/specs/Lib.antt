pub mod Shown
pub mod Texts
pub mod Lines
pub mod Reading
