pub mod TrailText
pub mod Lines
pub mod Reading
pub mod Laws
