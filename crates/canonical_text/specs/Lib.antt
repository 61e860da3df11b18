pub mod Canonical
pub mod Lines
pub mod Laws
pub mod ParenthesisLaws
