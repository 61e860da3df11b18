pub mod LabelOrder
pub mod LabelLaws
pub mod Births
pub mod Changes
