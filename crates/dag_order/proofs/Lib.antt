pub mod BirthLaws
pub mod LabelLemmas
pub mod BirthLemmas
pub mod OrderLemmas
