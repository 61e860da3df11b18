pub mod Loops
pub mod Views
pub mod Inner
pub mod Opening
pub mod Whole
pub mod CountingLemmas
pub mod Judged
