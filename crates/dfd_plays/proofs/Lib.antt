pub mod Answers
pub mod Peaks
pub mod Plays
pub mod Expansions
pub mod Sums
pub mod Trails
pub mod AsyncPlays
