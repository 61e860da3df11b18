pub mod Entries
pub mod Taken
pub mod Compound
pub mod Refused
pub mod Accepted
pub mod Seeking
