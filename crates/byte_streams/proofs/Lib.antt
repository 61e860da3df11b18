pub mod Queues
pub mod Streams
