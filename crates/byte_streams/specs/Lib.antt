pub mod ByteQueue
pub mod CallPlan
pub mod Faults
pub mod Kept
pub mod ReadFail
pub mod Sink
pub mod Source
