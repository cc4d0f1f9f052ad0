pub mod Libraries
pub mod Messages
pub mod Writing
