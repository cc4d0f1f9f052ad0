pub mod Spelled
pub mod Libraries
pub mod Outcomes
pub mod Messages
