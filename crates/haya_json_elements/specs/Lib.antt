pub mod Elements
pub mod Remaining
pub mod Steps
