pub mod Breaks
pub mod Joined
pub mod Members
