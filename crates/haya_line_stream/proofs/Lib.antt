pub mod Counted
pub mod Ended
pub mod Reading
pub mod Taken
