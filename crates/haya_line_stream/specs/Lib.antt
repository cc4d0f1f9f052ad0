pub mod Answered
pub mod Streamed
pub mod Turns
