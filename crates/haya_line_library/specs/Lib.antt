pub mod Opened
pub mod Chain
pub mod Input
pub mod Parts
pub mod TextReading
pub mod Repeats
