pub mod Chunks
pub mod Marks
mod ShortNames
