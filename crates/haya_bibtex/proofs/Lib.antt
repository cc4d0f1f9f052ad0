pub mod Spelling
pub mod Only
