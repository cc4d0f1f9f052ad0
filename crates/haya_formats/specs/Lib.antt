pub mod Bibtex
pub mod Block
pub mod FirstLine
pub mod Foreign
pub mod Formats
pub mod Likeness
