pub mod FieldTexts
pub mod Titles
pub mod Tables
pub mod Languages
pub mod Genres
pub mod Numbers
pub mod Serials
pub mod Addresses
