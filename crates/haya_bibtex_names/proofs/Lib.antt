pub mod Ends
pub mod FirstWords
pub mod Pointers
pub mod Unlabelled
pub mod NameLists
mod SpacedTexts
