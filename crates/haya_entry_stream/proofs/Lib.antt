pub mod ElementLists
pub mod EntryLineLists
pub mod Inputs
pub mod LineLists
pub mod Lists
