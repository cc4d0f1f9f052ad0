pub mod Elements
pub mod EntryLines
pub mod Lent
pub mod Lines
pub mod Listed
