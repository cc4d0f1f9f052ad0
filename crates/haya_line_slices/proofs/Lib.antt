mod Starts
mod FirstLines
mod Ends
mod EntryEnds
mod Rows
mod Entries
pub mod PlainLines
mod EntryRows
