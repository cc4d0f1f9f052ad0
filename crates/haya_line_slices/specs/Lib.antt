pub mod Coming
pub mod EntryLines
pub mod Printed
pub mod Scan
