pub mod Block
pub mod Documents
pub mod Line
pub mod Literal
pub mod Saying
pub mod Says
pub mod Spans
pub mod Values
