pub mod Answered
pub mod Divided
pub mod LineParts
pub mod ListParts
