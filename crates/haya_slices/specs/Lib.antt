pub mod Coming
pub mod Layout
pub mod Scan
pub mod Sought
