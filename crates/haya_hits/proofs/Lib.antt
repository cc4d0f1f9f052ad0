mod Collected
pub mod Lines
mod Rows
mod ShownKeys
