mod Arrays
mod Bits
mod Classes
mod Copies
mod Depths
mod Ending
mod First
mod Lanes
mod Lines
pub mod Listed
pub mod PartsOf
mod Pieces
mod Same
pub mod Scanned
mod Strings
mod Words
