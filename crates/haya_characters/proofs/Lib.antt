pub mod Characters
pub mod Bits
