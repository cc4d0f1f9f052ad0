pub mod Each
pub mod Pairs
pub mod Places
